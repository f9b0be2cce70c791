use Rattle.std.proofs.Common.{◌<◌, ◌≤◌, sym, ◌∙◌, arith}
use Rattle.planner.proofs.Steps.{tries_end, tries_go_on, no_more_tries}
use Rattle.planner.proofs.task.Task.try_actions.Goals as goal

pub returns-then-is_some : goal.returns-then-is_some
returns-then-is_some g c =
    let n = (g.D.StateModel.meaning c.args.self.now.model.now).actions in
    let more : c.loop-action.action < n = omega arith in
    tries_end _ _ _ _ _ n c.try_action.ensures more (sym c.is_some.ensures ∙ c.if-is_some.true)
    ∙ sym c.loop-action.invariant

pub loop-action-preserved : goal.loop-action-preserved
loop-action-preserved g c =
    let n = (g.D.StateModel.meaning c.args.self.now.model.now).actions in
    let more : c.loop-action.action < n = omega arith in
    c.loop-action.invariant
    ∙ tries_go_on _ _ _ _ _ n c.try_action.ensures more (sym c.is_some.ensures ∙ c.if-is_some.false)

pub returns : goal.returns
returns g c =
    let n = (g.D.StateModel.meaning c.args.self.now.model.now).actions in
    let past : n ≤ c.loop-action.action = omega arith in
    sym (c.loop-action.invariant ∙ no_more_tries _ _ _ _ n past)
