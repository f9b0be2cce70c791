use Rattle.std.proofs.Common.{◌≡◌, ◌<◌, ◌≤◌, true, sym, ap, ◌∙◌, subst, arith}
use Rattle.planner.specs.Search.{snap, goes_on}
use Rattle.planner.proofs.Steps.{advanced_ended, advanced_more, advanced_all, expand_next_kept}
use Rattle.planner.proofs.task.Task.advance.Goals as goal

pub returns-then-not-goes_on : goal.returns-then-not-goes_on
returns-then-not-goes_on g c =
    sym (c.loop.invariant.0 ∙ advanced_ended _ _ _ (sym c.goes_on.ensures ∙ c.if-not-goes_on.true))

pub loop-preserved : goal.loop-preserved
loop-preserved g c =
    let p = c.loop.progress in
    let on : goes_on p.met p.expanded p.kept ≡ true = sym c.goes_on.ensures ∙ c.if-not-goes_on.false in
    let more : c.loop.counter < c.args.budget = omega arith in (
      c.loop.invariant.0 ∙ advanced_more _ _ _ _ _ on c.expand.ensures more,
      subst (λ k. k ≤ c.args.self.now.count) (sym (ap (λ h. h.kept) c.expand.ensures)) (expand_next_kept _ (snap c.loop.nodes c.loop.marks p) c.loop.invariant.1),
    )

pub returns : goal.returns
returns g c =
    let past : c.args.budget ≤ c.loop.counter = omega arith in
    sym (c.loop.invariant.0 ∙ advanced_all _ _ _ _ past)
