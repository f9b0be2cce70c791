use Rattle.std.proofs.Common.{◌≡◌, ap, ◌∙◌, arith}
use Rattle.planner.proofs.Steps.{tried_from_expanded}
use Rattle.planner.proofs.task.Task.expand.Goals as goal

pub overflow_add-progress : goal.overflow_add-progress
overflow_add-progress g c =
    let same : c.try_actions.new.progress.expanded ≡ c.args.progress.now.expanded = ap (λ h. h.expanded) c.try_actions.ensures ∙ tried_from_expanded _ _ _ _ _ in
    omega arith
