use Rattle.std.proofs.Common.{◌≡◌, ◌-◌, ◌≤◌}
use Rattle.planner.specs.Search.{snap, given, advanced}
use Rattle.planner.proofs.task.Task.advance.Given as goal

-- what is left to expand from here gives what the whole gives
abbrev pub invariant-loop : goal.invariant-loop
invariant-loop g l =
    let Q = given l.self in
    (advanced Q l.budget (snap l.initial.nodes l.initial.marks l.initial.progress)
    ≡ advanced Q (l.budget - l.counter) (snap l.nodes l.marks l.progress))
    × (l.progress.kept ≤ Q.count)
