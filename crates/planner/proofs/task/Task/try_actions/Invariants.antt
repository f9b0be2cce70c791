use Rattle.std.proofs.Common.{◌≡◌, ◌-◌}
use Rattle.planner.specs.Search.{snap, given, tried_from}
use Rattle.planner.proofs.task.Task.try_actions.Given as goal

-- what is left to try from here gives what the whole gives
abbrev pub invariant-loop-action : goal.invariant-loop-action
invariant-loop-action g l =
    let Q = given l.self in
    tried_from Q l.state (snap l.initial.nodes l.initial.marks l.initial.progress) 0 Q.problem.actions
    ≡ tried_from Q l.state (snap l.nodes l.marks l.progress) l.action (Q.problem.actions - l.action)
