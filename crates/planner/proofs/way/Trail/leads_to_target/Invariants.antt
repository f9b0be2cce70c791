use Rattle.std.proofs.Common.{◌≡◌, drop}
use Rattle.planner.specs.Way.{actions_of, runs_to_target}
use Rattle.planner.proofs.way.Trail.leads_to_target.Given as goal

-- what is left of the way runs from here just as the whole runs from the start
abbrev pub invariant-loop-step : goal.invariant-loop-step
invariant-loop-step g l =
    let P = g.D.StateModel.meaning l.self.model.now in
    let whole = actions_of l.self.nodes.now l.self.way.now in
    runs_to_target P P.start whole ≡ runs_to_target P l.state (drop l.step whole)
