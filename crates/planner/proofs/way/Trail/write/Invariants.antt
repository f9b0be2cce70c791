use Rattle.std.proofs.Common.{◌≡◌, ℕ, ◌<◌, get_or}
use Rattle.planner.specs.Way.{actions_of}
use Rattle.planner.proofs.way.Trail.write.Given as goal

-- the steps so far are written
abbrev pub invariant-loop-step : goal.invariant-loop-step
invariant-loop-step g l =
    (k : ℕ) → k < l.step → get_or l.place-items k 0 ≡ get_or (actions_of l.self.nodes.now l.self.way.now) k 0
