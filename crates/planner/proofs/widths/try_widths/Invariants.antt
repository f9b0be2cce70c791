use Rattle.std.proofs.Common.{◌≡◌, length}
use Rattle.planner.specs.Widths.{ExhaustedBelow, UnmadeFrom}
use Rattle.planner.proofs.widths.try_widths.Given as goal

-- the searches so far were exhausted, the others were not made, and nothing is in the plan yet
abbrev pub invariant-loop-width : goal.invariant-loop-width
invariant-loop-width g l =
    let P = g.D.StateModel.meaning l.model in
    (length l.place-items ≡ 3) × ExhaustedBelow P l.width l.place-items × UnmadeFrom P l.width l.place-items × (l.plan ≡ l.initial.plan)
