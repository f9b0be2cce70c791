use Rattle.std.proofs.Common.{◌≡◌, ◌-◌, ◌≤◌, length}
use Rattle.runs.specs.Run.{view}
use Rattle.solver.specs.Solve.{memory, solve_from}
use Rattle.solver.proofs.solve.solve.Given as goal

-- What the solver answers from the start on is what it answers from here on, and each search so far has a row.
abbrev pub invariant-loop-run : goal.invariant-loop-run
invariant-loop-run g l =
    (solve_from l.atoms (length l.initial.rows) 0 (view l.initial.run) (memory l.initial.nodes l.initial.marks l.initial.plan l.initial.rows)
    ≡ solve_from l.atoms (length l.rows - l.made) l.width (view l.run) (memory l.nodes l.marks l.plan l.rows))
    × (l.run.searches ≡ l.made) × (l.made ≤ length l.rows)

abbrev pub decreases-loop-run : goal.decreases-loop-run
decreases-loop-run g l = length l.rows - l.made
