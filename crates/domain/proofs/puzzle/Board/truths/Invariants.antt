use Rattle.std.proofs.Common.{◌≡◌, ℕ, ◌%◌, ◌&&◌, ltb}
use Rattle.domain.specs.Atoms.{has}
use Rattle.domain.specs.Square.{stands}
use Rattle.domain.proofs.puzzle.Board.truths.Given as goal

-- the atoms of the cells before the place are in
abbrev pub invariant-loop-cell : goal.invariant-loop-cell
invariant-loop-cell l = (a : ℕ) → has l.atoms a ≡ (stands l.self.cells a && ltb (a % 9) l.cell)
