use Rattle.std.proofs.Common.{◌≡◌, ℕ, ◌%◌, Bool, ◌&&◌, ◌||◌, eqb, ltb, ap, ◌∙◌, ap₂, arith}
use Rattle.domain.specs.Atoms.{has}
use Rattle.domain.specs.Square.{stands}
use Rattle.domain.proofs.Counts.{pieces_below}
use Rattle.domain.proofs.Standing.{stands_more, stands_all, members_standing}
use Rattle.domain.proofs.puzzle.Board.truths.Goals as goal

pub atom_of-requires : goal.atom_of-requires
atom_of-requires c =
    let s = c.args.self.now in
    (pieces_below s.cells s.nine s.once c.loop-cell.cell (omega arith), omega arith)

pub loop-cell-preserved : goal.loop-cell-preserved
loop-cell-preserved c = λ a.
    let i = c.loop-cell.cell in
    let cells = c.args.self.now.cells in
    c.insert.ensures.membership a
    ∙ ap₂ (λ (b : Bool) (x : ℕ). b || eqb a x) (c.loop-cell.invariant a) c.atom_of.ensures ∙ stands_more cells i a (omega arith)

pub returns : goal.returns
returns c =
    let s = c.args.self.now in
    let end : c.loop-cell.cell ≡ 9 = omega arith in
    let each : (a : ℕ) → has c.loop-cell.atoms a ≡ stands s.cells a =
    λ a. c.loop-cell.invariant a ∙ ap (λ (n : ℕ). stands s.cells a && ltb (a % 9) n) end ∙ stands_all s.cells a in
    record { value = members_standing s c.loop-cell.atoms each; membership = each }
