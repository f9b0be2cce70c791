use Rattle.std.proofs.Common.{◌≡◌, ltb, eqb, length, Some, None, ◌∙◌, arith, rules}
use Rattle.std.specs.Prelude.{position}
use Rattle.std.proofs.lemmas.Bool.{cond-true, lt-ltb}
use Rattle.domain.specs.Slides.{gap_below}
use Rattle.domain.specs.Square.{gap}
use Rattle.domain.specs.declared.puzzle.Board.{Board}
use Rattle.domain.proofs.puzzle.Board.gap.Goals as goal

-- the first piece 0 stands in the cell of the gap, and there is one
gap_found : (s : Board) → position (λ x. eqb x 0) s.cells ≡ Some (gap s.cells)
unfolding gap
gap_found s =
    cond-true (ltb (gap s.cells) (length s.cells)) (Some (gap s.cells)) None
    (lt-ltb (gap s.cells) (length s.cells) (omega (arith, s.nine, gap_below s.cells s.nine s.once)))

pub unwrap-requires : goal.unwrap-requires
unwrap-requires c =
    let found = c.cell_of.ensures ∙ gap_found c.args.self.now in
    search rules

pub returns-clause-value : goal.returns-clause-value
returns-clause-value c =
    let found = c.cell_of.ensures ∙ gap_found c.args.self.now in
    search rules

pub returns-clause-inside : goal.returns-clause-inside
returns-clause-inside c =
    let s = c.args.self.now in
    let found = c.cell_of.ensures ∙ gap_found s in
    let value : c.unwrap.result ≡ gap s.cells = search rules in
    omega (arith, gap_below s.cells s.nine s.once)
