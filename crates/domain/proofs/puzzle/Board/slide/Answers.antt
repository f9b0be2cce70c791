use Rattle.std.proofs.Common.{◌≡◌, ℕ, List, length, Some, sym, ap, ◌∙◌, subst}
use Rattle.domain.specs.Moves.{destination, shifted, traded}
use Rattle.domain.specs.Puzzle.{after}
use Rattle.domain.specs.PuzzleLaws.{same_board, after_cells}
use Rattle.domain.specs.Slides.{Inside, gap_below, destination_inside}
use Rattle.domain.specs.Square.{EachOnce, gap}
use Rattle.domain.specs.declared.puzzle.Board.{Board}
use Rattle.domain.proofs.puzzle.Board.slide.Goals as goal

-- the cells with the gap moved are those of the board after the action
moved_cells : (s : Board) (a c : ℕ) (cells : List ℕ) → Some c ≡ destination (gap s.cells) a → cells ≡ traded s.cells (gap s.cells) c
    → cells ≡ (after s a).cells
moved_cells s a c cells e f = f ∙ ap (shifted s.cells) e ∙ sym (after_cells s a)

pub returns-in_default : goal.returns-in_default
returns-in_default c =
    let s = c.args.self.now in
    let a = c.args.action in
    same_board s (after s a) (ap (shifted s.cells) c.in_default.ensures ∙ sym (after_cells s a))

pub traded-requires : goal.traded-requires
traded-requires c =
    let s = c.args.self.now in
    let a = c.args.action in
    subst Inside (sym c.in-Some.ensures) (destination_inside (gap s.cells) a (gap_below s.cells s.nine s.once))

pub invariant_of-result : goal.invariant_of-result
invariant_of-result c =
    let s = c.args.self.now in
    let a = c.args.action in
    let e = moved_cells s a c.in-Some.cell c.traded.result c.in-Some.ensures c.traded.ensures in
    record {
      nine = subst (λ (xs : List ℕ). length xs ≡ 9) (sym e) (after s a).nine;
      once = subst EachOnce (sym e) (after s a).once;
    }

pub returns : goal.returns
returns c =
    let s = c.args.self.now in
    let a = c.args.action in
    same_board _ (after s a) (moved_cells s a c.in-Some.cell c.traded.result c.in-Some.ensures c.traded.ensures)
