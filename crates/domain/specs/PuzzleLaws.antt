-- A sliding puzzle is a lawful model, and boards with the same cells are the same. Assumes nothing.
use Rattle.std.specs.Prelude.{◌≡◌, ℕ, ◌<◌, ◌≤◌, false, List, length, is_some, Some, None, Option, ◌==◌, refl}
use Rattle.std.proofs.Common.{ap, ◌∙◌, arith}
use mathlib.Core.HLevel.{is_prop→PathP, Π_prop}
use Rattle.std.proofs.Math.Nat.{ℕ_set}
use Rattle.std.specs.List.{AllByRecursion}
use Rattle.std.proofs.ByRecursion.{all_kept_by}
use Rattle.std.proofs.lemmas.Bool.{cond-false, ne_eqb, true≢false}
use Rattle.domain.specs.Atoms.{upto}
use Rattle.domain.specs.Listed.{upto_below, kept_rising}
use Rattle.domain.specs.Model.{Rising, Lawful}
use Rattle.domain.specs.Moves.{direction_of, neighbour, destination, shifted, slides, slid}
use Rattle.domain.specs.Puzzle.{standing, after, puzzle}
use Rattle.domain.specs.Square.{EachOnce, gap, stands}
use Rattle.domain.specs.declared.puzzle.Board.{Board}
use Rattle.domain.specs.declared.puzzle.Direction.{Direction}

-- the facts of a board have one proof each
pub same_board : (s t : Board) → s.cells ≡ t.cells → s ≡ t
same_board s t p = λ i. record {
  cells = p i;
  nine = is_prop→PathP (λ j. length (p j) ≡ 9) (λ j. ℕ_set (length (p j)) 9) s.nine t.nine i;
  once = is_prop→PathP (λ j. EachOnce (p j)) (λ j. Π_prop (λ q. Π_prop (λ h. ℕ_set _ _))) s.once t.once i;
}

pub after_cells : (s : Board) (a : ℕ) → (after s a).cells ≡ slid s.cells a
unfolding after
after_cells s a = refl

pub no_direction : (a : ℕ) → 4 ≤ a → direction_of a ≡ None
no_direction a h =
    cond-false (a == 0) _ _ (ne_eqb a 0 (λ e. omega arith)) ∙ cond-false (a == 1) _ _ (ne_eqb a 1 (λ e. omega arith))
    ∙ cond-false (a == 2) _ _ (ne_eqb a 2 (λ e. omega arith)) ∙ cond-false (a == 3) _ _ (ne_eqb a 3 (λ e. omega arith))

slides_past : (cells : List ℕ) (a : ℕ) → 4 ≤ a → slides cells a ≡ false
slides_past cells a h =
    ap (λ (o : Option Direction). is_some {T = ℕ} (elim o [ Some w ↦ neighbour (gap cells) w | None ↦ None ])) (no_direction a h)

shifted_none : (cells : List ℕ) (o : Option ℕ) → is_some o ≡ false → shifted cells o ≡ cells
shifted_none cells (Some c) e = absurd (true≢false e)
shifted_none cells None e = refl

standing_rising : (cells : List ℕ) → Rising (standing cells)
unfolding standing
standing_rising cells = kept_rising (stands cells) 81

standing_below : (cells : List ℕ) → AllByRecursion (λ a. a < 81) (standing cells)
unfolding standing
standing_below cells = all_kept_by (stands cells) (λ a. a < 81) (upto 81) (upto_below 81)

pub puzzle_lawful : (start : Board) (goal : List ℕ) → Lawful (puzzle start goal)
puzzle_lawful start goal = record {
  some_atoms = omega arith;
  few_atoms = omega arith;
  few_actions = omega arith;
  rising = λ s. standing_rising s.cells;
  below = λ s. standing_below s.cells;
  past = λ s a h. slides_past s.cells a h;
  stays = λ s a e. same_board (after s a) s (after_cells s a ∙ shifted_none s.cells (destination (gap s.cells) a) e);
}
