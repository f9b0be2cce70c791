-- The true atoms of a board, gathered cell by cell. Assumes nothing.
use Rattle.std.proofs.Common.{◌≡◌, ℕ, ◌+◌, ◌*◌, ◌/◌, ◌%◌, ◌<◌, ◌≤◌, Bool, false, ◌&&◌, ◌||◌, eqb, ltb, List, filter, ap, ◌∙◌, arith}
use mathlib.Core.Path.{fun_ext}
use Rattle.std.proofs.lemmas.Bool.{ne_eqb, lt-ltb}
use Rattle.std.proofs.lemmas.Bool.Decides.{nat_tests}
use Rattle.domain.specs.Atoms.{has, upto, members}
use Rattle.domain.specs.Puzzle.{standing}
use Rattle.domain.specs.Square.{piece_at, stands}
use Rattle.domain.specs.declared.atoms.AtomSet.{AtomSet}
use Rattle.domain.specs.declared.puzzle.Board.{Board}
use Rattle.domain.proofs.Bit.{and_yes}
use Rattle.domain.proofs.Counts.{pieces_below}
use Rattle.domain.proofs.Members.{kept_up_to}

-- one cell more
pub stands_more : (cells : List ℕ) (i a : ℕ) → i < 9
    → ((stands cells a && ltb (a % 9) i) || eqb a (9 * piece_at cells i + i)) ≡ (stands cells a && ltb (a % 9) (i + 1))
stands_more cells i a h = numbers (piece_at cells i) (piece_at cells (a % 9)) (λ e. ap (piece_at cells) e)
  where
    numbers : (p q : ℕ) → (a % 9 ≡ i → q ≡ p) → ((eqb q (a / 9) && ltb (a % 9) i) || eqb a (9 * p + i)) ≡ (eqb q (a / 9) && ltb (a % 9) (i + 1))
    numbers p q e = grind (arith, nat_tests)

-- all cells
pub stands_all : (cells : List ℕ) (a : ℕ) → (stands cells a && ltb (a % 9) 9) ≡ stands cells a
stands_all cells a = and_yes (stands cells a) (ltb (a % 9) 9) (lt-ltb (a % 9) 9 (omega arith))

-- no atom past 80 is true
pub stands_past : (s : Board) (a : ℕ) → 81 ≤ a → stands s.cells a ≡ false
stands_past s a h =
    ne_eqb (piece_at s.cells (a % 9)) (a / 9) (λ e. omega (arith, pieces_below s.cells s.nine s.once (a % 9) (omega arith)))

-- the set of what stands lists the true atoms
pub members_standing : (s : Board) (r : AtomSet) → ((a : ℕ) → has r a ≡ stands s.cells a) → members r ≡ standing s.cells
unfolding members standing
members_standing s r e =
    ap (λ (p : ℕ → Bool). filter p (upto 256)) (fun_ext e)
    ∙ kept_up_to (stands s.cells) 81 256 (omega arith) (λ b h _. stands_past s b h)
