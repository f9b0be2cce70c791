-- What a sliding puzzle means. Assumes nothing.
use Rattle.std.specs.Prelude.{◌≡◌, ℕ, Bool, true, List, filter}
use Rattle.domain.specs.Atoms.{upto, every}
use Rattle.domain.specs.Model.{Meaning}
use Rattle.domain.specs.Moves.{slides, slid}
use Rattle.domain.specs.Slides.{slid_nine, slid_once}
use Rattle.domain.specs.Square.{stands}
use Rattle.domain.specs.declared.puzzle.Board.{Board}

-- the true atoms, rising
unfoldable pub standing : List ℕ → List ℕ
standing cells = filter (stands cells) (upto 81)

-- every listed atom is true
abbrev pub reached : List ℕ → List ℕ → Bool
reached goal cells = every (stands cells) goal

-- the board after an action; the same where it does not apply
unfoldable pub after : Board → ℕ → Board
after s a = record { cells = slid s.cells a; nine = slid_nine s.cells a s.nine; once = slid_once s.cells a s.nine s.once }

-- the puzzle from a start to a board in which every listed atom is true
abbrev pub puzzle : Board → List ℕ → Meaning Board
puzzle start goal = record {
  atoms = 81;
  actions = 4;
  start = start;
  truths = λ s. standing s.cells;
  target = λ s. reached goal s.cells;
  applies = λ s a. slides s.cells a;
  next = after;
}

-- wherever action a applies, action b applies afterwards and leads back
abbrev pub Undoes : ℕ → ℕ → Type 0
Undoes a b = (s : Board) → slides s.cells a ≡ true → (slides (after s a).cells b ≡ true) × (after (after s a) b ≡ s)
