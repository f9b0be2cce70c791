-- What the maker of boards checks and answers. Assumes nothing.
use Rattle.std.specs.Prelude.{◌≡◌, ℕ, Bool, cond, not, ◌&&◌, List, take, Some, None, Ok, Err, Option, Result, nat_lt}
use Rattle.std.specs.List.{prefix_len}
use Rattle.domain.specs.Atoms.{upto}
use Rattle.domain.specs.Model.{among}
use Rattle.domain.specs.Square.{piece_at, EachOnce}
use Rattle.domain.specs.declared.puzzle.Board.{Board}
use Rattle.domain.specs.declared.refusal.Refusal.{Refusal}
use Rattle.domain.specs.declared.refusal.Refusal.TheVariants.{Range}

-- the piece of a cell is one of 0 to 8 and stands in no lower cell
abbrev pub fresh : List ℕ → ℕ → Bool
fresh cells c = nat_lt (piece_at cells c) 9 && not (among (take c cells) (piece_at cells c))

-- the first cell whose piece is past 8 or stands in a lower cell too; 9 where there is none
unfoldable pub first_stale : List ℕ → ℕ
first_stale cells = prefix_len (fresh cells) (upto 9)

-- what is wrong with nine pieces
abbrev pub board_fault : List ℕ → Option Refusal
board_fault pieces = cond (nat_lt (first_stale pieces) 9) (Some (Range (first_stale pieces))) None

-- a board with the pieces as they were given, or what is wrong with them: then some piece does not stand exactly once
abbrev pub BoardMade : List ℕ → Result Board Refusal → Type 0
BoardMade pieces (Ok b) = (board_fault pieces ≡ None) × (b.cells ≡ pieces)
BoardMade pieces (Err e) = (board_fault pieces ≡ Some e) × (EachOnce pieces → ⊥)
