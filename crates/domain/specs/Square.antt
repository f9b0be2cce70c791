-- Nine pieces in a square of three by three cells, numbered row by row; piece 0 is the gap. Assumes nothing.
use Rattle.std.specs.Prelude.{◌≡◌, ℕ, ◌/◌, ◌%◌, ◌<◌, Bool, not, List, count_by, ◌==◌, nat_eq, slice_index}
use Rattle.std.specs.List.{prefix_len}

-- the piece in a cell
abbrev pub piece_at : List ℕ → ℕ → ℕ
piece_at cells c = slice_index cells c

-- in how many cells a piece stands
unfoldable pub count_of : ℕ → List ℕ → ℕ
count_of p cells = count_by (λ x. nat_eq x p) cells

-- each piece 0 to 8 stands in exactly one cell
abbrev pub EachOnce : List ℕ → Type 0
EachOnce cells = (p : ℕ) → p < 9 → count_of p cells ≡ 1

-- the cell of the gap: how many cells come before the first with piece 0
unfoldable pub gap : List ℕ → ℕ
gap cells = prefix_len (λ x. not (x == 0)) cells

-- the row and the column of a cell
abbrev pub row : ℕ → ℕ
row c = c / 3

abbrev pub column : ℕ → ℕ
column c = c % 3

-- atom 9 * piece + cell is true when the piece stands in the cell
abbrev pub stands : List ℕ → ℕ → Bool
stands cells a = piece_at cells (a % 9) == a / 9
