-- Tables of marks: one byte a key, zero for unmarked. Assumes nothing.
use Rattle.std.specs.Prelude.{ℕ, Bool, false, ◌||◌, List, [], ◌∷◌, ◌==◌, slice_index_or, slice_set}

-- key k is unmarked; a key past the table counts as marked
abbrev pub unmarked : List ℕ → ℕ → Bool
unmarked marks k = slice_index_or marks k 1 == 0

-- some key is unmarked
abbrev pub novel : List ℕ → List ℕ → Bool
novel [] marks = false
novel (k ∷ ks) marks = unmarked marks k || novel ks marks

-- the table with 1 at each key; what lies past the table is not written
abbrev pub marked : List ℕ → List ℕ → List ℕ
marked [] marks = marks
marked (k ∷ ks) marks = marked ks (slice_set marks k 1)
