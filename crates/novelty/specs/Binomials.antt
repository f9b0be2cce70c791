-- How many sets of r there are among n. Assumes nothing.
use Rattle.std.specs.Prelude.{ℕ, zero, suc, ◌+◌, Bool, true, false, ◌&&◌, List, [], ◌∷◌, ◌==◌, slice_index}

-- By Pascal's rule: a set of r + 1 of n + 1 things has the last of them and r of the others, or r + 1 of the others.
-- The proofs go by this rule. It is slow to compute, so it stays shut: the program reads a table, which is tested against it.
unfoldable pub choose : ℕ → ℕ → ℕ
choose n zero = 1
choose zero (suc r) = 0
choose (suc n) (suc r) = choose n r + choose n (suc r)

-- how many sets of atoms below n have fewer than r members
abbrev pub smaller : ℕ → ℕ → ℕ
smaller n zero = 0
smaller n (suc r) = smaller n r + choose n r

-- Pascal's rule as one test of a whole table, in rows of four: entry r of row n is for n and r.

-- the entries of a row are these four
abbrev pub four : List ℕ → ℕ → ℕ → ℕ → ℕ → Bool
four row a b c d = slice_index row 0 == a && (slice_index row 1 == b && (slice_index row 2 == c && slice_index row 3 == d))

-- a row follows from the one before by Pascal's rule
abbrev pub next_row : List ℕ → List ℕ → Bool
next_row row next = four next 1 (slice_index row 0 + slice_index row 1) (slice_index row 1 + slice_index row 2) (slice_index row 2 + slice_index row 3)

-- each of the n rows after a row follows from the one before it
abbrev pub rows_follow : ℕ → List ℕ → List (List ℕ) → Bool
rows_follow zero row rows = true
rows_follow (suc n) row [] = false
rows_follow (suc n) row (next ∷ rows) = next_row row next && rows_follow n next rows

-- row 0 is right, and each of the n rows after it follows from the one before
abbrev pub pascal : ℕ → List (List ℕ) → Bool
pascal n [] = false
pascal n (row ∷ rows) = four row 1 0 0 0 && rows_follow n row rows
