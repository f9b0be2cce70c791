-- A table that passes the test of Pascal's rule holds `choose n r` as entry r of row n. Assumes nothing.
use Rattle.std.proofs.Common.{◌≡◌, ℕ, zero, suc, ◌+◌, ◌<◌, ◌≤◌, true, false, eqb, List, [], ◌∷◌, get_or, take, sum, refl, ap, sym, ◌∙◌, add_assoc, add-zero, zero-add, arith}
use Rattle.std.proofs.lemmas.List.Sums.{sum_by-cons}
use Rattle.std.proofs.lemmas.Bool.{and_parts, eqb-true}
use Rattle.novelty.specs.Binomials.{choose, smaller, four, next_row, rows_follow, pascal}

-- a row is that of n
abbrev Row : ℕ → List ℕ → Type 0
Row n row = (r : ℕ) → r < 4 → get_or row r 0 ≡ choose n r

-- where the four entries are those of n, so is the row
row_from_four : (row : List ℕ) (n : ℕ) → four row (choose n 0) (choose n 1) (choose n 2) (choose n 3) ≡ true → Row n row
row_from_four row n e =
    let p = and_parts _ _ e in
    let q = and_parts _ _ p.1 in
    let s = and_parts _ _ q.1 in
    λ r h. at r h p.0 q.0 s.0 s.1
  where
    at : (r : ℕ) → r < 4 → eqb (get_or row 0 0) (choose n 0) ≡ true → eqb (get_or row 1 0) (choose n 1) ≡ true
        → eqb (get_or row 2 0) (choose n 2) ≡ true → eqb (get_or row 3 0) (choose n 3) ≡ true → get_or row r 0 ≡ choose n r
    at zero h a b c d = eqb-true _ _ a
    at (suc zero) h a b c d = eqb-true _ _ b
    at (suc (suc zero)) h a b c d = eqb-true _ _ c
    at (suc (suc (suc zero))) h a b c d = eqb-true _ _ d
    at (suc (suc (suc (suc r)))) h a b c d = absurd (omega arith)

-- the row after that of n is that of n + 1
next : (row after : List ℕ) (n : ℕ) → next_row row after ≡ true → Row n row → Row (suc n) after
unfolding choose
next row after n e here =
    let one : get_or row 0 0 ≡ choose n 0 = here 0 (omega arith) in
    row_from_four after (suc n) (rw (one, here 1 (omega arith), here 2 (omega arith), here 3 (omega arith)) at e)

-- where the rows follow from that of n, the row k of them is that of n + k
row_from : (m : ℕ) (row : List ℕ) (rows : List (List ℕ)) (n : ℕ) → rows_follow m row rows ≡ true → Row n row
    → (k : ℕ) (d : List ℕ) → k ≤ m → Row (n + k) (get_or (row ∷ rows) k d)
row_from m row rows n e here zero d l = rw add-zero here
row_from zero row rows n e here (suc k) d l = absurd (omega arith)
row_from (suc m) row [] n e here (suc k) d l = absurd (let no : false ≡ true = e in cc)
row_from (suc m) row (after ∷ rows) n e here (suc k) d l =
    let there : n + suc k ≡ suc n + k = omega arith in
    let p = and_parts (next_row row after) (rows_follow m after rows) e in
    rw there (row_from m after rows (suc n) p.1 (next row after n p.0 here) k d (omega arith))

-- entry r of row k of a table that passes the test
pub entry : (m : ℕ) (t : List (List ℕ)) → pascal m t ≡ true → (k r : ℕ) (d : List ℕ) → k ≤ m → r ≤ 3 → get_or (get_or t k d) r 0 ≡ choose k r
unfolding choose
entry m [] e k r d l h = absurd (let no : false ≡ true = e in cc)
entry m (row ∷ rows) e k r d l h =
    let p = and_parts _ _ e in
    rw zero-add at (row_from m row rows 0 p.1 (row_from_four row 0 p.0) k d l r (omega arith))

sum_take-more : (xs : List ℕ) (k : ℕ) → sum (take (suc k) xs) ≡ sum (take k xs) + get_or xs k 0
sum_take-more [] zero = refl
sum_take-more [] (suc k) = refl
sum_take-more (x ∷ xs) zero = omega arith
sum_take-more (x ∷ xs) (suc k) =
    sum_by-cons (λ n. n) x (take (suc k) xs) ∙ ap (λ n. x + n) (sum_take-more xs k) ∙ sym (add_assoc x (sum (take k xs)) (get_or xs k 0))
    ∙ ap (λ n. n + get_or xs k 0) (sym (sum_by-cons (λ n. n) x (take k xs)))

-- the first k entries of row n have the sum of the binomials
pub row_sum : (row : List ℕ) (n : ℕ) → ((r : ℕ) → r ≤ 3 → get_or row r 0 ≡ choose n r) → (k : ℕ) → k ≤ 4 → sum (take k row) ≡ smaller n k
row_sum row n entries zero h = refl
row_sum row n entries (suc k) h = omega (arith, sum_take-more row k, row_sum row n entries k (omega arith), entries k (omega arith))
