-- The pieces counted: where each of n stands once in n cells, the cells hold no other; and where n cells hold n pieces
-- with no repeat, each stands once. Assumes nothing.
use Rattle.std.proofs.Common.{◌≡◌, ℕ, zero, suc, ◌+◌, ◌<◌, ◌≤◌, Bool, true, false, cond, eqb, ltb, List, [], ◌∷◌, length, count_by, sym, refl, ap, ◌∙◌, ⊎_elim, arith}
use Rattle.std.specs.List.{AllByRecursion}
use Rattle.std.proofs.ByRecursion.{All-get_or}
use Rattle.std.proofs.lemmas.List.Sums.{sum_by-cons, count_by-le-length}
use Rattle.std.proofs.lemmas.Bool.{ltb-true, lt-ltb, le-ltb, cond-true, cond-false, cases_eq}
use Rattle.std.proofs.lemmas.Bool.Decides.{nat_tests}
use Rattle.domain.specs.Square.{piece_at, count_of, EachOnce}

-- a test that is one of two others, and never both, counts as much as they do
count_sum : (p q r : ℕ → Bool) → ((x : ℕ) → cond (r x) 1 0 ≡ cond (p x) 1 0 + cond (q x) 1 0) → (xs : List ℕ) → count_by r xs ≡ count_by p xs + count_by q xs
count_sum p q r e [] = refl
count_sum p q r e (x ∷ xs) =
    omega (arith, sum_by-cons (λ y. cond (r y) 1 0) x xs, sum_by-cons (λ y. cond (p y) 1 0) x xs, sum_by-cons (λ y. cond (q y) 1 0) x xs, e x, count_sum p q r e xs)

-- the cells with one of the first n pieces
below : ℕ → List ℕ → ℕ
below n xs = count_by (λ x. ltb x n) xs

below_zero : (xs : List ℕ) → below 0 xs ≡ 0
unfolding below
below_zero [] = refl
below_zero (x ∷ xs) = omega (arith, sum_by-cons (λ y. cond (ltb y 0) 1 0) x xs, cond-false {A = ℕ} (ltb x 0) 1 0 (le-ltb x 0 (omega arith)), below_zero xs)

below_suc : (n : ℕ) (xs : List ℕ) → below (suc n) xs ≡ below n xs + count_of n xs
unfolding below count_of
below_suc n xs = count_sum (λ x. ltb x n) (λ x. eqb x n) (λ x. ltb x (suc n)) one xs
  where
    one : (x : ℕ) → cond (ltb x (suc n)) 1 0 ≡ cond (ltb x n) 1 0 + cond (eqb x n) 1 0
    one x = grind (arith, nat_tests)

below_once : (n : ℕ) (xs : List ℕ) → ((p : ℕ) → p < n → count_of p xs ≡ 1) → below n xs ≡ n
below_once zero xs once = below_zero xs
below_once (suc n) xs once = omega (arith, below_suc n xs, once n (omega arith), below_once n xs (λ p h. once p (omega arith)))

-- where as many pass as there are, all pass
all_counted : (p : ℕ → Bool) (xs : List ℕ) → count_by p xs ≡ length xs → AllByRecursion (λ x. p x ≡ true) xs
all_counted p [] e = tt
all_counted p (x ∷ xs) e = by_case (p x) refl (sym (sum_by-cons (λ y. cond (p y) 1 0) x xs) ∙ e) (all_counted p xs)
  where
    by_case : (b : Bool) → p x ≡ b → cond b 1 0 + count_by p xs ≡ suc (length xs)
        → (count_by p xs ≡ length xs → AllByRecursion (λ y. p y ≡ true) xs) → (p x ≡ true) × AllByRecursion (λ y. p y ≡ true) xs
    by_case true q f rest = (q, rest (omega arith))
    by_case false q f rest = absurd (omega (arith, count_by-le-length p xs))

-- nine cells that hold each piece once hold pieces 0 to 8
pub pieces_below : (cells : List ℕ) → length cells ≡ 9 → EachOnce cells → (c : ℕ) → c < 9 → piece_at cells c < 9
unfolding below
pieces_below cells nine once c h =
    ltb-true (piece_at cells c) 9
    (All-get_or (λ x. ltb x 9 ≡ true) cells c 0 (omega arith) (all_counted (λ x. ltb x 9) cells (below_once 9 cells once ∙ sym nine)))

below_all : (n : ℕ) (xs : List ℕ) → AllByRecursion (λ x. x < n) xs → below n xs ≡ length xs
unfolding below
below_all n [] h = refl
below_all n (x ∷ xs) h =
    omega (arith, sum_by-cons (λ y. cond (ltb y n) 1 0) x xs, cond-true {A = ℕ} (ltb x n) 1 0 (lt-ltb x n h.0), below_all n xs h.1)

below_most : (n : ℕ) (xs : List ℕ) → ((p : ℕ) → p < n → count_of p xs ≤ 1) → below n xs ≤ n
below_most zero xs most = omega (arith, below_zero xs)
below_most (suc n) xs most = omega (arith, below_suc n xs, most n (omega arith), below_most n xs (λ p h. most p (omega arith)))

once_from_most : (n : ℕ) (xs : List ℕ) → ((p : ℕ) → p < n → count_of p xs ≤ 1) → below n xs ≡ n → (p : ℕ) → p < n → count_of p xs ≡ 1
once_from_most zero xs most e p h = absurd (omega arith)
once_from_most (suc n) xs most e p h =
    let few = below_most n xs (λ q l. most q (omega arith)) in
    let here : count_of n xs ≡ 1 = omega (arith, below_suc n xs, most n (omega arith)) in
    ⊎_elim (λ q. ap (λ (k : ℕ). count_of k xs) q ∙ here)
    (λ q. once_from_most n xs (λ k l. most k (omega arith)) (omega (arith, below_suc n xs)) p (omega arith)) (cases_eq p n)

-- nine cells with pieces 0 to 8 and none of them twice hold each once
pub each_once_from : (cells : List ℕ) → length cells ≡ 9 → AllByRecursion (λ x. x < 9) cells → ((p : ℕ) → p < 9 → count_of p cells ≤ 1) → EachOnce cells
each_once_from cells nine all most = once_from_most 9 cells most (below_all 9 cells all ∙ nine)
