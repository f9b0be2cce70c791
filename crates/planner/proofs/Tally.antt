-- How many numbers below n pass a test. Assumes nothing.
use Rattle.std.proofs.Common.{◌≡◌, ℕ, zero, suc, ◌+◌, ◌<◌, ◌≤◌, Bool, true, false, refl, ap, subst, ⊎_elim, not-suc-le-zero, arith}
use Rattle.std.proofs.lemmas.Bool.{cases_eq}

abbrev one_if : Bool → ℕ
one_if true = 1
one_if false = 0

pub tally : (ℕ → Bool) → ℕ → ℕ
tally f zero = 0
tally f (suc n) = one_if (f n) + tally f n

one_if_le : (b : Bool) → one_if b ≤ 1
one_if_le true = omega arith
one_if_le false = omega arith

one_if_true : (b : Bool) → b ≡ true → one_if b ≡ 1
one_if_true b e = ap one_if e

one_if_false : (b : Bool) → b ≡ false → one_if b ≡ 0
one_if_false b e = ap one_if e

one_if_mono : (b c : Bool) → (b ≡ true → c ≡ true) → one_if b ≤ one_if c
one_if_mono true c h = let e = one_if_true c (h refl) in omega arith
one_if_mono false c h = omega arith

pub tally_le : (f : ℕ → Bool) (n : ℕ) → tally f n ≤ n
unfolding tally
tally_le f zero = omega arith
tally_le f (suc n) = let a = one_if_le (f n) in let b = tally_le f n in omega arith

-- more numbers pass a weaker test
pub tally_mono : (f h : ℕ → Bool) → ((k : ℕ) → f k ≡ true → h k ≡ true) → (n : ℕ) → tally f n ≤ tally h n
unfolding tally
tally_mono f h weaker zero = omega arith
tally_mono f h weaker (suc n) = let a = one_if_mono (f n) (h n) (weaker n) in let b = tally_mono f h weaker n in omega arith

-- counting: a weaker test that one number more passes is passed by more
pub tally_grows : (f h : ℕ → Bool) → ((k : ℕ) → f k ≡ true → h k ≡ true) → (k n : ℕ) → k < n → f k ≡ false → h k ≡ true
    → tally f n < tally h n
unfolding tally
tally_grows f h weaker k zero within not_yet now = absurd (not-suc-le-zero within)
tally_grows f h weaker k (suc n) within not_yet now =
    ⊎_elim
    (λ here.
    let a = one_if_false (f n) (subst (λ i. f i ≡ false) here not_yet) in
    let b = one_if_true (h n) (subst (λ i. h i ≡ true) here now) in
    let c = tally_mono f h weaker n in omega arith)
    (λ other.
    let a = one_if_mono (f n) (h n) (weaker n) in
    let lower : k < n = omega arith in
    let c = tally_grows f h weaker k n lower not_yet now in omega arith)
    (cases_eq k n)

-- pigeonhole: if a number below n fails, fewer than n pass
pub tally_room : (f : ℕ → Bool) (k n : ℕ) → k < n → f k ≡ false → tally f n < n
tally_room f k n within fails =
    let a = tally_grows f (λ _. true) (λ _ _. refl) k n within fails refl in
    let b = tally_le (λ _. true) n in omega arith
