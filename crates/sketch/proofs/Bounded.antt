-- What the tests over the numbers below n tell. Assumes nothing.
use Rattle.std.proofs.Common.{◌≡◌, ℕ, zero, suc, ◌<◌, ◌≤◌, Bool, true, false, cond, Decides, Option, Some, None, MatchOption, refl, sym, ⊎_elim, arith}
use Rattle.std.proofs.lemmas.Bool.{cases_Bool, both_ways, cases_lt}
use Rattle.std.proofs.lemmas.Bool.Decides.{Decides-below_and, Decides-below_or, same_from_decides}
use Rattle.sketch.specs.Below.{every_below, some_below, lowest}

itself : (b : Bool) → Decides b (b ≡ true)
itself b = (λ e. e, λ e. e)

pub decides_every : (p : ℕ → Bool) (n : ℕ) → Decides (every_below p n) ((k : ℕ) → k < n → p k ≡ true)
unfolding every_below
decides_every p = Decides-below_and p (λ k. p k ≡ true) (every_below p) (λ k. itself (p k)) refl (λ _. refl)

pub decides_some : (p : ℕ → Bool) (n : ℕ) → Decides (some_below p n) ((k : ℕ) × (k < n) × (p k ≡ true))
unfolding some_below
decides_some p = Decides-below_or p (λ k. p k ≡ true) (some_below p) (λ k. itself (p k)) refl (λ _. refl)

pub every_at : (p : ℕ → Bool) (n k : ℕ) → every_below p n ≡ true → k < n → p k ≡ true
every_at p n k e = (decides_every p n).0 e k

pub every_from : (p : ℕ → Bool) (n : ℕ) → ((k : ℕ) → k < n → p k ≡ true) → every_below p n ≡ true
every_from p n = (decides_every p n).1

pub some_from : (p : ℕ → Bool) (n k : ℕ) → k < n → p k ≡ true → some_below p n ≡ true
some_from p n k h e = (decides_some p n).1 (k, h, e)

pub none_at : (p : ℕ → Bool) (n k : ℕ) → some_below p n ≡ false → k < n → p k ≡ false
none_at p n k e h = ⊎_elim (λ t. absurd (both_ways (some_below p n) e (some_from p n k h t))) (λ t. t) (cases_Bool (p k))

pub none_from : (p : ℕ → Bool) (n : ℕ) → ((k : ℕ) → k < n → p k ≡ false) → some_below p n ≡ false
none_from p n each = ⊎_elim (λ t. let s = (decides_some p n).0 t in absurd (both_ways (p s.0) (each s.0 s.1) s.2)) (λ t. t) (cases_Bool (some_below p n))

pub lowest_le : (p : ℕ → Bool) (n : ℕ) → lowest p n ≤ n
unfolding lowest
lowest_le p zero = omega arith
lowest_le p (suc n) = go (p zero) (lowest_le (λ k. p (suc k)) n)
  where
    go : (b : Bool) → lowest (λ k. p (suc k)) n ≤ n → cond b zero (suc (lowest (λ k. p (suc k)) n)) ≤ suc n
    go true h = omega arith
    go false h = omega arith

pub lowest_before : (p : ℕ → Bool) (n k : ℕ) → k < lowest p n → p k ≡ false
unfolding lowest
lowest_before p zero k h = absurd (omega arith)
lowest_before p (suc n) k h = go (p zero) refl k h (λ m. lowest_before (λ j. p (suc j)) n m)
  where
    go : (b : Bool) → p zero ≡ b → (m : ℕ) → m < cond b zero (suc (lowest (λ j. p (suc j)) n))
        → ((m : ℕ) → m < lowest (λ j. p (suc j)) n → p (suc m) ≡ false) → p m ≡ false
    go true e m l rest = absurd (omega arith)
    go false e zero l rest = e
    go false e (suc m) l rest = rest m (omega arith)

pub lowest_passes : (p : ℕ → Bool) (n : ℕ) → lowest p n < n → p (lowest p n) ≡ true
unfolding lowest
lowest_passes p zero h = absurd (omega arith)
lowest_passes p (suc n) h = go (p zero) refl h (lowest_passes (λ j. p (suc j)) n)
  where
    go : (b : Bool) → p zero ≡ b → cond b zero (suc (lowest (λ j. p (suc j)) n)) < suc n
        → (lowest (λ j. p (suc j)) n < n → p (suc (lowest (λ j. p (suc j)) n)) ≡ true)
        → p (cond b zero (suc (lowest (λ j. p (suc j)) n))) ≡ true
    go true e l rest = e
    go false e l rest = rest (omega arith)

-- the one number that passes with none before it, or the end
pub lowest_is : (p : ℕ → Bool) (n m : ℕ) → m ≤ n → ((k : ℕ) → k < m → p k ≡ false) → (m < n → p m ≡ true) → m ≡ lowest p n
lowest_is p n m h before here = ⊎_elim
    (λ l. absurd (both_ways (p m) (lowest_before p n m l) (here (omega (arith, lowest_le p n)))))
    (λ l. ⊎_elim
    (λ l2. absurd (both_ways (p (lowest p n)) (before (lowest p n) l2) (lowest_passes p n (omega arith))))
    (λ l2. omega arith)
    (cases_lt (lowest p n) m))
    (cases_lt m (lowest p n))

-- an answer that says what such a test says is that test
pub every_is : (p : ℕ → Bool) (n : ℕ) (r : Bool) → Decides r ((k : ℕ) → k < n → p k ≡ true) → r ≡ every_below p n
every_is p n r h = same_from_decides r (every_below p n) h (decides_every p n)

pub some_is : (p : ℕ → Bool) (n : ℕ) (r : Bool) → Decides r ((k : ℕ) × (k < n) × (p k ≡ true)) → r ≡ some_below p n
some_is p n r h = same_from_decides r (some_below p n) h (decides_some p n)

pub lowest_found : (p : ℕ → Bool) (n : ℕ) (r : Option ℕ)
    → MatchOption r ((k : ℕ) → k < n → p k ≡ false) (λ i. (i < n) × (p i ≡ true) × ((k : ℕ) → k < i → p k ≡ false))
    → MatchOption r (lowest p n ≡ n) (λ i. (i < n) × (lowest p n ≡ i))
lowest_found p n None h = sym (lowest_is p n n (omega arith) h (λ l. absurd (omega arith)))
lowest_found p n (Some i) h = (h.0, sym (lowest_is p n i (omega arith) h.2 (λ _. h.1)))
