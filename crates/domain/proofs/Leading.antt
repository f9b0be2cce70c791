-- The front of a list that passes a test, by places. Assumes nothing.
use Rattle.std.proofs.Common.{◌≡◌, ℕ, zero, suc, ◌+◌, ◌<◌, ◌≤◌, Bool, true, false, cond, not, ltb, List, [], ◌∷◌, length, get_or, Some, None, Option, sym, refl, ap, ◌∙◌, ⊎_elim, one-add, arith}
use mathlib.Core.Path.{fun_ext}
use Rattle.std.specs.Prelude.{position, option_map}
use Rattle.std.specs.List.{prefix_len}
use Rattle.std.proofs.lemmas.List.{length_push, get_or_push, get_or_append_left}
use Rattle.std.proofs.lemmas.Bool.{cond-true, cond-false, cases_eq, cases_lt, not-true, lt-ltb}
use Rattle.domain.specs.Atoms.{upto}
use Rattle.domain.specs.declared.refusal.Refusal.TheVariants.{Range}

-- every element before the front's end passes
pub leading_passes : {X : Type 0} (p : X → Bool) (xs : List X) (k : ℕ) (d : X) → k < prefix_len p xs → p (get_or xs k d) ≡ true
leading_passes p [] k d h = absurd (omega arith)
leading_passes p (x ∷ xs) k d h = by_case (p x) refl k h (λ j. leading_passes p xs j d)
  where
    by_case : (b : Bool) → p x ≡ b → (k : ℕ) → k < cond b (1 + prefix_len p xs) 0
        → ((j : ℕ) → j < prefix_len p xs → p (get_or xs j d) ≡ true) → p (get_or (x ∷ xs) k d) ≡ true
    by_case true e zero l rest = e
    by_case true e (suc j) l rest = rest j (omega arith)
    by_case false e k l rest = absurd (omega arith)

-- the element at the front's end fails
pub leading_stops : {X : Type 0} (p : X → Bool) (xs : List X) (d : X) → prefix_len p xs < length xs → p (get_or xs (prefix_len p xs) d) ≡ false
leading_stops p [] d h = absurd (omega arith)
leading_stops p (x ∷ xs) d h = by_case (p x) refl h (leading_stops p xs d)
  where
    by_case : (b : Bool) → p x ≡ b → cond b (1 + prefix_len p xs) 0 < suc (length xs)
        → (prefix_len p xs < length xs → p (get_or xs (prefix_len p xs) d) ≡ false) → p (get_or (x ∷ xs) (cond b (1 + prefix_len p xs) 0) d) ≡ false
    by_case true e l rest =
        ap (λ (k : ℕ). p (get_or (x ∷ xs) k d)) (one-add (prefix_len p xs)) ∙ rest (omega arith)
    by_case false e l rest = e

-- the place before which all pass, and at which none does
pub leading_is : {X : Type 0} (p : X → Bool) (xs : List X) (m : ℕ) (d : X) → m ≤ length xs → ((k : ℕ) → k < m → p (get_or xs k d) ≡ true)
    → (m < length xs → p (get_or xs m d) ≡ false) → m ≡ prefix_len p xs
leading_is p [] m d h before here = omega arith
leading_is p (x ∷ xs) zero d h before here = sym (cond-false {A = ℕ} (p x) (1 + prefix_len p xs) 0 (here (omega arith)))
leading_is p (x ∷ xs) (suc m) d h before here =
    let rest = leading_is p xs m d (omega arith) (λ k l. before (suc k) (omega arith)) (λ l. here (omega arith)) in
    let all = cond-true {A = ℕ} (p x) (1 + prefix_len p xs) 0 (before zero (omega arith)) in
    omega arith

pub length_upto : (n : ℕ) → length (upto n) ≡ n
length_upto zero = refl
length_upto (suc n) = omega (arith, length_push (upto n) n, length_upto n)

pub getD_upto : (n k : ℕ) → k < n → get_or (upto n) k 0 ≡ k
getD_upto zero k h = absurd (omega arith)
getD_upto (suc n) k h =
    ⊎_elim (λ e. get_or_push (upto n) n 0 k (length_upto n ∙ sym e) ∙ sym e)
    (λ e. get_or_append_left (upto n) (n ∷ []) 0 k (omega (arith, length_upto n)) ∙ getD_upto n k (omega arith)) (cases_eq k n)

-- the same over the numbers below n
pub leading_upto : (p : ℕ → Bool) (n m : ℕ) → m ≤ n → ((k : ℕ) → k < m → p k ≡ true) → (m < n → p m ≡ false) → m ≡ prefix_len p (upto n)
leading_upto p n m h before here =
    let long = length_upto n in
    leading_is p (upto n) m 0 (omega arith) (λ k l. ap p (getD_upto n k (omega arith)) ∙ before k l)
    (λ l. ap p (getD_upto n m (omega arith)) ∙ here (omega arith))

pub upto_passes : (p : ℕ → Bool) (n k : ℕ) → k < n → n ≤ prefix_len p (upto n) → p k ≡ true
upto_passes p n k h all = ap p (sym (getD_upto n k h)) ∙ leading_passes p (upto n) k 0 (omega arith)

pub upto_stops : (p : ℕ → Bool) (n : ℕ) → prefix_len p (upto n) < n → p (prefix_len p (upto n)) ≡ false
upto_stops p n h =
    ap p (sym (getD_upto n (prefix_len p (upto n)) h)) ∙ leading_stops p (upto n) 0 (omega (arith, length_upto n))

-- the place of the first element that fails, if there is one: it is where the front that passes ends
pub found_front : {X : Type 0} (p : X → Bool) (xs : List X)
    → position (λ x. not (p x)) xs ≡ cond (ltb (prefix_len p xs) (length xs)) (Some (prefix_len p xs)) None
found_front {X} p xs =
    ap (λ (q : X → Bool). cond {A = Option ℕ} (ltb (prefix_len q xs) (length xs)) (Some (prefix_len q xs)) None) (fun_ext (λ x. twice (p x)))
  where
    twice : (b : Bool) → not (not b) ≡ b
    twice true = refl
    twice false = refl

-- what is refused for that place
pub told_place : (b : Bool) (n : ℕ) (o : Option ℕ) → o ≡ cond b (Some n) None → cond b (Some (Range n)) None ≡ option_map Range o
told_place true n o e = ap (λ (p : Option ℕ). option_map Range p) (sym e)
told_place false n o e = ap (λ (p : Option ℕ). option_map Range p) (sym e)

-- where there is no place of an element that passes, each fails
pub none_passes : {X : Type 0} (p : X → Bool) (xs : List X) → position p xs ≡ None → (k : ℕ) (d : X) → k < length xs → p (get_or xs k d) ≡ false
none_passes p xs e k d h =
    not-true _ (leading_passes (λ x. not (p x)) xs k d
    (⊎_elim (λ l. absurd (told l)) (λ l. omega arith) (cases_lt (prefix_len (λ x. not (p x)) xs) (length xs))))
  where
    told : prefix_len (λ x. not (p x)) xs < length xs → ⊥
    told l =
        let f = cond-true {A = Option ℕ} (ltb (prefix_len (λ x. not (p x)) xs) (length xs)) (Some (prefix_len (λ x. not (p x)) xs)) None (lt-ltb _ _ l) in
        let z : ◌≡◌ {A = ℕ} 0 1 = cc in
        omega arith
