-- The keys of feature values: below their count, and one for each list of values. Assumes nothing.
use Rattle.std.specs.Prelude.{◌≡◌, ℕ, zero, suc, ◌+◌, ◌-◌, ◌*◌, ◌/◌, ◌%◌, ◌<◌, ◌≤◌, true, false, ltb, List, [], ◌∷◌, length, drop, Some, None, nat_lt, slice_index_or, refl}
use Rattle.std.proofs.Common.{sym, ap, ap₂, ◌∙◌, ⊎_elim, mul-le-mul_left, mul-suc, mul_comm, mul_assoc, le-mul_of_pos_right, arith}
use Rattle.std.proofs.Math.Arith.{digits_div, digits_mod}
use Rattle.std.proofs.lemmas.List.{at_drop_more, drop_more}
use Rattle.std.proofs.lemmas.Bool.{lt-ltb, le-ltb, cases_lt, cond-true, cond-false}
use Rattle.domain.specs.declared.refusal.Refusal.TheVariants.{ManyKeys}
use Rattle.sketch.specs.Feature.{value_of, values_of}
use Rattle.sketch.specs.declared.feature.Feature.{Feature}
use Rattle.sketch.proofs.Values.{value_le_top}
use Rattle.novelty.specs.Values.{base_of, value_key, value_count, bounded_count, values_fault, KeyForValues}

pub count_some : (fs : List Feature) → 1 ≤ value_count fs
count_some [] = omega arith
count_some (f ∷ fs) = let more = le-mul_of_pos_right {m = value_count fs} (base_of f) (count_some fs) in omega arith

-- a digit v below b and a number k below n give v + b k below b n
digit_below : (v b k n : ℕ) → v < b → k < n → v + b * k < b * n
digit_below v b k n small h = let up = mul-le-mul_left {m = suc k} {n = n} b h in omega (arith, mul-suc b k)

pub key_below : (fs : List Feature) (truths : List ℕ) → value_key fs truths < value_count fs
key_below [] truths = omega arith
key_below (f ∷ fs) truths =
    digit_below (value_of f truths) (base_of f) (value_key fs truths) (value_count fs) (let le = value_le_top f truths in omega arith) (key_below fs truths)

-- the features from i on have no more keys than all
pub count_rest : (fs : List Feature) (i : ℕ) → value_count (drop i fs) ≤ value_count fs
count_rest fs zero = omega arith
count_rest [] (suc i) = omega arith
count_rest (f ∷ fs) (suc i) =
    let rest = count_rest fs i in
    let more = le-mul_of_pos_right {m = base_of f} (value_count fs) (omega arith) in
    omega (arith, mul_comm (base_of f) (value_count fs))

-- from v + b k both v and k are read off again
digits_apart : (v w b k l : ℕ) → v < b → w < b → v + b * k ≡ w + b * l → (v ≡ w) × (k ≡ l)
digits_apart v w b k l hv hw e =
    let same : k * b + v ≡ l * b + w = omega (arith, mul_comm b k, mul_comm b l) in (
      sym (digits_mod k hv) ∙ ap (λ n. n % b) same ∙ digits_mod l hw,
      sym (digits_div k hv) ∙ ap (λ n. n / b) same ∙ digits_div l hw,
    )

pub key_for_values : (fs : List Feature) → KeyForValues fs
key_for_values [] s t = (λ _. refl, λ _. refl)
key_for_values (f ∷ fs) s t = (apart (key_for_values fs s t).0, together (key_for_values fs s t).1)
  where
    apart : (value_key fs s ≡ value_key fs t → values_of fs s ≡ values_of fs t)
        → value_key (f ∷ fs) s ≡ value_key (f ∷ fs) t → values_of (f ∷ fs) s ≡ values_of (f ∷ fs) t
    apart rest e =
        let parts = digits_apart (value_of f s) (value_of f t) (base_of f) (value_key fs s) (value_key fs t)
        (let le = value_le_top f s in omega arith) (let le = value_le_top f t in omega arith) e in
        ap₂ (λ (v : ℕ) (vs : List ℕ). v ∷ vs) parts.0 (rest parts.1)

    together : (values_of fs s ≡ values_of fs t → value_key fs s ≡ value_key fs t)
        → values_of (f ∷ fs) s ≡ values_of (f ∷ fs) t → value_key (f ∷ fs) s ≡ value_key (f ∷ fs) t
    together rest e =
        let head : value_of f s ≡ value_of f t = cc in
        let tail : values_of fs s ≡ values_of fs t = cc in
        ap₂ (λ v k. v + base_of f * k) head (rest tail)

-- a loop from the last feature down: one feature more
module _ (fs : List Feature) (i : ℕ) (d : Feature) (above : 0 < i) (inside : i ≤ length fs) where
  rest_more : drop (i - 1) fs ≡ slice_index_or fs (i - 1) d ∷ drop i fs
  rest_more = drop_more fs (i - 1) d (omega arith) ∙ ap (λ k. slice_index_or fs (i - 1) d ∷ drop k fs) (let e : i - 1 + 1 ≡ i = omega arith in e)

  pub count_more : (n b : ℕ) → n ≡ value_count (drop i fs) → b ≡ base_of (slice_index_or fs (i - 1) d) → n * b ≡ value_count (drop (i - 1) fs)
  count_more n b e base = mul_comm n b ∙ ap₂ (λ x y. x * y) base e ∙ sym (ap value_count rest_more)

  pub key_more : (truths : List ℕ) (k v b : ℕ) → k ≡ value_key (drop i fs) truths → v ≡ value_of (slice_index_or fs (i - 1) d) truths
      → b ≡ base_of (slice_index_or fs (i - 1) d) → v + b * k ≡ value_key (drop (i - 1) fs) truths
  key_more truths k v b e value base =
      ap₂ (λ x y. x + y) value (ap₂ (λ x y. x * y) base e) ∙ sym (ap (λ xs. value_key xs truths) rest_more)

-- more keys from some feature on than a measure may have are too many in all
pub many_keys : (fs : List Feature) (i : ℕ) → 65536 < value_count (drop i fs) → bounded_count (value_count fs) ≡ None
many_keys fs i h = let rest = count_rest fs i in cond-true _ _ _ (lt-ltb 65536 (value_count fs) (omega arith))

pub bounded_keys : (n : ℕ) → n ≤ 65536 → Some n ≡ bounded_count n
bounded_keys n h = sym (cond-false _ _ _ (le-ltb 65536 n h))

-- more keys by some features, and one more, than a measure may have are too many in all
pub many_keys_more : (fs : List Feature) (i keys b : ℕ) (d : Feature) → i < length fs → keys * value_count (drop i fs) ≡ value_count fs
    → b ≡ base_of (slice_index_or fs i d) → 65536 < keys * b → 65536 < value_count fs
many_keys_more fs i keys b d inside all base many =
    let split : value_count (drop i fs) ≡ b * value_count (drop (i + 1) fs) =
    at_drop_more value_count fs i d inside ∙ ap (λ x. x * value_count (drop (i + 1) fs)) (sym base) in
    let more = le-mul_of_pos_right {m = value_count (drop (i + 1) fs)} (keys * b) (count_some (drop (i + 1) fs)) in
    omega (arith, more, ap (λ x. keys * x) split, all, mul_assoc keys b (value_count (drop (i + 1) fs)))

-- the key of the features from some on is below the most keys that a measure may have
pub key_small : (fs : List Feature) (i : ℕ) (truths : List ℕ) → value_count fs ≤ 65536 → value_key (drop i fs) truths < 65536
key_small fs i truths few = omega (arith, key_below (drop i fs) truths, count_rest fs i)

-- what it says that a count was told, or was not
module _ (m : ℕ) where
  pub bounded_some : (n : ℕ) → Some n ≡ bounded_count m → (n ≡ m) × (n ≤ 65536)
  bounded_some n e = ⊎_elim
      (λ l. let many = cond-true (nat_lt 65536 m) None (Some m) (lt-ltb 65536 m l) in
      let no : ◌≡◌ {A = ℕ} 0 1 = cc in absurd (omega arith))
      (λ l. let few = cond-false (nat_lt 65536 m) None (Some m) (le-ltb 65536 m l) in
      let same : n ≡ m = cc in (same, omega arith))
      (cases_lt 65536 m)

  pub bounded_none : None ≡ bounded_count m → nat_lt 65536 m ≡ true
  bounded_none e = ⊎_elim
      (λ l. lt-ltb 65536 m l)
      (λ l. let few = cond-false (nat_lt 65536 m) None (Some m) (le-ltb 65536 m l) in
      let no : ◌≡◌ {A = ℕ} 0 1 = cc in absurd (omega arith))
      (cases_lt 65536 m)

-- the faults of at most eight features
module _ (fs : List Feature) (few : ltb 8 (length fs) ≡ false) where
  pub fault_none : (n : ℕ) → (n ≡ value_count fs) × (n ≤ 65536) → values_fault fs ≡ None
  fault_none n told =
      cond-false _ _ _ few ∙ cond-false _ _ _ (le-ltb 65536 (value_count fs) (omega arith))

  pub fault_many : ltb 65536 (value_count fs) ≡ true → values_fault fs ≡ Some ManyKeys
  fault_many many = cond-false _ _ _ few ∙ cond-true _ _ _ many
