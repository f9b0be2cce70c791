-- The tables with what was not named, and one above the highest number that was. Assumes nothing.
use Rattle.std.proofs.Common.{◌≡◌, ◌≢◌, ℕ, zero, suc, ◌+◌, ◌<◌, ◌≤◌, max, Bool, true, false, cond, ltb, List, [], ◌∷◌, length, set, map, take, ◌++◌, Some, None, Option, MatchOption, is_some, slice_index_or, sym, refl, ap, ◌∙◌, ⊎_elim, arith, length-take}
use Rattle.std.specs.Array.{IsMapOf}
use Rattle.std.specs.Fn.{Called}
use Rattle.std.specs.List.{list_any}
use Rattle.std.proofs.lemmas.Bool.{cases_lt, lt-ltb, le-ltb}
use Rattle.std.proofs.lemmas.List.{same_lists, length-map, get_or-map, get_or-take, take_at, get_or-set_same, get_or-set_other}
use denote.Param.Members.{Mut}
use Rattle.problem.specs.Tables.{one_past, feature_count, rule_count, feature_added, rule_added}
use Rattle.problem.specs.declared.tables.FeatureRow.{FeatureRow}
use Rattle.problem.specs.declared.tables.FeatureTable.{FeatureTable}
use Rattle.problem.specs.declared.tables.RuleRow.{RuleRow}
use Rattle.problem.specs.declared.tables.RuleTable.{RuleTable}

-- an array that a function made of another, item by item
pub mapped : {F A B : Type 0} {g : Mut F (A × Unit {0}) B} {f : F} (v : A → B) (none : A) (xs : List A) (ys : List B) (n : ℕ) → n ≡ length xs → IsMapOf g f xs ys n
    → ((p : F) (x : A) (y : B) (q : F) → Called g p (x, tt) y q → y ≡ v x) → ys ≡ map v xs
mapped v none xs ys n e h calls =
    same_lists ys (map v xs) (h.long ∙ e ∙ sym (length-map xs v))
    (λ k d l. let call = h.at k none d (omega (arith, h.long)) in calls call.0 _ _ call.1 call.2 ∙ sym (get_or-map v xs k none d (omega (arith, h.long))))

-- the first places, as a loop writes them: what v makes of the first items of a list
module _ {A B : Type 0} (v : A → B) (none : A) (xs : List A) where
  abbrev pub Written : List B → ℕ → Type 0
  Written ys i = (k : ℕ) (e : B) → k < i → slice_index_or ys k e ≡ v (slice_index_or xs k none)

  pub written_more : (ys : List B) (i : ℕ) (y : B) → i < length ys → Written ys i → y ≡ v (slice_index_or xs i none) → Written (set ys i y) (i + 1)
  written_more ys i y inside h same k e l =
      ⊎_elim (λ less. let other : k ≢ i = omega arith in get_or-set_other ys i k y e other ∙ h k e less)
      (λ more. let here : k ≡ i = omega arith in ap (λ j. slice_index_or (set ys i y) j e) here ∙ get_or-set_same ys i y e inside ∙ same
      ∙ sym (ap (λ j. v (slice_index_or xs j none)) here))
      (cases_lt k i)

  pub written_all : (ys rest : List B) (i n : ℕ) → length ys ≡ n → n ≤ i → n ≤ length xs → Written ys i → take n (ys ++ rest) ≡ take n (map v xs)
  written_all ys rest i n long past inside h =
      let size = length-take n (map v xs) in
      let whole : length (map v xs) ≡ length xs = length-map xs v in
      take_at ys rest n long
      ∙ same_lists ys (take n (map v xs)) (omega (arith, long, size, whole))
      (λ k d l. h k d (omega (arith, long)) ∙ sym (get_or-take n (map v xs) k d (omega (arith, long)) ∙ get_or-map v xs k none d (omega (arith, long))))

-- one above the last that passes, as the code finds it
module _ {X : Type 0} (p : X → Bool) (none : X) where
  none_passes : (xs : List X) → ((k : ℕ) → k < length xs → p (slice_index_or xs k none) ≡ false) → one_past p xs ≡ 0
  none_passes [] h = refl
  none_passes (x ∷ xs) h =
      let first : p x ≡ false = h 0 (omega arith) in
      let rest = none_passes xs (λ k l. h (suc k) (omega arith)) in
      simp (first, rest) refl

  last_passes : (xs : List X) (i : ℕ) → i < length xs → p (slice_index_or xs i none) ≡ true → ((k : ℕ) → i < k → k < length xs → p (slice_index_or xs k none) ≡ false) → one_past p xs ≡ i + 1
  last_passes [] i l e h = absurd (omega arith)
  last_passes (x ∷ xs) zero l e h =
      let first : p x ≡ true = e in
      let rest = none_passes xs (λ k l. h (suc k) (omega arith) (omega arith)) in
      simp (first, rest) refl
  last_passes (x ∷ xs) (suc i) l e h =
      let rest = last_passes xs i (omega arith) e (λ k m l. h (suc k) (omega arith) (omega arith)) in
      let some = lt-ltb 0 (one_past p xs) (omega (arith, rest)) in
      simp some (omega (arith, rest))

  pub found_past : (xs : List X) (r : Option ℕ) (m : ℕ)
      → MatchOption r ((k : ℕ) → k < length xs → p (slice_index_or xs k none) ≡ false) (λ i. (i < length xs) × (p (slice_index_or xs i none) ≡ true) × ((k : ℕ) → i < k → k < length xs → p (slice_index_or xs k none) ≡ false))
      → MatchOption r (m ≡ 0) (λ i. m ≡ i + 1) → m ≡ one_past p xs
  found_past xs None m h e = e ∙ sym (none_passes xs h)
  found_past xs (Some i) m h e = e ∙ sym (last_passes xs i h.0 h.1 h.2)

-- what one item changes
at_most : (b : Bool) (k : ℕ) → cond (ltb 0 k) (1 + k) (cond b 1 0) ≤ 1 + k
at_most true k = ⊎_elim (λ l. simp (lt-ltb 0 k l) (omega arith)) (λ l. simp (le-ltb 0 k l) (omega arith)) (cases_lt 0 k)
at_most false k = ⊎_elim (λ l. simp (lt-ltb 0 k l) (omega arith)) (λ l. simp (le-ltb 0 k l) (omega arith)) (cases_lt 0 k)

at_least : (b : Bool) (k : ℕ) → 0 < k → 1 + k ≤ cond (ltb 0 k) (1 + k) (cond b 1 0)
at_least b k l = simp (lt-ltb 0 k l) (omega arith)

at_all : (b : Bool) (k j : ℕ) → k ≤ j → cond (ltb 0 k) (1 + k) (cond b 1 0) ≤ cond (ltb 0 j) (1 + j) (cond b 1 0)
at_all b k j h =
    ⊎_elim (λ l. simp (lt-ltb 0 k l, lt-ltb 0 j (omega arith)) (omega arith))
    (λ l. ⊎_elim (λ m. simp (le-ltb 0 k l, lt-ltb 0 j m) (small b)) (λ m. simp (le-ltb 0 k l, le-ltb 0 j m) (omega arith)) (cases_lt 0 j))
    (cases_lt 0 k)
  where
    small : (c : Bool) → cond c 1 0 ≤ 1 + j
    small true = omega arith
    small false = omega arith

at_named : (b : Bool) (k : ℕ) → cond (ltb 0 k) (1 + k) (cond b 1 0) ≤ cond (ltb 0 k) (1 + k) 1
at_named true k = omega arith
at_named false k = ⊎_elim (λ l. simp (lt-ltb 0 k l) (omega arith)) (λ l. simp (le-ltb 0 k l) (omega arith)) (cases_lt 0 k)

pub one_past_le : {X : Type 0} (p : X → Bool) (xs : List X) → one_past p xs ≤ length xs
one_past_le p [] = omega arith
one_past_le p (x ∷ xs) = omega (arith, at_most (p x) (one_past p xs), one_past_le p xs)

one_past_set : {X : Type 0} (p : X → Bool) (xs : List X) (i : ℕ) (y : X) → one_past p (set xs i y) ≤ max (one_past p xs) (i + 1)
one_past_set p [] i y = omega arith
one_past_set p (x ∷ xs) zero y =
    let k = one_past p xs in
    ⊎_elim (λ l. omega (arith, at_most (p y) k, at_least (p x) k l)) (λ l. omega (arith, at_most (p y) k)) (cases_lt 0 k)
one_past_set p (x ∷ xs) (suc i) y =
    let k = one_past p xs in
    let j = one_past p (set xs i y) in
    let h = one_past_set p xs i y in
    ⊎_elim (λ l. omega (arith, at_most (p x) j, at_least (p x) k l, h)) (λ l. omega (arith, at_most (p x) j, h)) (cases_lt 0 k)

one_past_grows : {X : Type 0} (p : X → Bool) (xs : List X) (i : ℕ) (y : X) → p y ≡ true → one_past p xs ≤ one_past p (set xs i y)
one_past_grows p [] i y e = omega arith
one_past_grows p (x ∷ xs) zero y e = simp e (at_named (p x) (one_past p xs))
one_past_grows p (x ∷ xs) (suc i) y e = at_all (p x) (one_past p xs) (one_past p (set xs i y)) (one_past_grows p xs i y e)

pub feature_raised : (t : FeatureTable) (row : FeatureRow) → feature_count (feature_added t row) ≤ max (feature_count t) (row.feature + 1)
feature_raised t row = one_past_set is_some t.features row.feature _

pub feature_grows : (t : FeatureTable) (row : FeatureRow) → feature_count t ≤ feature_count (feature_added t row)
feature_grows t row = one_past_grows is_some t.features row.feature _ refl

pub rule_raised : (t : RuleTable) (row : RuleRow) → rule_count (rule_added t row) ≤ max (rule_count t) (row.rule + 1)
rule_raised t row = one_past_set (list_any is_some) t.entries row.rule _
