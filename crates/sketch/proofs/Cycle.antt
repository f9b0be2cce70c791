-- Why an accepted sketch never returns. Assumes nothing.
-- Along a cycle take the rule that was struck first: all the cycle's rules were left then, so none of them moves the
-- feature that justified the strike against it, while the struck rule moves it. So its value does not come back.
use Rattle.std.proofs.Common.{◌≡◌, ℕ, zero, suc, ◌<◌, ◌≤◌, Bool, true, false, not, ◌&&◌, leb, ◌⊎◌, List, length, set, refl, ◌∙◌, subst, inl, inr, ⊎_elim, arith}
use Rattle.std.proofs.lemmas.List.{get_or-set_other, get_or-replicate}
use Rattle.std.proofs.lemmas.Bool.{and_parts, and_from, and_cases, cases_Bool, cases_lt, cases_eq, both_ways, not-true, not-false, leb-true, le-leb}
use Rattle.sketch.specs.Below.{some_below}
use Rattle.sketch.specs.Rule.{kind_at, entry_at, rule_at, value_at, accepts, steps, Valid, Agree}
use Rattle.sketch.specs.Sieve.{may_raise, may_lower, remains, raised, lowered, justifies, whole, sieve, rules_left}
use Rattle.sketch.specs.Kind.{boolean}
use Rattle.sketch.specs.Laws.{Struck, none, one, NoReturn, NoStandstill, Accepted, AcceptanceSound, SoundEntry}
use Rattle.sketch.specs.declared.feature.Kind.{Kind}
use Rattle.sketch.specs.declared.rule.Entry.{Entry}
use Rattle.sketch.specs.declared.rule.Rule.{Rule}
use Rattle.sketch.proofs.Bounded.{every_at, decides_some, some_from, none_at}
use Rattle.sketch.proofs.Sound.{entries_sound}
use Rattle.sketch.proofs.Strikes.{justified, strikable_parts, sieve_struck, none_flagged}

-- what holds from each number to the next holds from i to j
along : (R : ℕ → ℕ → Type 0) → ((a : ℕ) → R a a) → ((a b c : ℕ) → R a b → R b c → R a c)
    → (g : ℕ → ℕ) (i j : ℕ) → i ≤ j → ((k : ℕ) → i ≤ k → k < j → R (g k) (g (suc k))) → R (g i) (g j)
along R same joined g i zero h each = subst (λ (x : ℕ). R (g x) (g zero)) (let e : zero ≡ i = omega arith in e) (same (g zero))
along R same joined g i (suc j) h each = ⊎_elim
    (λ l. joined (g i) (g j) (g (suc j)) (along R same joined g i j (omega arith) (λ k p q. each k p (omega arith))) (each j (omega arith) (omega arith)))
    (λ l. subst (λ (x : ℕ). R (g x) (g (suc j))) (let e : suc j ≡ i = omega arith in e) (same (g (suc j))))
    (cases_lt i (suc j))

-- a number that never rises on the way, and falls once, ends lower
ends_lower : (g : ℕ → ℕ) (i m j : ℕ) → i ≤ m → m < j → ((k : ℕ) → i ≤ k → k < j → g (suc k) ≤ g k) → g (suc m) < g m → g j < g i
ends_lower g i m j p q each here =
    let R : ℕ → ℕ → Type 0 = λ a b. b ≤ a in
    let before : g m ≤ g i = along R (λ a. omega arith) (λ a b c p q. omega arith) g i m p (λ k s t. each k s (omega arith)) in
    let after : g j ≤ g (suc m) = along R (λ a. omega arith) (λ a b c p q. omega arith) g (suc m) j q (λ k s t. each k (omega arith) t) in
    omega arith

-- and one that never falls, and rises once, ends higher
ends_higher : (g : ℕ → ℕ) (i m j : ℕ) → i ≤ m → m < j → ((k : ℕ) → i ≤ k → k < j → g k ≤ g (suc k)) → g m < g (suc m) → g i < g j
ends_higher g i m j p q each here =
    let before : g i ≤ g m = along ◌≤◌ (λ a. omega arith) (λ a b c p q. omega arith) g i m p (λ k s t. each k s (omega arith)) in
    let after : g (suc m) ≤ g j = along ◌≤◌ (λ a. omega arith) (λ a b c p q. omega arith) g (suc m) j q (λ k s t. each k (omega arith) t) in
    omega arith

-- every number from i below j passes p, or one does not
all_or_one : (p : ℕ → Bool) (i j : ℕ) → ((m : ℕ) → i ≤ m → m < j → p m ≡ true) ⊎ ((m : ℕ) × (i ≤ m) × (m < j) × (p m ≡ false))
all_or_one p i j = ⊎_elim
    (λ t. let s = (decides_some (λ m. leb i m && not (p m)) j).0 t in
    let both = and_parts (leb i s.0) (not (p s.0)) s.2 in
    inr (s.0, leb-true i s.0 both.0, s.1, not-true (p s.0) both.1))
    (λ t. inl (λ m h l. ⊎_elim
    (λ u. absurd (both_ways (leb i m) u (le-leb i m h)))
    (λ u. not-false (p m) u)
    (and_cases (leb i m) (not (p m)) (none_at (λ m. leb i m && not (p m)) j m t l))))
    (cases_Bool (some_below (λ m. leb i m && not (p m)) j))

-- some rule that is left accepts v and w
left_steps : List Kind → List Rule → List Bool → List ℕ → List ℕ → Bool
left_steps ks rs left v w = some_below (λ i. remains left i && accepts ks (rule_at rs i) v w) (length rs)

module _ (ks : List Kind) (rs : List Rule) (at : ℕ → List ℕ) (i j : ℕ) (valid : (k : ℕ) → i ≤ k → k ≤ j → Valid ks (at k)) where
  -- what the entries of a rule say of the step at k that it accepts
  entry_at_step : (r : Rule) (k f : ℕ) → i ≤ k → k < j → f < length ks → accepts ks r (at k) (at (suc k)) ≡ true
      → SoundEntry (kind_at ks f) (entry_at r f) (value_at (at k) f) (value_at (at (suc k)) f)
  unfolding accepts
  entry_at_step r k f h l inside a =
      entries_sound (kind_at ks f) (entry_at r f) (value_at (at k) f) (value_at (at (suc k)) f)
      (valid k h (omega arith) f inside) (valid (suc k) (omega arith) (omega arith) f inside)
      (every_at _ (length ks) f a inside)

  module _ (left : List Bool) (moves : (k : ℕ) → i ≤ k → k < j → left_steps ks rs left (at k) (at (suc k)) ≡ true) where
    -- the rule that accepts the step at k
    mover : (k : ℕ) → i ≤ k → k < j → (a : ℕ) × (a < length rs) × (remains left a ≡ true) × (accepts ks (rule_at rs a) (at k) (at (suc k)) ≡ true)
    unfolding left_steps
    mover k h l =
        let s = (decides_some _ (length rs)).0 (moves k h l) in
        let both = and_parts (remains left s.0) (accepts ks (rule_at rs s.0) (at k) (at (suc k))) s.2 in
        (s.0, s.1, both.0, both.1)

    -- a rule that is left does not do what none that is left may do
    not_mine : (p : Entry → Bool) (f a : ℕ) → some_below (λ b. remains left b && p (entry_at (rule_at rs b) f)) (length rs) ≡ false
        → a < length rs → remains left a ≡ true → p (entry_at (rule_at rs a) f) ≡ false
    not_mine p f a e h here = ⊎_elim
        (λ u. absurd (both_ways (remains left a) u here))
        (λ u. u)
        (and_cases (remains left a) (p (entry_at (rule_at rs a) f)) (none_at _ (length rs) a e h))

    never_rises : (f : ℕ) → f < length ks → raised ks rs left f ≡ false → (k : ℕ) → i ≤ k → k < j → value_at (at (suc k)) f ≤ value_at (at k) f
    unfolding raised
    never_rises f inside e k h l =
        let m = mover k h l in
        (entry_at_step (rule_at rs m.0) k f h l inside m.3).no_rise (not_mine (may_raise (kind_at ks f)) f m.0 e m.1 m.2)

    never_falls : (f : ℕ) → f < length ks → boolean (kind_at ks f) ≡ true → lowered ks rs left f ≡ false
        → (k : ℕ) → i ≤ k → k < j → value_at (at k) f ≤ value_at (at (suc k)) f
    unfolding lowered
    never_falls f inside b e k h l =
        let m = mover k h l in
        (entry_at_step (rule_at rs m.0) k f h l inside m.3).no_fall b (not_mine (may_lower (kind_at ks f)) f m.0 e m.1 m.2)

    -- a strike that the feature f justifies: where its rule accepts a step, f has another value at the end
    justified_moves : (r : Rule) (f : ℕ) → f < length ks → justifies ks rs left r f ≡ true
        → (m : ℕ) → i ≤ m → m < j → accepts ks r (at m) (at (suc m)) ≡ true → value_at (at i) f ≡ value_at (at j) f → ⊥
    justified_moves r f inside e m h l a agree = ⊎_elim
        (λ t. let down : value_at (at j) f < value_at (at i) f =
        ends_lower (λ k. value_at (at k) f) i m j h l (never_rises f inside t.1) ((entry_at_step r m f h l inside a).falls t.0) in
        omega arith)
        (λ t. let b = (and_parts (boolean (kind_at ks f)) _ t.0).0 in
        let up : value_at (at i) f < value_at (at j) f =
        ends_higher (λ k. value_at (at k) f) i m j h l (never_falls f inside b t.1) ((entry_at_step r m f h l inside a).rises t.0) in
        omega arith)
        (justified ks rs left r f e)

    -- a step that no other rule accepts is accepted by the struck one
    by_struck : (s m : ℕ) → i ≤ m → m < j → left_steps ks rs (set left s false) (at m) (at (suc m)) ≡ false → accepts ks (rule_at rs s) (at m) (at (suc m)) ≡ true
    unfolding left_steps
    by_struck s m h l e =
        let a = mover m h l in
        ⊎_elim
        (λ q. subst (λ (x : ℕ). accepts ks (rule_at rs x) (at m) (at (suc m)) ≡ true) q a.3)
        (λ ne. absurd (both_ways _ e (some_from _ (length rs) a.0 a.1
        (and_from _ _ (get_or-set_other left s a.0 false false ne ∙ a.2) a.3))))
        (cases_eq a.0 s)

  -- the first strike of a rule that the cycle uses
  no_cycle : i < j → Agree ks (at i) (at j) → {left last : List Bool} → Struck ks rs left last → ((a : ℕ) → remains last a ≡ false)
      → ((k : ℕ) → i ≤ k → k < j → left_steps ks rs left (at k) (at (suc k)) ≡ true) → ⊥
  no_cycle long agree (none {left}) gone moves =
      let a = mover left moves i (omega arith) long in
      both_ways (remains left a.0) (gone a.0) a.2
  no_cycle long agree (one {left} s can rest) gone moves =
      let f = (strikable_parts ks rs left s can).1 in
      ⊎_elim
      (λ all. no_cycle long agree rest gone all)
      (λ m. justified_moves left moves (rule_at rs s) f.0 f.1 f.2 m.0 m.1 m.2 (by_struck left moves s m.0 m.1 m.2 m.3) (agree f.0 f.1))
      (all_or_one (λ k. left_steps ks rs (set left s false) (at k) (at (suc k))) i j)

-- at the start every rule is left
whole_steps : (ks : List Kind) (rs : List Rule) (v w : List ℕ) → steps ks rs v w ≡ true → left_steps ks rs (whole rs) v w ≡ true
unfolding steps left_steps
whole_steps ks rs v w e =
    let s = (decides_some _ (length rs)).0 e in
    some_from _ (length rs) s.0 s.1 (and_from _ _ (get_or-replicate (length rs) s.0 true false s.1) s.2)

no_return : (ks : List Kind) (rs : List Rule) → Accepted ks rs → NoReturn ks rs
unfolding rules_left
no_return ks rs accepted at n valid each i j h l agree =
    no_cycle ks rs at i j (λ k _ q. valid k (omega arith)) h agree (sieve_struck ks rs) (none_flagged (sieve ks rs) accepted)
    (λ k _ q. whole_steps ks rs (at k) (at (suc k)) (each k (omega arith)))

-- a rule that accepts v twice would make a cycle of one step
no_standstill : (ks : List Kind) (rs : List Rule) → Accepted ks rs → NoStandstill ks rs
unfolding steps
no_standstill ks rs accepted v valid i h = ⊎_elim
    (λ t. absurd (no_return ks rs accepted (λ _. v) 1 (λ _ _. valid) (λ _ _. some_from _ (length rs) i h t) 0 1 (omega arith) (omega arith) (λ f _. refl)))
    (λ t. t)
    (cases_Bool (accepts ks (rule_at rs i) v v))

pub acceptance_sound : AcceptanceSound
acceptance_sound ks rs accepted = (no_return ks rs accepted, no_standstill ks rs accepted)
