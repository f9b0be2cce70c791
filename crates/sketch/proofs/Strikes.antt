-- Strikes in any order: fewer rules left means more can be struck, so all orders end alike. Assumes nothing.
use Rattle.std.proofs.Common.{◌≡◌, ℕ, zero, suc, ◌<◌, ◌≤◌, Bool, true, false, cond, not, ◌&&◌, ◌⊎◌, List, length, get_or, set, sym, refl, ap, ◌∙◌, subst, inl, inr, ⊎_elim, arith}
use Rattle.std.proofs.lemmas.List.{length-set, length-replicate, get_or-set_same, get_or-set_other, get_or_past, set_past, ext_get_or}
use Rattle.std.proofs.lemmas.List.Sums.{sum_by-set, get_or-le-sum_by, count_by-le-length}
use Rattle.std.proofs.lemmas.Bool.{and_parts, and_from, and_left, or_cases, or_left, or_right, cases_Bool, cases_lt, cases_eq, both_ways, not-true, not_from_false}
use Rattle.sketch.specs.Below.{some_below, lowest}
use Rattle.sketch.specs.Rule.{kind_at, entry_at, rule_at}
use Rattle.sketch.specs.Sieve.{surely_lowers, surely_raises, may_raise, may_lower, remains, raised, lowered, justifies, strikable, strike, strikes, whole, sieve, flagged}
use Rattle.sketch.specs.Laws.{Struck, none, one, Finished, OrderFree}
use Rattle.sketch.specs.declared.feature.Kind.{Kind}
use Rattle.sketch.specs.declared.rule.Entry.{Entry}
use Rattle.sketch.specs.declared.rule.Rule.{Rule}
use Rattle.sketch.proofs.Bounded.{decides_some, some_from, none_at, none_from, lowest_before, lowest_passes}

-- each rule of a is a rule of b
abbrev pub Part : List Bool → List Bool → Type 0
Part a b = (i : ℕ) → remains a i ≡ true → remains b i ≡ true

-- flags, one of them struck
struck_less : (left : List Bool) (i j : ℕ) → remains (set left i false) j ≡ true → remains left j ≡ true
struck_less left i j h = ⊎_elim
    (λ e. ⊎_elim
    (λ l. absurd (both_ways _ (ap (remains (set left i false)) e ∙ get_or-set_same left i false false l) h))
    (λ l. subst (λ (x : List Bool). remains x j ≡ true) (set_past left i false l) h)
    (cases_lt i (length left)))
    (λ ne. sym (get_or-set_other left i j false false ne) ∙ h)
    (cases_eq j i)

part_struck : (a b : List Bool) (i : ℕ) → Part a b → remains a i ≡ false → Part a (set b i false)
part_struck a b i part out j h =
    get_or-set_other b i j false false (λ e. both_ways (remains a j) (ap (remains a) e ∙ out) h) ∙ part j h

same_flags : (a b : List Bool) → length a ≡ length b → Part a b → Part b a → a ≡ b
same_flags a b long ab ba = ext_get_or false a b long (λ i _. ⊎_elim
    (λ t. t ∙ sym (ab i t))
    (λ t. ⊎_elim (λ u. absurd (both_ways (remains a i) t (ba i u))) (λ u. t ∙ sym u) (cases_Bool (remains b i)))
    (cases_Bool (remains a i)))

one_flag : (left : List Bool) (i : ℕ) → remains left i ≡ true → ◌≡◌ {A = ℕ} (cond (get_or left i false) 1 0) 1
one_flag left i e = ap (λ (b : Bool). cond b 1 0) e

pub none_flagged : (left : List Bool) → flagged left ≡ 0 → (i : ℕ) → remains left i ≡ false
none_flagged left e i = ⊎_elim
    (λ t. ⊎_elim
    (λ l. absurd (omega (arith, get_or-le-sum_by (λ b. cond b 1 0) left i false l, one_flag left i t)))
    (λ l. get_or_past left i false l)
    (cases_lt i (length left)))
    (λ t. t)
    (cases_Bool (remains left i))

-- a test on what is left that fails among more rules fails among fewer
fewer : (p : Entry → Bool) (rs : List Rule) (f : ℕ) (a b : List Bool) → Part a b
    → some_below (λ i. remains b i && p (entry_at (rule_at rs i) f)) (length rs) ≡ false
    → some_below (λ i. remains a i && p (entry_at (rule_at rs i) f)) (length rs) ≡ false
fewer p rs f a b part e = none_from _ _ (λ i h. ⊎_elim
    (λ t. let both = and_parts (remains a i) (p (entry_at (rule_at rs i) f)) t in
    absurd (both_ways _ (none_at _ (length rs) i e h) (and_from (remains b i) (p (entry_at (rule_at rs i) f)) (part i both.0) both.1)))
    (λ t. t)
    (cases_Bool (remains a i && p (entry_at (rule_at rs i) f))))

module _ (ks : List Kind) (rs : List Rule) where
  -- what a justified strike says, its cases apart
  pub justified : (left : List Bool) (r : Rule) (f : ℕ) → justifies ks rs left r f ≡ true
      → ((surely_lowers (kind_at ks f) (entry_at r f) ≡ true) × (raised ks rs left f ≡ false))
      ⊎ ((surely_raises (kind_at ks f) (entry_at r f) ≡ true) × (lowered ks rs left f ≡ false))
  unfolding justifies
  justified left r f e = ⊎_elim
      (λ t. let both = and_parts (surely_lowers (kind_at ks f) (entry_at r f)) (not (raised ks rs left f)) t in inl (both.0, not-true _ both.1))
      (λ t. let both = and_parts (surely_raises (kind_at ks f) (entry_at r f)) (not (lowered ks rs left f)) t in inr (both.0, not-true _ both.1))
      (or_cases _ _ e)

  justified_fewer : (a b : List Bool) (r : Rule) (f : ℕ) → Part a b → justifies ks rs b r f ≡ true → justifies ks rs a r f ≡ true
  unfolding justifies raised lowered
  justified_fewer a b r f part e = ⊎_elim
      (λ t. or_left _ _ (and_from _ _ t.0 (not_from_false _ (fewer (may_raise (kind_at ks f)) rs f a b part t.1))))
      (λ t. or_right _ _ (and_from _ _ t.0 (not_from_false _ (fewer (may_lower (kind_at ks f)) rs f a b part t.1))))
      (justified b r f e)

  pub strikable_parts : (left : List Bool) (i : ℕ) → strikable ks rs left i ≡ true
      → (remains left i ≡ true) × ((f : ℕ) × (f < length ks) × (justifies ks rs left (rule_at rs i) f ≡ true))
  unfolding strikable
  strikable_parts left i e =
      let both = and_parts (remains left i) (some_below (justifies ks rs left (rule_at rs i)) (length ks)) e in
      (both.0, (decides_some (justifies ks rs left (rule_at rs i)) (length ks)).0 both.1)

  strikable_fewer : (a b : List Bool) (i : ℕ) → Part a b → remains a i ≡ true → strikable ks rs b i ≡ true → strikable ks rs a i ≡ true
  unfolding strikable
  strikable_fewer a b i part here e =
      let s = (strikable_parts b i e).1 in
      and_from _ _ here (some_from _ (length ks) s.0 s.1 (justified_fewer a b (rule_at rs i) s.0 part s.2))

  gone_not_strikable : (left : List Bool) (i : ℕ) → remains left i ≡ false → strikable ks rs left i ≡ false
  unfolding strikable
  gone_not_strikable left i e = and_left (remains left i) _ e

  -- a rule that an end keeps is never struck on the way to another
  kept : (last : List Bool) → Finished ks rs last → {left other : List Bool} → Struck ks rs left other → Part last left → Part last other
  kept last fin none part = part
  kept last fin (one {left} i s rest) part = kept last fin rest (part_struck last left i part out)
    where
      out : remains last i ≡ false
      out = ⊎_elim (λ t. absurd (both_ways _ (fin i) (strikable_fewer last left i part t s))) (λ t. t) (cases_Bool (remains last i))

  struck_part : {left last : List Bool} → Struck ks rs left last → Part last left
  struck_part none i h = h
  struck_part (one {left} j s rest) i h = struck_less left j i (struck_part rest i h)

  struck_length : {left last : List Bool} → Struck ks rs left last → length last ≡ length left
  struck_length none = refl
  struck_length (one {left} j s rest) = struck_length rest ∙ length-set left j false

  -- the sieve strikes where it can, and stays where it cannot
  stays : (left : List Bool) → length left ≡ length rs → length rs ≤ lowest (strikable ks rs left) (length rs) → strike ks rs left ≡ left
  unfolding strike
  stays left long h = set_past left _ false (omega arith)

  stays_on : (left : List Bool) → strike ks rs left ≡ left → (n : ℕ) → strikes ks rs n left ≡ left
  unfolding strikes
  stays_on left e zero = refl
  stays_on left e (suc n) = ap (strikes ks rs n) e ∙ stays_on left e n

  pub strikes_none : (n : ℕ) (left : List Bool) → length left ≡ length rs → length rs ≤ lowest (strikable ks rs left) (length rs) → strikes ks rs n left ≡ left
  strikes_none n left long h = stays_on left (stays left long h) n

  -- a strike leaves one rule fewer
  pub struck_fewer : (left : List Bool) (i : ℕ) → length left ≡ length rs → i < length rs → lowest (strikable ks rs left) (length rs) ≡ i
      → flagged (set left i false) < flagged left
  struck_fewer left i long h low =
      let passes : strikable ks rs left i ≡ true = subst (λ (k : ℕ). strikable ks rs left k ≡ true) low (lowest_passes (strikable ks rs left) (length rs) (omega (arith, low))) in
      omega (arith, sum_by-set (λ b. cond b 1 0) left i false false (omega arith), one_flag left i (strikable_parts left i passes).0)

  -- and as many strikes as are enough for what was left are one more than those enough for the rest
  pub struck_on : (n : ℕ) (left end : List Bool) (i : ℕ) → length left ≡ length rs → i < length rs → lowest (strikable ks rs left) (length rs) ≡ i
      → flagged left ≤ n → strikes ks rs n left ≡ end → (m : ℕ) × (flagged (set left i false) ≤ m) × (strikes ks rs m (set left i false) ≡ end)
  unfolding strikes strike
  struck_on zero left end i long h low few same = absurd (omega (arith, struck_fewer left i long h low))
  struck_on (suc m) left end i long h low few same =
      (m, omega (arith, struck_fewer left i long h low), ap (λ (k : ℕ). strikes ks rs m (set left k false)) (sym low) ∙ same)

  finished_past : (left : List Bool) → length left ≡ length rs → length rs ≤ lowest (strikable ks rs left) (length rs) → Finished ks rs left
  finished_past left long h i = ⊎_elim
      (λ l. lowest_before (strikable ks rs left) (length rs) i (omega arith))
      (λ l. gone_not_strikable left i (get_or_past left i false (omega arith)))
      (cases_lt i (length rs))

  strikes_struck : (n : ℕ) (left : List Bool) → length left ≡ length rs → Struck ks rs left (strikes ks rs n left)
  unfolding strikes strike
  strikes_struck zero left long = none
  strikes_struck (suc n) left long =
      let rest = strikes_struck n (strike ks rs left) (length-set left (lowest (strikable ks rs left) (length rs)) false ∙ long) in
      ⊎_elim
      (λ l. one (lowest (strikable ks rs left) (length rs)) (lowest_passes (strikable ks rs left) (length rs) l) rest)
      (λ l. subst (λ (x : List Bool). Struck ks rs x (strikes ks rs n (strike ks rs left))) (stays left long l) rest)
      (cases_lt (lowest (strikable ks rs left) (length rs)) (length rs))

  strikes_finished : (n : ℕ) (left : List Bool) → length left ≡ length rs → flagged left ≤ n → Finished ks rs (strikes ks rs n left)
  unfolding strikes strike
  strikes_finished zero left long h = λ i. gone_not_strikable left i (none_flagged left (omega arith) i)
  strikes_finished (suc n) left long h = ⊎_elim
      (λ l. strikes_finished n (strike ks rs left) (length-set left _ false ∙ long)
      (omega (arith, sum_by-set (λ b. cond b 1 0) left (lowest (strikable ks rs left) (length rs)) false false (omega arith), one_flag left _ (strikable_parts left _ (lowest_passes (strikable ks rs left) (length rs) l)).0)))
      (λ l. let e = stays left long l in subst (Finished ks rs) (sym (ap (strikes ks rs n) e ∙ stays_on left e n)) (finished_past left long l))
      (cases_lt (lowest (strikable ks rs left) (length rs)) (length rs))

  long_whole : length (whole rs) ≡ length rs
  long_whole = length-replicate (length rs) true

  pub sieve_struck : Struck ks rs (whole rs) (sieve ks rs)
  unfolding sieve
  sieve_struck = strikes_struck (length rs) (whole rs) long_whole

  pub sieve_finished : Finished ks rs (sieve ks rs)
  unfolding sieve
  sieve_finished = strikes_finished (length rs) (whole rs) long_whole (omega (arith, count_by-le-length (λ b. b) (whole rs), long_whole))

  one_end : (last : List Bool) → Struck ks rs (whole rs) last → Finished ks rs last → last ≡ sieve ks rs
  one_end last way fin =
      same_flags last (sieve ks rs) (struck_length way ∙ sym (struck_length sieve_struck))
      (kept last fin sieve_struck (struck_part way))
      (kept (sieve ks rs) sieve_finished way (struck_part sieve_struck))

pub order_free : OrderFree
order_free ks rs = (sieve_struck ks rs, sieve_finished ks rs, one_end ks rs)
