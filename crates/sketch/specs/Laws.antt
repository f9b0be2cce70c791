-- What the sieve shows, over valuations alone. Assumes nothing.
use Rattle.std.specs.Prelude.{◌≡◌, ℕ, suc, ◌<◌, ◌≤◌, Bool, true, false, List, length, slice_set}
use Rattle.sketch.specs.Kind.{boolean}
use Rattle.sketch.specs.Rule.{entry_accepts, accepts, steps, rule_at, Fitting, Valid, Agree}
use Rattle.sketch.specs.Sieve.{surely_lowers, surely_raises, may_raise, may_lower, strikable, whole, sieve, rules_left}
use Rattle.sketch.specs.declared.feature.Kind.{Kind}
use Rattle.sketch.specs.declared.rule.Entry.{Entry}
use Rattle.sketch.specs.declared.rule.Rule.{Rule}

-- along valid valuations each of which follows the one before by some rule, no two agree in every feature
abbrev pub NoReturn : List Kind → List Rule → Type 0
NoReturn ks rs =
    (at : ℕ → List ℕ) (n : ℕ)
    → ((k : ℕ) → k ≤ n → Valid ks (at k))
    → ((k : ℕ) → k < n → steps ks rs (at k) (at (suc k)) ≡ true)
    → (i j : ℕ) → i < j → j ≤ n → Agree ks (at i) (at j) → ⊥

-- no rule accepts a valid valuation before and after
abbrev pub NoStandstill : List Kind → List Rule → Type 0
NoStandstill ks rs = (v : List ℕ) → Valid ks v → (i : ℕ) → i < length rs → accepts ks (rule_at rs i) v v ≡ false

-- a sketch of which the sieve leaves no rule is accepted
abbrev pub Accepted : List Kind → List Rule → Type 0
Accepted ks rs = rules_left ks rs ≡ 0

abbrev pub AcceptanceSound : Type 0
AcceptanceSound = (ks : List Kind) (rs : List Rule) → Accepted ks rs → NoReturn ks rs × NoStandstill ks rs

-- from some rules left to others, by strikes of strikable rules in any order
pub data Struck (ks : List Kind) (rs : List Rule) : List Bool → List Bool → Type 0 where
  none : {left : List Bool} → Struck ks rs left left
  one : {left last : List Bool} (i : ℕ) → strikable ks rs left i ≡ true → Struck ks rs (slice_set left i false) last → Struck ks rs left last

-- no rule can be struck
abbrev pub Finished : List Kind → List Rule → List Bool → Type 0
Finished ks rs left = (i : ℕ) → strikable ks rs left i ≡ false

-- the sieve's strikes are such strikes to the end, and all such strikes leave the same rules
abbrev pub OrderFree : Type 0
OrderFree =
    (ks : List Kind) (rs : List Rule)
    → Struck ks rs (whole rs) (sieve ks rs) × Finished ks rs (sieve ks rs)
    × ((last : List Bool) → Struck ks rs (whole rs) last → Finished ks rs last → last ≡ sieve ks rs)

-- of the pairs that an entry accepts
pub record SoundEntry (k : Kind) (e : Entry) (v w : ℕ) : Type 0 where
  pub falls : surely_lowers k e ≡ true → w < v
  pub rises : surely_raises k e ≡ true → v < w
  pub no_rise : may_raise k e ≡ false → w ≤ v
  pub no_fall : boolean k ≡ true → may_lower k e ≡ false → v ≤ w

abbrev pub EntriesSound : Type 0
EntriesSound =
    (k : Kind) (e : Entry) (v w : ℕ) → Fitting k v → Fitting k w → entry_accepts k e v w ≡ true → SoundEntry k e v w
