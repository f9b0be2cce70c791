-- What a rule accepts. A valuation is a list of numbers, one value for each feature. Assumes nothing.
use Rattle.std.specs.Prelude.{◌≡◌, ℕ, ◌<◌, ◌≤◌, Bool, true, cond, ◌&&◌, List, [], length, replicate, ◌==◌, nat_lt, slice_index, slice_index_or}
use Rattle.sketch.specs.Below.{every_below, some_below}
use Rattle.sketch.specs.Entry.{any, same}
use Rattle.sketch.specs.Kind.{boolean}
use Rattle.sketch.specs.declared.feature.Kind.{Kind}
use Rattle.sketch.specs.declared.feature.Kind.TheVariants.{Boolean}
use Rattle.sketch.specs.declared.rule.Condition.{Condition}
use Rattle.sketch.specs.declared.rule.Condition.TheVariants.{Any, Positive, Zero}
use Rattle.sketch.specs.declared.rule.Effect.{Effect}
use Rattle.sketch.specs.declared.rule.Effect.TheVariants.{Same, Free, Up, Down}
use Rattle.sketch.specs.declared.rule.Entry.{Entry}
use Rattle.sketch.specs.declared.rule.Rule.{Rule}

-- the condition holds of the value v
abbrev pub holds : Condition → ℕ → Bool
holds Any v = true
holds Positive v = nat_lt 0 v
holds Zero v = v == 0

-- the effect holds of the values v before and w after
abbrev pub follows : Kind → Effect → ℕ → ℕ → Bool
follows k Same v w = w == v
follows k Free v w = true
follows k Up v w = cond (boolean k) (w == 1) (nat_lt v w)
follows k Down v w = cond (boolean k) (w == 0) (nat_lt w v)

-- an entry accepts the values v and w of its feature
abbrev pub entry_accepts : Kind → Entry → ℕ → ℕ → Bool
entry_accepts k e v w = holds e.when v && follows k e.then v w

-- the entry that says nothing but that the feature stays
abbrev pub blank : Entry
blank = record { when = Any; then = Same }

-- an entry that is so
abbrev pub silent : Entry → Bool
silent e = any e.when && same e.then

-- the rule that names no feature
abbrev pub unnamed : Rule
unnamed = record { entries = replicate 8 blank }

-- what stands past the end of a list of rules
abbrev pub idle : Rule
idle = record { entries = [] }

-- the kind of the feature f, a rule's entry for it, and its value in a valuation
abbrev pub kind_at : List Kind → ℕ → Kind
kind_at ks f = slice_index_or ks f Boolean

abbrev pub entry_at : Rule → ℕ → Entry
entry_at r f = slice_index_or r.entries f blank

abbrev pub value_at : List ℕ → ℕ → ℕ
value_at v f = slice_index v f

-- the rule i of the list
abbrev pub rule_at : List Rule → ℕ → Rule
rule_at rs i = slice_index_or rs i idle

-- a rule accepts the valuations v before and w after: each of its entries does
unfoldable pub accepts : List Kind → Rule → List ℕ → List ℕ → Bool
accepts ks r v w = every_below (λ f. entry_accepts (kind_at ks f) (entry_at r f) (value_at v f) (value_at w f)) (length ks)

-- some rule of the list accepts v and w
unfoldable pub steps : List Kind → List Rule → List ℕ → List ℕ → Bool
steps ks rs v w = some_below (λ i. accepts ks (rule_at rs i) v w) (length rs)

-- a value that a feature of the kind can have
abbrev pub Fitting : Kind → ℕ → Type 0
Fitting k v = boolean k ≡ true → v ≤ 1

-- the Boolean features are at most 1
abbrev pub Valid : List Kind → List ℕ → Type 0
Valid ks v = (f : ℕ) → f < length ks → Fitting (kind_at ks f) (value_at v f)

-- v and w agree in every feature
abbrev pub Agree : List Kind → List ℕ → List ℕ → Type 0
Agree ks v w = (f : ℕ) → f < length ks → value_at v f ≡ value_at w f
