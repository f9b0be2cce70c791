-- What a rule accepts, said without tests. Assumes nothing.
use Rattle.std.specs.Prelude.{◌≡◌, ℕ, ◌<◌, List, length, Decides, MatchBool}
use Rattle.sketch.specs.Kind.{boolean}
use Rattle.sketch.specs.Rule.{accepts, kind_at, entry_at, value_at}
use Rattle.sketch.specs.declared.feature.Kind.{Kind}
use Rattle.sketch.specs.declared.rule.Condition.{Condition}
use Rattle.sketch.specs.declared.rule.Condition.TheVariants.{Any, Positive, Zero}
use Rattle.sketch.specs.declared.rule.Effect.{Effect}
use Rattle.sketch.specs.declared.rule.Effect.TheVariants.{Same, Free, Up, Down}
use Rattle.sketch.specs.declared.rule.Rule.{Rule}

-- the condition holds of the value v: any, above zero, or zero
abbrev pub Met : Condition → ℕ → Type 0
Met Any v = Unit {0}
Met Positive v = 0 < v
Met Zero v = v ≡ 0

-- the effect holds of v and w: the value stays; any; a Boolean is 1 after, a number rises; a Boolean is 0 after, a number falls
abbrev pub Brought : Kind → Effect → ℕ → ℕ → Type 0
Brought k Same v w = w ≡ v
Brought k Free v w = Unit {0}
Brought k Up v w = MatchBool (boolean k) (w ≡ 1) (v < w)
Brought k Down v w = MatchBool (boolean k) (w ≡ 0) (w < v)

-- every condition holds in v, and every effect of v and w
abbrev pub Accepting : List Kind → Rule → List ℕ → List ℕ → Type 0
Accepting ks r v w =
    (f : ℕ) → f < length ks
    → Met (entry_at r f).when (value_at v f) × Brought (kind_at ks f) (entry_at r f).then (value_at v f) (value_at w f)

abbrev pub AcceptsDecided : Type 0
AcceptsDecided = (ks : List Kind) (r : Rule) (v w : List ℕ) → Decides (accepts ks r v w) (Accepting ks r v w)
