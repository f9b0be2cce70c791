-- The tests of a rule decide what the plain words say. Assumes nothing.
use Rattle.std.proofs.Common.{◌≡◌, ℕ, ◌<◌, Bool, true, false, cond, eqb, ltb, length, Decides, MatchBool, refl}
use Rattle.std.proofs.lemmas.Bool.Decides.{Decides-eqb, Decides-ltb, Decides-and}
use Rattle.sketch.specs.Kind.{boolean}
use Rattle.sketch.specs.Rule.{holds, follows, accepts, kind_at, entry_at, value_at, entry_accepts}
use Rattle.sketch.specs.Words.{Met, Brought, AcceptsDecided}
use Rattle.sketch.specs.declared.feature.Kind.{Kind}
use Rattle.sketch.specs.declared.rule.Condition.{Condition}
use Rattle.sketch.specs.declared.rule.Condition.TheVariants.{Any, Positive, Zero}
use Rattle.sketch.specs.declared.rule.Effect.{Effect}
use Rattle.sketch.specs.declared.rule.Effect.TheVariants.{Same, Free, Up, Down}
use Rattle.sketch.proofs.Bounded.{decides_every}

decides_met : (c : Condition) (v : ℕ) → Decides (holds c v) (Met c v)
decides_met Any v = (λ _. tt, λ _. refl)
decides_met Positive v = Decides-ltb 0 v
decides_met Zero v = Decides-eqb v 0

either : {P Q : Type 0} (b x y : Bool) → Decides x P → Decides y Q → Decides (cond b x y) (MatchBool b P Q)
either true x y p q = p
either false x y p q = q

decides_brought : (k : Kind) (e : Effect) (v w : ℕ) → Decides (follows k e v w) (Brought k e v w)
decides_brought k Same v w = Decides-eqb w v
decides_brought k Free v w = (λ _. tt, λ _. refl)
decides_brought k Up v w = either (boolean k) (eqb w 1) (ltb v w) (Decides-eqb w 1) (Decides-ltb v w)
decides_brought k Down v w = either (boolean k) (eqb w 0) (ltb w v) (Decides-eqb w 0) (Decides-ltb w v)

pub accepts_decided : AcceptsDecided
unfolding accepts
accepts_decided ks r v w = (
  λ t f h. (each f).0 (all.0 t f h),
  λ a. all.1 (λ f h. (each f).1 (a f h)),
)
  where
    each : (f : ℕ) → Decides (entry_accepts (kind_at ks f) (entry_at r f) (value_at v f) (value_at w f))
        (Met (entry_at r f).when (value_at v f) × Brought (kind_at ks f) (entry_at r f).then (value_at v f) (value_at w f))
    each f =
        Decides-and (holds (entry_at r f).when (value_at v f)) (follows (kind_at ks f) (entry_at r f).then (value_at v f) (value_at w f))
        (decides_met (entry_at r f).when (value_at v f)) (decides_brought (kind_at ks f) (entry_at r f).then (value_at v f) (value_at w f))

    all : Decides (accepts ks r v w) ((f : ℕ) → f < length ks → entry_accepts (kind_at ks f) (entry_at r f) (value_at v f) (value_at w f) ≡ true)
    all = decides_every (λ f. entry_accepts (kind_at ks f) (entry_at r f) (value_at v f) (value_at w f)) (length ks)
