-- What the code reads of a sketch, as the definitions say it of the lists. Assumes nothing.
use Rattle.std.proofs.Common.{◌≡◌, ℕ, zero, suc, ◌+◌, ◌<◌, ◌≤◌, List, length, get_or, sym, ◌∙◌, subst, ⊎_elim, arith}
use Rattle.std.proofs.lemmas.Bool.{cases_eq}
use Rattle.std.proofs.lemmas.List.{length-map, length-take}
use Rattle.std.specs.Array.{IsFromFnResultFrom}
use denote.Param.Members.{Mut, Called}
use Rattle.sketch.specs.Below.{every_below, some_below}
use Rattle.sketch.specs.Feature.{value_of}
use Rattle.sketch.specs.Rule.{kind_at, entry_at, rule_at, value_at, entry_accepts, accepts, steps}
use Rattle.sketch.specs.declared.feature.Kind.{Kind}
use Rattle.sketch.specs.declared.rule.Rule.{Rule}
use Rattle.sketch.specs.declared.sketch.Sketch.{Sketch}
use Rattle.sketch.specs.Sketch.{features_of, valuation}

-- valuations that read the same are accepted alike
accepts_same : (ks : List Kind) (r : Rule) (v v' w w' : List ℕ) → ((i : ℕ) → value_at v i ≡ value_at v' i) → ((i : ℕ) → value_at w i ≡ value_at w' i)
    → accepts ks r v w ≡ accepts ks r v' w'
unfolding accepts
accepts_same ks r v v' w w' p q i = every_below (λ f. entry_accepts (kind_at ks f) (entry_at r f) (p f i) (q f i)) (length ks)

pub steps_same : (ks : List Kind) (rs : List Rule) (v v' w w' : List ℕ) → ((i : ℕ) → value_at v i ≡ value_at v' i) → ((i : ℕ) → value_at w i ≡ value_at w' i)
    → steps ks rs v w ≡ steps ks rs v' w'
unfolding steps
steps_same ks rs v v' w w' p q i = some_below (λ k. accepts_same ks (rule_at rs k) v v' w w' p q i) (length rs)

-- what a call for each index from i on has made, where the calls answer v and change nothing
pub each_made : {F B : Type 0} (g : Mut F (ℕ × Unit {0}) B) (f : F) (v : ℕ → B) → ((k : ℕ) (y : B) (q : F) → Called g f (k, tt) y q → (q ≡ f) × (y ≡ v k))
    → (ys : List B) (d : B) (i n : ℕ) → IsFromFnResultFrom g f ys i n → (k : ℕ) → i ≤ k → k < i + n → get_or ys k d ≡ v k
each_made g f v says ys d i zero made k h l = absurd (omega arith)
each_made g f v says ys d i (suc n) made k h l =
    let call = says i made.1 made.0 made.3 in
    ⊎_elim
    (λ e. subst (λ (j : ℕ). get_or ys j d ≡ v j) (sym e) (made.2.1 d ∙ call.1))
    (λ ne. each_made g f v says ys d (i + 1) n (subst (λ q. IsFromFnResultFrom g q ys (i + 1) n) call.0 made.4) k (omega arith) (omega arith))
    (cases_eq k i)

pub few_values : (s : Sketch) (truths : List ℕ) → length (valuation s truths) ≤ 8
few_values s truths = omega (arith, length-map (features_of s) (λ f. value_of f truths), length-take s.features.count s.features.items, s.features.few)
