-- Worked examples of sketches: which are accepted, and what the sieve leaves. Assumes nothing.
use Rattle.std.specs.Prelude.{◌≡◌, Bool, true, false, List, [], ◌∷◌, map, Some, None, Option}
use Rattle.domain.specs.Atoms.{none}
use Rattle.domain.specs.declared.refusal.Refusal.{Refusal}
use Rattle.domain.specs.declared.refusal.Refusal.TheVariants.{RulesLeft}
use Rattle.sketch.specs.Examples.{switch, carried, take_up, bring, put_down, come_near, carry_on}
use Rattle.sketch.specs.Fault.{sketch_fault}
use Rattle.sketch.specs.Sieve.{sieve}
use Rattle.sketch.specs.declared.feature.Feature.{Feature}
use Rattle.sketch.specs.declared.feature.Kind.{Kind}
use Rattle.sketch.specs.declared.feature.Kind.TheVariants.{Boolean, TrueCount}
use Rattle.sketch.specs.declared.rule.Rule.{Rule}

-- features of these kinds, over no atoms
abbrev pub of_kinds : List Kind → List Feature
of_kinds ks = map (λ k. record { kind = k; atoms = none }) ks

pub data SketchExample : Type 0 where
  -- features of these kinds and these rules are accepted as a sketch, or refused so
  judged : List Kind → List Rule → Option Refusal → SketchExample
  -- the sieve leaves the rules that have a flag
  leaves : List Kind → List Rule → List Bool → SketchExample

-- what it is for an example of a sketch to hold
abbrev pub SketchSettled : SketchExample → Type 0
SketchSettled (judged ks rs r) = sketch_fault (of_kinds ks) rs ≡ r
SketchSettled (leaves ks rs flags) = sieve ks rs ≡ flags

abbrev pub sketch_examples : List SketchExample
sketch_examples =
    judged (Boolean ∷ TrueCount ∷ []) switch (Some (RulesLeft 2))
    ∷ judged carried (take_up ∷ bring ∷ []) None
    ∷ judged carried (put_down ∷ take_up ∷ []) (Some (RulesLeft 2))
    ∷ judged carried (take_up ∷ bring ∷ come_near ∷ carry_on ∷ []) (Some (RulesLeft 2))
    ∷ leaves carried (take_up ∷ bring ∷ come_near ∷ carry_on ∷ []) (false ∷ false ∷ true ∷ true ∷ [])
    ∷ []
