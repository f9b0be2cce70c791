use Rattle.std.proofs.Common.{◌≡◌, List, ◌∙◌, ap₂}
use Rattle.std.proofs.lemmas.List.{take_all}
use Rattle.sketch.specs.Feature.{kinds_of}
use Rattle.sketch.specs.Sieve.{rules_left}
use Rattle.sketch.specs.declared.feature.Feature.{Feature}
use Rattle.sketch.specs.declared.rule.Rule.{Rule}
use Rattle.sketch.proofs.Cycle.{acceptance_sound}
use Rattle.sketch.proofs.sketch.make.hold.Goals as goal

-- lists that hold all of accepted features and rules are accepted
kept_accepted : (fs gs : List Feature) (rs qs : List Rule) → gs ≡ fs → qs ≡ rs → rules_left (kinds_of fs) rs ≡ 0 → rules_left (kinds_of gs) qs ≡ 0
kept_accepted fs gs rs qs same-fs same-rs none_left = ap₂ (λ (x : List Feature) (y : List Rule). rules_left (kinds_of x) y) same-fs same-rs ∙ none_left

pub invariant_of-result : goal.invariant_of-result
invariant_of-result c =
    let fs = c.first.ensures ∙ take_all 8 _ c.requires.few.0 in
    let rs = c.first-2.ensures ∙ take_all 16 _ c.requires.few.1 in
    record { accepted = kept_accepted _ _ _ _ fs rs c.requires.accepted }

pub returns : goal.returns
returns c =
    let fs = c.first.ensures ∙ take_all 8 _ c.requires.few.0 in
    let rs = c.first-2.ensures ∙ take_all 16 _ c.requires.few.1 in
    let sound = acceptance_sound _ _ (kept_accepted _ _ _ _ fs rs c.requires.accepted) in
    record { given = (fs, rs); no_return = sound.0; no_standstill = sound.1 }
