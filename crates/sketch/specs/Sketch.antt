-- The features and the rules of a sketch. Assumes nothing.
use Rattle.std.specs.Prelude.{◌≡◌, ℕ, suc, ◌<◌, ◌≤◌, Bool, true, List, ◌≢◌}
use Rattle.sketch.specs.Feature.{kinds_of, values_of}
use Rattle.sketch.specs.Held.{list_of}
use Rattle.sketch.specs.Rule.{steps}
use Rattle.sketch.specs.declared.feature.Feature.{Feature}
use Rattle.sketch.specs.declared.rule.Rule.{Rule}
use Rattle.sketch.specs.declared.sketch.Sketch.{Sketch}

abbrev pub features_of : Sketch → List Feature
features_of s = list_of s.features

abbrev pub rules_of : Sketch → List Rule
rules_of s = list_of s.rules

-- the values of its features where the atoms of the list are the true ones
abbrev pub valuation : Sketch → List ℕ → List ℕ
valuation s truths = values_of (features_of s) truths

-- some rule of it accepts the step between states with these true atoms
abbrev pub accepts_step : Sketch → List ℕ → List ℕ → Bool
accepts_step s from to = steps (kinds_of (features_of s)) (rules_of s) (valuation s from) (valuation s to)

-- along states, by their true atoms, each of which follows the one before by a rule of the sketch, no two have equal values
abbrev pub StatesApart : Type 0
StatesApart =
    (s : Sketch) (truths : ℕ → List ℕ) (n : ℕ)
    → ((k : ℕ) → k < n → accepts_step s (truths k) (truths (suc k)) ≡ true)
    → (i j : ℕ) → i < j → j ≤ n → valuation s (truths i) ≢ valuation s (truths j)
