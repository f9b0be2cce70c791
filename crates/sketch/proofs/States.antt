-- What a sketch's acceptance says of states. Assumes nothing.
use Rattle.std.proofs.Common.{ℕ, List, ap}
use Rattle.sketch.specs.Feature.{kinds_of, values_of}
use Rattle.sketch.specs.Rule.{value_at}
use Rattle.sketch.specs.Laws.{NoReturn, NoStandstill}
use Rattle.sketch.specs.Sketch.{features_of, rules_of, StatesApart}
use Rattle.sketch.specs.declared.sketch.Sketch.{Sketch}
use Rattle.sketch.proofs.Cycle.{acceptance_sound}
use Rattle.sketch.proofs.Values.{values_valid}

pub sketch_no_return : (s : Sketch) → NoReturn (kinds_of (features_of s)) (rules_of s)
sketch_no_return s = (acceptance_sound (kinds_of (features_of s)) (rules_of s) s.accepted).0

pub sketch_no_standstill : (s : Sketch) → NoStandstill (kinds_of (features_of s)) (rules_of s)
sketch_no_standstill s = (acceptance_sound (kinds_of (features_of s)) (rules_of s) s.accepted).1

pub states_apart : StatesApart
states_apart s truths n each i j h l e =
    sketch_no_return s (λ k. values_of (features_of s) (truths k)) n (λ k _. values_valid (features_of s) (truths k)) each i j h l
    (λ f _. ap (λ (v : List ℕ). value_at v f) e)
