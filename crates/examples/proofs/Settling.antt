-- Each example is computed from the definitions. Assumes nothing.
use Rattle.std.proofs.Common.{ℕ, refl}
use Rattle.std.specs.List.{AllByRecursion}
use Rattle.domain.specs.Atoms.{members}
use Rattle.novelty.specs.Binomials.{choose}
use Rattle.novelty.specs.Tuples.{tuple_keys}
use Rattle.planner.specs.Search.{tried_from, advanced}
use Rattle.planner.specs.Way.{way_to}
use Rattle.planner.specs.declared.node.Way.{Way}
use Rattle.examples.specs.Examples.{Settled, examples}

-- the way whose last link is of this action, from this number
abbrev way : ℕ → ℕ → ℕ → Way
way parent action length = record { parent = parent; action = action; length = length }

pub all_settled : AllByRecursion Settled examples
unfolding members choose tuple_keys tried_from advanced way_to
all_settled = (
  (way 2 2 3, refl, refl, refl),
  (
    refl,
    (
      (way 0 0 1, refl, refl, refl),
      (
        refl,
        (
          (way 3 2 3, refl, refl, refl),
          (refl, (refl, (refl, ((way 3 2 3, refl, refl, refl), (refl, (refl, (refl, (refl, tt)))))))),
        ),
      ),
    ),
  ),
)
