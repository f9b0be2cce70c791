-- The value of a feature where some atoms are true, and the largest that it can have. Assumes nothing.
use Rattle.std.specs.Prelude.{ℕ, cond, not, List, map, length, count_by, nat_lt}
use Rattle.domain.specs.Atoms.{members, none}
use Rattle.domain.specs.Model.{among}
use Rattle.sketch.specs.declared.feature.Kind.{Kind}
use Rattle.sketch.specs.declared.feature.Kind.TheVariants.{Boolean, TrueCount, FalseCount}
use Rattle.sketch.specs.declared.feature.Feature.{Feature}

-- how many of the atoms are true, and how many are not
abbrev pub true_count : List ℕ → List ℕ → ℕ
true_count atoms truths = count_by (among truths) atoms

abbrev pub false_count : List ℕ → List ℕ → ℕ
false_count atoms truths = count_by (λ a. not (among truths a)) atoms

-- the value by the kind: a Boolean is 1 where some atom is true
abbrev pub counted : Kind → List ℕ → List ℕ → ℕ
counted Boolean atoms truths = cond (nat_lt 0 (true_count atoms truths)) 1 0
counted TrueCount atoms truths = true_count atoms truths
counted FalseCount atoms truths = false_count atoms truths

-- the largest value
abbrev pub largest : Kind → List ℕ → ℕ
largest Boolean atoms = 1
largest TrueCount atoms = length atoms
largest FalseCount atoms = length atoms

-- the value of a feature where the atoms of the list are the true ones
abbrev pub value_of : Feature → List ℕ → ℕ
value_of f truths = counted f.kind (members f.atoms) truths

abbrev pub top_of : Feature → ℕ
top_of f = largest f.kind (members f.atoms)

abbrev pub kinds_of : List Feature → List Kind
kinds_of fs = map (λ f. f.kind) fs

-- the valuation: the value of each feature
abbrev pub values_of : List Feature → List ℕ → List ℕ
values_of fs truths = map (λ f. value_of f truths) fs

-- the feature that is not named: of kind t, over no atoms
abbrev pub unnamed_feature : Feature
unnamed_feature = record { kind = TrueCount; atoms = none }
