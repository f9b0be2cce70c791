-- The measure by feature values: a set of atoms has one key, made of the values of all features. Assumes nothing.
use Rattle.std.specs.Prelude.{◌≡◌, ℕ, ◌+◌, ◌*◌, cond, List, [], ◌∷◌, length, Some, None, Option, nat_lt}
use Rattle.domain.specs.declared.refusal.Refusal.{Refusal}
use Rattle.domain.specs.declared.refusal.Refusal.TheVariants.{Limit, ManyKeys}
use Rattle.sketch.specs.Feature.{value_of, top_of, values_of}
use Rattle.sketch.specs.declared.feature.Feature.{Feature}

-- how many values a feature can have: 0 to its top value
abbrev pub base_of : Feature → ℕ
base_of f = top_of f + 1

-- v0 + b0 × (v1 + b1 × (v2 + ..)), where vi is the value of feature i and bi the number of its values
abbrev pub value_key : List Feature → List ℕ → ℕ
value_key [] truths = 0
value_key (f ∷ fs) truths = value_of f truths + base_of f * value_key fs truths

-- how many keys there are: the product of all bi, 1 without features
abbrev pub value_count : List Feature → ℕ
value_count [] = 1
value_count (f ∷ fs) = base_of f * value_count fs

-- the keys of a state with these true atoms
abbrev pub value_keys : List Feature → List ℕ → List ℕ
value_keys fs truths = value_key fs truths ∷ []

-- two sets of atoms have one key exactly when they agree in every feature
abbrev pub KeyForValues : List Feature → Type 0
KeyForValues fs =
    (s t : List ℕ) → (value_key fs s ≡ value_key fs t → values_of fs s ≡ values_of fs t)
    × (values_of fs s ≡ values_of fs t → value_key fs s ≡ value_key fs t)

-- a number of keys, unless there are more than a measure may have
abbrev pub bounded_count : ℕ → Option ℕ
bounded_count n = cond (nat_lt 65536 n) None (Some n)

-- why there is no measure by these features; None where there is one
abbrev pub values_fault : List Feature → Option Refusal
values_fault fs =
    cond (nat_lt 8 (length fs)) (Some (Limit 8))
    (cond (nat_lt 65536 (value_count fs)) (Some ManyKeys) None)
