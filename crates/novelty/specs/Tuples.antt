-- Tuples of atoms and their keys: each set of at most k of the true atoms below N has one key, its rank. Assumes nothing.
use Rattle.std.specs.Prelude.{◌≡◌, ℕ, zero, suc, ◌+◌, ◌<◌, cond, List, [], ◌∷◌, ◌++◌, map, length, Some, None, filter, Option, ◌==◌, nat_lt}
use Rattle.std.specs.List.{AllByRecursion}
use Rattle.domain.specs.Model.{Rising}
use Rattle.domain.specs.declared.refusal.Refusal.{Refusal}
use Rattle.domain.specs.declared.refusal.Refusal.TheVariants.{Range, Limit, ManyKeys}
use Rattle.novelty.specs.Binomials.{choose, smaller}

-- the non-empty lists of at most k members of xs, in their order
abbrev pub some_of : ℕ → List ℕ → List (List ℕ)
some_of zero xs = []
some_of (suc k) [] = []
some_of (suc k) (x ∷ xs) = map (λ t. x ∷ t) ([] ∷ some_of k xs) ++ some_of (suc k) xs

-- every set of at most k of the atoms xs, the empty set first; each is a rising list where xs rises
abbrev pub sets_of : ℕ → List ℕ → List (List ℕ)
sets_of k xs = [] ∷ some_of k xs

-- C(i1, r) + C(i2, r + 1) + .., for i1, i2, ..
abbrev pub places : ℕ → List ℕ → ℕ
places r [] = 0
places r (i ∷ is) = choose i r + places (suc r) is

-- the key of the set i1 < .. < ir of atoms below N: C(N, 0) + .. + C(N, r - 1) + C(i1, 1) + .. + C(ir, r)
abbrev pub rank : ℕ → List ℕ → ℕ
rank N is = smaller N (length is) + places 1 is

-- the keys of a state with these true atoms
unfoldable pub tuple_keys : ℕ → ℕ → List ℕ → List ℕ
tuple_keys N k atoms = map (rank N) (sets_of k (filter (λ a. nat_lt a N) atoms))

-- how many keys there are: as many as sets of at most k atoms below N
abbrev pub tuple_count : ℕ → ℕ → ℕ
tuple_count N k = smaller N (k + 1)

-- no two sets of atoms below N have one key
abbrev pub OneToOne : ℕ → Type 0
OneToOne N =
    (is js : List ℕ) → Rising is → Rising js → AllByRecursion (λ a. a < N) is → AllByRecursion (λ a. a < N) js → rank N is ≡ rank N js → is ≡ js

-- why there is no measure of the sets of at most k atoms below N; None where there is one
abbrev pub tuples_fault : ℕ → ℕ → Option Refusal
tuples_fault N k =
    cond (nat_lt 3 k) (Some (Range 0))
    (cond (N == 0) (Some (Range 0))
    (cond (nat_lt 256 N) (Some (Limit 0))
    (cond (nat_lt 65536 (tuple_count N k)) (Some ManyKeys) None)))
