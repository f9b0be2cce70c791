-- Keys and counts by computation. Assumes nothing.
use Rattle.std.proofs.Common.{◌≡◌, [], ◌∷◌, refl}
use Rattle.novelty.specs.Binomials.{choose}
use Rattle.novelty.specs.Tuples.{rank, tuple_count, tuple_keys}

count_73 : tuple_count 73 3 ≡ 64898
unfolding choose
count_73 = refl

-- below 4 atoms: the empty set has key 0, the sets of one 1 to 4, those of two 5 to 10
one : rank 4 (3 ∷ []) ≡ 4
unfolding choose
one = refl

two : rank 4 (1 ∷ 3 ∷ []) ≡ 9
unfolding choose
two = refl

-- atom 7 is not below 4
keys : tuple_keys 4 2 (1 ∷ 3 ∷ 7 ∷ []) ≡ 0 ∷ 2 ∷ 9 ∷ 4 ∷ []
unfolding choose tuple_keys
keys = refl
