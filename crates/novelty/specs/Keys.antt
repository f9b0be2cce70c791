-- The keys of a set of atoms are ranks of rising lists of atoms below N, and so below the count of keys. Assumes nothing.
use Rattle.std.specs.Prelude.{ℕ, zero, suc, ◌+◌, ◌<◌, ◌≤◌, Bool, List, [], ◌∷◌, map, length, filter, nat_lt}
use Rattle.std.proofs.Common.{arith}
use Rattle.std.specs.List.{AllByRecursion}
use Rattle.std.proofs.ByRecursion.{All-append, All-map, All-weaker, all_kept_by, kept_by_passes}
use Rattle.std.proofs.lemmas.Bool.{ltb-true, cond_both}
use Rattle.domain.specs.Model.{Rising}
use Rattle.novelty.specs.Tuples.{some_of, sets_of, rank, tuple_keys, tuple_count}
use Rattle.novelty.specs.Ranks.{places_below, smaller_to}

-- t is a part of xs, in its order, with at most k members
data Part : ℕ → List ℕ → List ℕ → Type 0 where
  none : {k : ℕ} {xs : List ℕ} → Part k xs []
  here : {k x : ℕ} {xs t : List ℕ} → Part k xs t → Part (suc k) (x ∷ xs) (x ∷ t)
  later : {k x : ℕ} {xs t : List ℕ} → Part k xs t → Part k (x ∷ xs) t

sets_parts : (k : ℕ) (xs : List ℕ) → AllByRecursion (Part k xs) (some_of k xs)
sets_parts zero xs = tt
sets_parts (suc k) [] = tt
sets_parts (suc k) (x ∷ xs) =
    All-append (Part (suc k) (x ∷ xs)) (map (λ t. x ∷ t) (sets_of k xs)) (some_of (suc k) xs)
    (All-map (Part (suc k) (x ∷ xs)) (λ t. x ∷ t) (sets_of k xs) (All-weaker (Part k xs) _ (λ t p. here p) (sets_of k xs) (none, sets_parts k xs)))
    (All-weaker (Part (suc k) xs) _ (λ t p. later p) (some_of (suc k) xs) (sets_parts (suc k) xs))

part_short : {k : ℕ} {xs t : List ℕ} → Part k xs t → length t ≤ k
part_short none = omega arith
part_short (here p) = omega (arith, part_short p)
part_short (later p) = part_short p

part_all : (P : ℕ → Type 0) {k : ℕ} {xs t : List ℕ} → Part k xs t → AllByRecursion P xs → AllByRecursion P t
part_all P none h = tt
part_all P (here p) h = (h.0, part_all P p h.1)
part_all P (later p) h = part_all P p h.1

part_rising : {k : ℕ} {xs t : List ℕ} → Part k xs t → Rising xs → Rising t
part_rising none h = tt
part_rising (here {x = x} p) h = (part_all (λ a. x < a) p h.0, part_rising p h.1)
part_rising (later p) h = part_rising p h.1

rank_below : (N k : ℕ) (t : List ℕ) → Rising t → AllByRecursion (λ a. a < N) t → length t ≤ k → rank N t < tuple_count N k
rank_below N k t h b l = omega (arith, places_below N t h b, smaller_to N (suc (length t)) (k + 1) (omega arith))

rising_kept : (p : ℕ → Bool) (xs : List ℕ) → Rising xs → Rising (filter p xs)
rising_kept p [] h = tt
rising_kept p (x ∷ xs) h =
    cond_both (p x) (x ∷ filter p xs) (filter p xs) Rising
    (λ _. (all_kept_by p (λ y. x < y) xs h.0, rising_kept p xs h.1)) (λ _. rising_kept p xs h.1)

pub kept_below : (N : ℕ) (xs : List ℕ) → AllByRecursion (λ a. a < N) (filter (λ a. nat_lt a N) xs)
kept_below N xs = All-weaker _ _ (λ a e. ltb-true a N e) _ (kept_by_passes (λ a. nat_lt a N) xs)

-- each key of a rising list of atoms is below the count
pub keys_below : (N k : ℕ) (atoms : List ℕ) → Rising atoms → AllByRecursion (λ key. key < tuple_count N k) (tuple_keys N k atoms)
unfolding tuple_keys
keys_below N k atoms h =
    let xs = filter (λ a. nat_lt a N) atoms in
    All-map (λ key. key < tuple_count N k) (rank N) (sets_of k xs)
    (All-weaker (Part k xs) _
    (λ t p. rank_below N k t (part_rising p (rising_kept (λ a. nat_lt a N) atoms h)) (part_all (λ a. a < N) p (kept_below N atoms)) (part_short p))
    (sets_of k xs) (none, sets_parts k xs))
