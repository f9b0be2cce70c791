-- The steps of the walk over the tuples, and that it visits the keys of the measure, in their order. Assumes nothing.
use Rattle.std.proofs.Common.{◌≡◌, ℕ, zero, suc, ◌+◌, ◌-◌, ◌<◌, ◌≤◌, Bool, true, false, ◌||◌, nat_lt, List, [], ◌∷◌, ◌++◌, map, length, set, sym, refl, ap, ◌∙◌, add-zero, zero-add, add-one, arith}
use mathlib.Core.Path.{fun_ext}
use mathlib.Core.List.{map-map}
use Rattle.std.specs.Fn.{Called, Mut}
use Rattle.std.proofs.lemmas.List.{map-append}
use Rattle.std.proofs.lemmas.Bool.{le-ltb}
use Rattle.novelty.specs.Binomials.{choose, smaller}
use Rattle.novelty.specs.Marks.{unmarked, novel, marked}
use Rattle.novelty.specs.Tuples.{some_of, sets_of, places, rank}
use Rattle.novelty.specs.Walk.{longer, key_with, begun, onward, keys_from, keys_behind, Longer, Tries}
use Rattle.novelty.specs.Walk.Tries.{none, found, later}
use Rattle.novelty.specs.declared.tuples.walk.Reached.{Reached}

onward_nil : (N k size key : ℕ) → onward N k size key [] ≡ []
unfolding onward
onward_nil N zero size key = refl
onward_nil N (suc k) size key = refl

-- the tuples that go on with the first of the atoms, then the others
onward_cons : (N k size key x : ℕ) (xs : List ℕ)
    → onward N (suc k) size key (x ∷ xs) ≡ begun N k (size + 1) (longer N size key x) xs ++ onward N (suc k) size key xs
unfolding onward begun key_with
onward_cons N k size key x xs =
    map-append (key_with N size key) (map (λ t. x ∷ t) (sets_of k xs)) (some_of (suc k) xs)
    ∙ ap (λ ks. ks ++ onward N (suc k) size key xs) (map-map (key_with N size key) (λ t. x ∷ t) (sets_of k xs))
    ∙ ap (λ n. begun N k n (longer N size key x) xs ++ onward N (suc k) size key xs) (sym (add-one size))

-- the tuple's own key comes first
begun_is : (N k size key : ℕ) (xs : List ℕ) → begun N k size key xs ≡ key ∷ onward N k size key xs
unfolding onward begun key_with
begun_is N k size key xs = refl

-- the tuples that go on with the first of the atoms, then the others
behind_more : (r n : Reached) (x : ℕ) (xs rest : List ℕ) → r.size < r.measure.now.width → xs ≡ x ∷ rest → Longer r n x rest
    → keys_behind r xs ≡ keys_from n ++ keys_behind r rest
behind_more r n x xs rest room split e =
    let left : r.measure.now.width - r.size ≡ suc (r.measure.now.width - (r.size + 1)) = omega arith in
    rw (split, e.measure, e.size, e.key, e.rest, left) (onward_cons r.measure.now.atoms (r.measure.now.width - (r.size + 1)) r.size r.key x rest)

module _ {F : Type 0} {g : Mut F (ℕ × Unit {0}) Bool} where
  tries_found : {p q : F} {ks : List ℕ} {r : Bool} (ls : List ℕ) → r ≡ true → Tries g p ks r q → Tries g p (ks ++ ls) r q
  tries_found ls e none = absurd cc
  tries_found ls e (found s) = found s
  tries_found ls e (later s h) = later s (tries_found ls e h)

  tries_on : {p j q : F} {ks ls : List ℕ} {b r : Bool} → b ≡ false → Tries g p ks b j → Tries g j ls r q → Tries g p (ks ++ ls) r q
  tries_on e none t = t
  tries_on e (found s) t = absurd cc
  tries_on e (later s h) t = later s (tries_on e h t)

  -- The walk from a tuple: its key, and then a loop over the atoms.
  module _ (r : Reached) where
    pub own_found : {p q : F} {b : Bool} → b ≡ true → Called g p (r.key, tt) b q → Tries g p (keys_from r) b q
    own_found e s = rw begun_is (rw e (found (rw e at s)))

    -- where its own key is not passed, the rest decides
    pub own_not : {p j q : F} {b : Bool} → Called g p (r.key, tt) false j → Tries g j (keys_behind r r.rest.now) b q → Tries g p (keys_from r) b q
    own_not s h = rw begun_is (later s h)

    -- no place is left for an atom
    pub full : (xs : List ℕ) {p : F} → r.measure.now.width ≤ r.size → Tries g p (keys_behind r xs) (nat_lt r.size r.measure.now.width) p
    unfolding onward
    full xs h =
        let no : r.measure.now.width - r.size ≡ 0 = omega arith in
        rw (no, le-ltb r.size r.measure.now.width h) none

    -- no atom is left
    pub done : (xs : List ℕ) {p : F} → length xs ≤ 0 → Tries g p (keys_behind r xs) false p
    done [] h = rw onward_nil none
    done (x ∷ xs) h = absurd (omega arith)

    module _ (n : Reached) (x : ℕ) (xs rest : List ℕ) (room : r.size < r.measure.now.width) (split : xs ≡ x ∷ rest) (e : Longer r n x rest) where
      pub child_found : {p q : F} → Tries g p (keys_from n) true q → Tries g p (keys_behind r xs) true q
      child_found h = rw (behind_more r n x xs rest room split e) (tries_found _ refl h)

      pub child_not : {p j q : F} {b : Bool} → Tries g p (keys_from n) false j → Tries g j (keys_behind r rest) b q → Tries g p (keys_behind r xs) b q
      child_not h t = rw (behind_more r n x xs rest room split e) (tries_on refl h t)

-- a rank is the key of the empty set with the members one after the other
rank_with : (N size key : ℕ) (t : List ℕ) → (smaller N (size + length t) + places (suc size) t) + key ≡ smaller N size + key_with N size key t
unfolding key_with
rank_with N size key [] = simp add-zero
rank_with N size key (a ∷ t) =
    let shift : size + suc (length t) ≡ suc size + length t = omega arith in
    let next : choose a (size + 1) ≡ choose a (suc size) = ap (choose a) (add-one size) in
    rw shift (omega (arith, rank_with N (suc size) (longer N size key a) t))

rank_is : (N : ℕ) (t : List ℕ) → key_with N 0 0 t ≡ rank N t
rank_is N t = let e = rw (zero-add (length t)) at (rank_with N 0 0 t) in omega arith

-- the walk from the empty tuple
pub begun_ranks : (N w : ℕ) (xs : List ℕ) → begun N (w - 0) 0 0 xs ≡ map (rank N) (sets_of w xs)
unfolding begun
begun_ranks N w xs = let all : w - 0 ≡ w = omega arith in rw all (ap (λ f. map f (sets_of w xs)) (fun_ext (rank_is N)))

-- what calls that read and write a table answer and leave
module _ {F : Type 0} {g : Mut F (ℕ × Unit {0}) Bool} (table : F → List ℕ) where
  pub tries_novel : ((p : F) (k : ℕ) (b : Bool) (q : F) → Called g p (k, tt) b q → (b ≡ unmarked (table p) k) × (table q ≡ table p))
      → {ks : List ℕ} {p q : F} {r : Bool} → Tries g p ks r q → r ≡ novel ks (table p)
  tries_novel reads none = refl
  tries_novel reads (found {p = p} {q = q} {k = k} {ks = ks} s) =
      let e : true ≡ unmarked (table p) k = (reads p k true q s).0 in ap (λ b. b || novel ks (table p)) e
  tries_novel reads (later {p = p} {j = j} {k = k} {ks = ks} s h) =
      let e = reads p k false j s in
      tries_novel reads h ∙ ap (novel ks) e.1 ∙ ap (λ b. b || novel ks (table p)) e.0

  tries_marked : (name : F → ℕ)
      → ((p : F) (k : ℕ) (b : Bool) (q : F) → Called g p (k, tt) b q → (b ≡ false) × (table q ≡ set (table p) k 1) × (name q ≡ name p))
      → {ks : List ℕ} {p q : F} {r : Bool} → Tries g p ks r q → (table q ≡ marked ks (table p)) × (name q ≡ name p)
  tries_marked name writes none = (refl, refl)
  tries_marked name writes (found {p = p} {q = q} {k = k} s) = absurd (let no : true ≡ false = (writes p k true q s).0 in cc)
  tries_marked name writes (later {p = p} {j = j} {k = k} {ks = ks} s h) =
      let e = writes p k false j s in
      let f = tries_marked name writes h in
      (f.0 ∙ ap (marked ks) e.1, f.1 ∙ e.2)

  -- and so what is left where the name is kept
  pub tries_left : (name : F → ℕ)
      → ((p : F) (k : ℕ) (b : Bool) (q : F) → Called g p (k, tt) b q → (b ≡ false) × (table q ≡ set (table p) k 1) × (name q ≡ name p))
      → {ks : List ℕ} {p q : F} {r : Bool} → Tries g p ks r q → (last : List ℕ) → (name p ≡ name q → last ≡ table q) → last ≡ marked ks (table p)
  tries_left name writes h last left = let e = tries_marked name writes h in left (sym e.1) ∙ e.0
