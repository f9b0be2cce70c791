-- The walk over the tuples: what it visits from one tuple on. Assumes nothing.
use Rattle.std.specs.Prelude.{◌≡◌, ℕ, suc, ◌+◌, ◌-◌, Bool, true, false, List, [], ◌∷◌, map}
use Rattle.std.specs.Fn.{Called, Mut}
use Rattle.novelty.specs.Binomials.{choose}
use Rattle.novelty.specs.Tuples.{some_of, sets_of}
use Rattle.novelty.specs.declared.tuples.walk.Reached.{Reached}

-- the key of a tuple with atom a behind its last, where the tuple has `size` atoms and this key
abbrev pub longer : ℕ → ℕ → ℕ → ℕ → ℕ
longer N size key a = (key + choose N size) + choose a (size + 1)

-- the same for one atom after the other
unfoldable pub key_with : ℕ → ℕ → ℕ → List ℕ → ℕ
key_with N size key [] = key
key_with N size key (a ∷ t) = key_with N (suc size) (longer N size key a) t

-- the keys of the tuples that begin with `size` chosen atoms, which alone have this key, and go on with at most k of xs
unfoldable pub begun : ℕ → ℕ → ℕ → ℕ → List ℕ → List ℕ
begun N k size key xs = map (key_with N size key) (sets_of k xs)

-- those that go on with at least one
unfoldable pub onward : ℕ → ℕ → ℕ → ℕ → List ℕ → List ℕ
onward N k size key xs = map (key_with N size key) (some_of k xs)

-- n is the tuple r with the atom x behind its last, and the atoms xs may go behind that
pub record Longer (r n : Reached) (x : ℕ) (xs : List ℕ) : Type 0 where
  pub measure : n.measure.now ≡ r.measure.now
  pub size : n.size ≡ r.size + 1
  pub key : n.key ≡ longer r.measure.now.atoms r.size r.key x
  pub rest : n.rest.now ≡ xs

-- the keys of a tuple reached, and of each that goes on from it
abbrev pub keys_from : Reached → List ℕ
keys_from r = begun r.measure.now.atoms (r.measure.now.width - r.size) r.size r.key r.rest.now

-- those of the tuples alone that go on from it with an atom of xs next
abbrev pub keys_behind : Reached → List ℕ → List ℕ
keys_behind r = onward r.measure.now.atoms (r.measure.now.width - r.size) r.size r.key

-- Calls at the keys in their order, up to the first that answers true, answer so and leave q of p.
pub data Tries {F : Type 0} (g : Mut F (ℕ × Unit {0}) Bool) : F → List ℕ → Bool → F → Type 0 where
  none : {p : F} → Tries g p [] false p
  found : {p q : F} {k : ℕ} {ks : List ℕ} → Called g p (k, tt) true q → Tries g p (k ∷ ks) true q
  later : {p j q : F} {k : ℕ} {ks : List ℕ} {r : Bool} → Called g p (k, tt) false j → Tries g j ks r q → Tries g p (k ∷ ks) r q
