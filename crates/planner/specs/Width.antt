-- Ways, shortest ways and admissible sets of keys: the words of the findings about a search, with no step of any
-- program in them. Assumes nothing.
use Rattle.std.specs.Prelude.{◌≡◌, ℕ, ◌≤◌, Bool, true, ◌⊎◌, List, [], ◌∷◌, ◌++◌, length}
use Rattle.domain.specs.Model.{Meaning}
use Rattle.planner.specs.Search.{Task, keys_of}

-- k is one of the keys ks
abbrev pub Among : ℕ → List ℕ → Type 0
Among k [] = ⊥
Among k (x ∷ xs) = (x ≡ k) ⊎ Among k xs

-- the actions are a way from s to t: each applies in the state reached
abbrev pub Leads : {S : Type 0} → Meaning S → S → List ℕ → S → Type 0
Leads P s [] t = s ≡ t
Leads P s (a ∷ xs) t = (P.applies s a ≡ true) × Leads P (P.next s a) xs t

-- xs is a way from the start into G, and no way from the start into G weighs less
pub record Least {S : Type 0} (P : Meaning S) (weight : List ℕ → ℕ) (G : S → Type 0) (xs : List ℕ) : Type 0 where
  pub end : S
  pub leads : Leads P P.start xs end
  pub inside : G end
  pub least : (ys : List ℕ) (t : S) → Leads P P.start ys t → G t → weight xs ≤ weight ys

-- xs is a shortest way from the start into G: its length is the number of its actions
abbrev pub Shortest : {S : Type 0} → Meaning S → (S → Type 0) → List ℕ → Type 0
Shortest P G xs = Least P length G xs

module _ {S : Type 0} (Q : Task S) where
  -- s has the key k
  abbrev pub HasKey : ℕ → S → Type 0
  HasKey k s = Among k (keys_of Q s)

  abbrev pub Target : S → Type 0
  Target s = Q.problem.target s ≡ true

  -- xs, with one more action, is a least way to a key of T or to a target
  abbrev pub Lengthens : (List ℕ → ℕ) → (ℕ → Bool) → List ℕ → Type 0
  Lengthens weight T xs =
      (a : ℕ)
      × (((k : ℕ) × (T k ≡ true) × Least Q.problem weight (HasKey k) (xs ++ (a ∷ [])))
      ⊎ Least Q.problem weight Target (xs ++ (a ∷ [])))

  -- The set T of keys is admissible, where ways are compared by a weight: the start has a key in T, and each least
  -- way to a key of T is a least way to a target or can be lengthened by one action into a least way to a key of T
  -- or to a target.
  pub record Admits (weight : List ℕ → ℕ) (T : ℕ → Bool) : Type 0 where
    pub starts : (k : ℕ) × (T k ≡ true) × HasKey k Q.problem.start
    pub goes : (k : ℕ) → T k ≡ true → (xs : List ℕ) → Least Q.problem weight (HasKey k) xs
        → Least Q.problem weight Target xs ⊎ Lengthens weight T xs

  -- admissible, where ways are compared by their length
  abbrev pub Admissible : (ℕ → Bool) → Type 0
  Admissible T = Admits length T
