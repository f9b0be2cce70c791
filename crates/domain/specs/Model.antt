-- What a state model means, in one value, and the laws of every model. Assumes nothing.
use Rattle.std.specs.Prelude.{◌≡◌, ℕ, ◌<◌, ◌≤◌, Bool, false, ◌||◌, List, [], ◌∷◌, ◌==◌}
use Rattle.std.specs.List.{AllByRecursion}

-- each element is above all before it
abbrev pub Rising : List ℕ → Type 0
Rising [] = Unit {0}
Rising (x ∷ xs) = AllByRecursion (λ y. x < y) xs × Rising xs

-- a model as one value
pub record Meaning (S : Type 0) : Type 0 where
  -- how many atoms and actions there are
  pub atoms : ℕ
  pub actions : ℕ
  pub start : S
  -- the true atoms of a state, strictly rising
  pub truths : S → List ℕ
  -- whether a state is a target, and whether an action applies in it
  pub target : S → Bool
  pub applies : S → ℕ → Bool
  -- the state that follows
  pub next : S → ℕ → S

-- what holds of every model
pub record Lawful {S : Type 0} (P : Meaning S) : Type 0 where
  pub some_atoms : 1 ≤ P.atoms
  pub few_atoms : P.atoms ≤ 256
  pub few_actions : P.actions ≤ 1024
  -- the true atoms are a set of atoms below the count: a number at or past it names a false atom
  pub rising : (s : S) → Rising (P.truths s)
  pub below : (s : S) → AllByRecursion (λ a. a < P.atoms) (P.truths s)
  -- a number at or past the count of actions names one that does not apply
  pub past : (s : S) (a : ℕ) → P.actions ≤ a → P.applies s a ≡ false
  -- an action that does not apply leaves the state
  pub stays : (s : S) (a : ℕ) → P.applies s a ≡ false → P.next s a ≡ s

-- a number is in a list
abbrev pub among : List ℕ → ℕ → Bool
among [] a = false
among (x ∷ xs) a = x == a || among xs a
