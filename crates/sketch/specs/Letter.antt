-- How letters are read and written, of any type whose values have letters. Assumes nothing.
use Rattle.std.specs.Prelude.{◌≡◌, ℕ, Option, Some, None, Result, Ok, MatchResult}

-- the result is what the letter c names, and an error where it names nothing; each k is read from its letter
abbrev pub Reads : {K E : Type 0} → (K → ℕ) → (ℕ → Option K) → ℕ → Result K E → Type 0
Reads letter named c r = MatchResult r (λ k. named c ≡ Some k) (λ _. named c ≡ None) × ((k : _) → c ≡ letter k → r ≡ Ok k)

-- the letter c is that of k, and names it
abbrev pub Writes : {K : Type 0} → (K → ℕ) → (ℕ → Option K) → K → ℕ → Type 0
Writes letter named k c = (c ≡ letter k) × (named c ≡ Some k)
