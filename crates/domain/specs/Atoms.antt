-- Sets of atoms 0 to 255, and what the operations on them mean. Assumes nothing.
use Rattle.std.specs.Prelude.{◌≡◌, ℕ, zero, suc, ◌/◌, ◌%◌, ◌^◌, ◌<◌, ◌≤◌, Bool, true, false, not, ◌&&◌, List, [], ◌∷◌, ◌++◌, filter, bit_and, bit_or, nat_lt, slice_index, slice_set}
use Rattle.domain.specs.Words.{bit, zipped, lacking, lowest}
use Rattle.domain.specs.declared.atoms.AtomSet.{AtomSet}

-- the word i of a set: atoms 64 i to 64 i + 63
abbrev pub word : AtomSet → ℕ → ℕ
word s i = slice_index s.words i

-- atom a is a member of s; no number past 255 is
abbrev pub has : AtomSet → ℕ → Bool
has s a = nat_lt a 256 && bit (word s (a / 64)) (a % 64)

-- the numbers below n, rising
abbrev pub upto : ℕ → List ℕ
upto zero = []
upto (suc n) = upto n ++ (n ∷ [])

-- the members of s, strictly rising
unfoldable pub members : AtomSet → List ℕ
members s = filter (has s) (upto 256)

-- the members of s at or past `from`, strictly rising
unfoldable pub members_from : AtomSet → ℕ → List ℕ
members_from s from = filter (λ a. has s a && not (nat_lt a from)) (upto 256)

-- every element of a list passes a test
abbrev pub every : {X : Type 0} → (X → Bool) → List X → Bool
every p [] = true
every p (x ∷ xs) = p x && every p xs

-- each member of s is a member of t
abbrev pub within : AtomSet → AtomSet → Bool
within s t = every (has t) (members s)

-- the set whose words are f of the words of s and t
abbrev pub wordwise : (ℕ → ℕ → ℕ) → AtomSet → AtomSet → AtomSet
wordwise f s t = record { words = zipped f s.words t.words }

-- the set with no members
abbrev pub none : AtomSet
none = record { words = 0 ∷ 0 ∷ 0 ∷ 0 ∷ [] }

-- the members of one or the other
abbrev pub unite : AtomSet → AtomSet → AtomSet
unite = wordwise bit_or

-- the members of both
abbrev pub common : AtomSet → AtomSet → AtomSet
common = wordwise bit_and

-- the members of the one that are not members of the other
abbrev pub without : AtomSet → AtomSet → AtomSet
without = wordwise lacking

-- the members and one atom more
abbrev pub with_atom : AtomSet → ℕ → AtomSet
with_atom s a = record { words = slice_set s.words (a / 64) (bit_or (word s (a / 64)) (2 ^ (a % 64))) }

-- the members but for one atom
abbrev pub without_atom : AtomSet → ℕ → AtomSet
without_atom s a = record { words = slice_set s.words (a / 64) (lacking (word s (a / 64)) (2 ^ (a % 64))) }

-- the members below n
abbrev pub limited : AtomSet → ℕ → AtomSet
limited s n = record { words = lowest n s.words }

-- no number at or past `from` is a member
abbrev pub NoneFrom : AtomSet → ℕ → Type 0
NoneFrom s from = (a : ℕ) → from ≤ a → has s a ≡ false

-- a is the lowest member at or past `from`
abbrev pub FirstFrom : AtomSet → ℕ → ℕ → Type 0
FirstFrom s from a = (from ≤ a) × (has s a ≡ true) × ((b : ℕ) → from ≤ b → b < a → has s b ≡ false)
