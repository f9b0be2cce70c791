-- Rows of four words of 64 bits, and what the operations on them give. Assumes nothing.
use Rattle.std.specs.Prelude.{◌≡◌, ℕ, ◌+◌, ◌-◌, ◌/◌, ◌%◌, ◌^◌, ◌<◌, ◌≤◌, Bool, List, [], ◌∷◌, ◌==◌, bit_and, bit_or, count_ones, slice_index}

-- bit i of a word
abbrev pub bit : ℕ → ℕ → Bool
bit w i = (w / 2 ^ i) % 2 == 1

-- the word with each of its 64 bits turned
abbrev pub complement : ℕ → ℕ
complement w = 2 ^ 64 - 1 - w

-- the bits of w that v lacks
abbrev pub lacking : ℕ → ℕ → ℕ
lacking w v = bit_and w (complement v)

-- every word is one of 64 bits
abbrev pub Short : List ℕ → Type 0
Short a = (slice_index a 0 < 2 ^ 64) × (slice_index a 1 < 2 ^ 64) × (slice_index a 2 < 2 ^ 64) × (slice_index a 3 < 2 ^ 64)

-- f of the words of two rows
abbrev pub zipped : (ℕ → ℕ → ℕ) → List ℕ → List ℕ → List ℕ
zipped f a b = f (slice_index a 0) (slice_index b 0) ∷ f (slice_index a 1) (slice_index b 1) ∷ f (slice_index a 2) (slice_index b 2) ∷ f (slice_index a 3) (slice_index b 3) ∷ []

-- the bits below n
abbrev pub lowest : ℕ → List ℕ → List ℕ
lowest n a = slice_index a 0 % 2 ^ n ∷ slice_index a 1 % 2 ^ (n - 64) ∷ slice_index a 2 % 2 ^ (n - 128) ∷ slice_index a 3 % 2 ^ (n - 192) ∷ []

-- the four words laid over each other
abbrev pub overlaid : List ℕ → ℕ
overlaid a = bit_or (bit_or (bit_or (slice_index a 0) (slice_index a 1)) (slice_index a 2)) (slice_index a 3)

-- how many bits are set
abbrev pub total : List ℕ → ℕ
total a = count_ones (slice_index a 0) + count_ones (slice_index a 1) + count_ones (slice_index a 2) + count_ones (slice_index a 3)

-- no word from `start` on has a set bit
abbrev pub BlankFrom : List ℕ → ℕ → Type 0
BlankFrom a start = (k : ℕ) → start ≤ k → k < 4 → slice_index a k ≡ 0

-- i is the first word from `start` on with a set bit
abbrev pub FirstSet : List ℕ → ℕ → ℕ → Type 0
FirstSet a start i = (start ≤ i) × (i < 4) × (0 < slice_index a i) × ((k : ℕ) → start ≤ k → k < i → slice_index a k ≡ 0)
