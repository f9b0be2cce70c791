-- Each operation on sets, by membership. Assumes nothing.
use Rattle.std.proofs.Common.{◌≡◌, ℕ, zero, suc, ◌+◌, ◌-◌, ◌*◌, ◌/◌, ◌%◌, ◌^◌, ◌<◌, ◌≤◌, Bool, true, false, not, ◌&&◌, ◌||◌, eqb, ltb, List, length, get_or, set, sym, refl, ap, ◌∙◌, ap₂, ⊎_elim, arith}
use lib.Bits.{bit_and, bit_or}
use Rattle.std.proofs.lemmas.Nat.{pow_below}
use Rattle.std.proofs.lemmas.List.{ext_get_or, get_or-set_same, get_or-set_other}
use Rattle.std.proofs.lemmas.Bool.{cases_lt, cases_eq, lt-ltb, le-ltb, ne_eqb, and_left}
use Rattle.std.proofs.lemmas.Bool.Decides.{nat_tests}
use Rattle.domain.specs.Atoms.{word, has, none, wordwise, unite, common, without, with_atom, without_atom, limited}
use Rattle.domain.specs.Words.{Short, bit, complement, zipped}
use Rattle.domain.specs.Listed.{limited_word}
use Rattle.domain.specs.declared.atoms.AtomSet.{AtomSet}
use Rattle.domain.proofs.Bit.{bit_of_or, bit_of_and, bit_mod, bit_pow, bit_zero, bit_complement}

-- every word of s is one of 64 bits
abbrev pub Sized : AtomSet → Type 0
Sized s = (i : ℕ) → i < 4 → word s i < 2 ^ 64

-- what holds of each of four words
pub by_words : (P : ℕ → Type 0) → P 0 → P 1 → P 2 → P 3 → (i : ℕ) → i < 4 → P i
by_words P p q r s zero h = p
by_words P p q r s (suc zero) h = q
by_words P p q r s (suc (suc zero)) h = r
by_words P p q r s (suc (suc (suc zero))) h = s
by_words P p q r s (suc (suc (suc (suc i)))) h = absurd (omega arith)

pub sized_from_short : (s : AtomSet) → Short s.words → Sized s
sized_from_short s h = by_words (λ i. word s i < 2 ^ 64) h.0 h.1 h.2 h.3

-- membership goes by the words
pub has_row : (row : List ℕ) (d : AtomSet) → row ≡ d.words → (a : ℕ) → has (record { words = row }) a ≡ has d a
has_row row d e a = ap (λ (ws : List ℕ). has (record { words = ws }) a) e

pub has_past : (s : AtomSet) (a : ℕ) → 256 ≤ a → has s a ≡ false
has_past s a h = and_left (ltb a 256) (bit (word s (a / 64)) (a % 64)) (le-ltb a 256 h)

pub has_inside : (s : AtomSet) (a : ℕ) → a < 256 → has s a ≡ bit (word s (a / 64)) (a % 64)
has_inside s a h = ap (λ (b : Bool). b && bit (word s (a / 64)) (a % 64)) (lt-ltb a 256 h)

pub has_at : (s : AtomSet) (i j : ℕ) → i < 4 → j < 64 → has s (64 * i + j) ≡ bit (word s i) j
has_at s i j h l =
    has_inside s (64 * i + j) (omega arith)
    ∙ ap₂ (λ (x y : ℕ). bit (word s x) y) (let e : (64 * i + j) / 64 ≡ i = omega arith in e) (let e : (64 * i + j) % 64 ≡ j = omega arith in e)

-- a test that agrees with each bit of r, and fails past them, is membership in r
pub has_from_bits : (r : AtomSet) (p : ℕ → Bool) → ((i j : ℕ) → i < 4 → j < 64 → bit (word r i) j ≡ p (64 * i + j))
    → ((a : ℕ) → 256 ≤ a → p a ≡ false) → (a : ℕ) → has r a ≡ p a
has_from_bits r p each past a = ⊎_elim inside (λ h. has_past r a h ∙ sym (past a h)) (cases_lt a 256)
  where
    inside : a < 256 → has r a ≡ p a
    inside h =
        has_inside r a h ∙ each (a / 64) (a % 64) (omega arith) (omega arith) ∙ ap p (let e : 64 * (a / 64) + a % 64 ≡ a = omega arith in e)

-- an operation on words that works bit by bit, as g, is g of the memberships
module _ (f : ℕ → ℕ → ℕ) (g : Bool → Bool → Bool) (off : g false false ≡ false) (s t : AtomSet)
    (law : (i j : ℕ) → i < 4 → j < 64 → bit (f (word s i) (word t i)) j ≡ g (bit (word s i) j) (bit (word t i) j)) where
  at_word : (i : ℕ) → i < 4 → word (wordwise f s t) i ≡ f (word s i) (word t i)
  at_word = by_words (λ i. word (wordwise f s t) i ≡ f (word s i) (word t i)) refl refl refl refl

  has_wordwise : (a : ℕ) → has (wordwise f s t) a ≡ g (has s a) (has t a)
  has_wordwise =
      has_from_bits (wordwise f s t) (λ a. g (has s a) (has t a))
      (λ i j h l. ap (λ (w : ℕ). bit w j) (at_word i h) ∙ law i j h l ∙ sym (ap₂ g (has_at s i j h l) (has_at t i j h l)))
      (λ a h. ap₂ g (has_past s a h) (has_past t a h) ∙ off)

-- a row of four words that are f of the words of s and t
pub wordwise_is : (f : ℕ → ℕ → ℕ) (s t : AtomSet) (row : List ℕ) → length row ≡ 4
    → ((i : ℕ) → i < 4 → get_or row i 0 ≡ f (word s i) (word t i)) → row ≡ zipped f s.words t.words
wordwise_is f s t row long each =
    ext_get_or 0 row (zipped f s.words t.words) long
    (λ i h. each i (omega arith) ∙ sym (by_words (λ k. word (wordwise f s t) k ≡ f (word s k) (word t k)) refl refl refl refl i (omega arith)))

pub has_none : (a : ℕ) → has none a ≡ false
has_none =
    has_from_bits none (λ _. false)
    (λ i j h _. ap (λ (w : ℕ). bit w j) (by_words (λ k. word none k ≡ 0) refl refl refl refl i h) ∙ bit_zero j) (λ _ _. refl)

pub has_unite : (s t : AtomSet) (a : ℕ) → has (unite s t) a ≡ (has s a || has t a)
has_unite s t = has_wordwise bit_or ◌||◌ refl s t (λ i j _ _. bit_of_or (word s i) (word t i) j)

pub has_common : (s t : AtomSet) (a : ℕ) → has (common s t) a ≡ (has s a && has t a)
has_common s t = has_wordwise bit_and ◌&&◌ refl s t (λ i j _ _. bit_of_and (word s i) (word t i) j)

pub has_without : (s t : AtomSet) → Sized t → (a : ℕ) → has (without s t) a ≡ (has s a && not (has t a))
has_without s t fits =
    has_wordwise (λ w v. bit_and w (complement v)) (λ x y. x && not y) refl s t
    (λ i j h l. bit_of_and (word s i) (complement (word t i)) j ∙ ap (λ (b : Bool). bit (word s i) j && b) (bit_complement (word t i) j (fits i h) l))

pub has_limited : (s : AtomSet) (n a : ℕ) → has (limited s n) a ≡ (has s a && ltb a n)
has_limited s n =
    has_from_bits (limited s n) (λ a. has s a && ltb a n)
    (λ i j h l. ap (λ (w : ℕ). bit w j) (limited_word s n i h) ∙ bit_mod (word s i) (n - 64 * i) j ∙ ap₂ ◌&&◌ (sym (has_at s i j h l)) (same i j))
    (λ a h. and_left (has s a) (ltb a n) (has_past s a h))
  where
    same : (i j : ℕ) → ltb j (n - 64 * i) ≡ ltb (64 * i + j) n
    same i j = grind (arith, nat_tests)

-- the set in which the word of the atom x alone is changed, by f with the bit of x: f works bit by bit, as g, and keeps a word at 0
module _ (f : ℕ → ℕ → ℕ) (g : Bool → Bool → Bool) (keeps : (b : Bool) → g b false ≡ b) (s : AtomSet) (long : length s.words ≡ 4)
    (x : ℕ) (inside : x < 256)
    (law : (w j : ℕ) → j < 64 → bit (f w (2 ^ (x % 64))) j ≡ g (bit w j) (bit (2 ^ (x % 64)) j)) where
  abbrev value : ℕ
  value = f (word s (x / 64)) (2 ^ (x % 64))

  abbrev changed : AtomSet
  changed = record { words = set s.words (x / 64) value }

  at_changed : (i j : ℕ) → i < 4 → j < 64 → i ≡ x / 64 → bit (word changed i) j ≡ g (bit (word s i) j) (eqb (64 * i + j) x)
  at_changed i j h l q =
      let here : x / 64 < length s.words = omega arith in
      ap (λ (k : ℕ). bit (word changed k) j) q ∙ ap (λ (w : ℕ). bit w j) (get_or-set_same s.words (x / 64) value 0 here)
      ∙ law (word s (x / 64)) j l ∙ ap₂ g (ap (λ (k : ℕ). bit (word s k) j) (sym q)) (bit_pow (x % 64) j ∙ same)
    where
      same : eqb j (x % 64) ≡ eqb (64 * i + j) x
      same = grind (arith, nat_tests)

  at_others : (i j : ℕ) → j < 64 → (i ≡ x / 64 → ⊥) → bit (word changed i) j ≡ g (bit (word s i) j) (eqb (64 * i + j) x)
  at_others i j l q =
      ap (λ (w : ℕ). bit w j) (get_or-set_other s.words (x / 64) i value 0 q) ∙ sym (keeps (bit (word s i) j))
      ∙ ap (g (bit (word s i) j)) (sym (ne_eqb (64 * i + j) x (λ e. q (omega arith))))

  has_changed : (a : ℕ) → has changed a ≡ g (has s a) (eqb a x)
  has_changed =
      has_from_bits changed (λ a. g (has s a) (eqb a x))
      (λ i j h l. ⊎_elim (at_changed i j h l) (at_others i j l) (cases_eq i (x / 64)) ∙ ap (λ (b : Bool). g b (eqb (64 * i + j) x)) (sym (has_at s i j h l)))
      (λ a h. ap₂ g (has_past s a h) (ne_eqb a x (λ e. omega arith)) ∙ keeps false)

or_false : (b : Bool) → (b || false) ≡ b
or_false true = refl
or_false false = refl

and_true : (b : Bool) → (b && true) ≡ b
and_true true = refl
and_true false = refl

pub has_with_atom : (s : AtomSet) → length s.words ≡ 4 → (x : ℕ) → x < 256 → (a : ℕ) → has (with_atom s x) a ≡ (has s a || eqb a x)
has_with_atom s long x inside = has_changed bit_or ◌||◌ or_false s long x inside (λ w j _. bit_of_or w (2 ^ (x % 64)) j)

pub has_without_atom : (s : AtomSet) → length s.words ≡ 4 → (x : ℕ) → x < 256 → (a : ℕ) → has (without_atom s x) a ≡ (has s a && not (eqb a x))
has_without_atom s long x inside =
    has_changed (λ w v. bit_and w (complement v)) (λ b c. b && not c) and_true s long x inside
    (λ w j l. bit_of_and w (complement (2 ^ (x % 64))) j ∙ ap (λ (c : Bool). bit w j && c) (bit_complement (2 ^ (x % 64)) j (pow_below (x % 64) 64 (omega arith)) l))
