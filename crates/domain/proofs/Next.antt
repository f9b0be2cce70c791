-- The lowest member from a place on: in the rest of its word, or by the first later word that has one. Assumes nothing.
use Rattle.std.proofs.Common.{◌≡◌, ℕ, ◌+◌, ◌-◌, ◌*◌, ◌/◌, ◌%◌, ◌^◌, ◌<◌, ◌≤◌, Bool, true, false, not, ◌&&◌, ltb, Some, None, Option, sym, refl, ap, ◌∙◌, subst, ap₂, ⊎_elim, lt_of_le_of_lt, arith, MatchOption}
use lib.Count.{count_trailing_zeros}
use lib.Pow.{shr_le}
use Rattle.std.proofs.lemmas.Bool.{cases_lt, both_ways, lt-ltb, le-ltb}
use Rattle.domain.specs.Atoms.{word, has, NoneFrom, FirstFrom}
use Rattle.domain.specs.Words.{bit, BlankFrom, FirstSet}
use Rattle.domain.specs.Listed.{bit_past}
use Rattle.domain.specs.declared.atoms.AtomSet.{AtomSet}
use Rattle.domain.proofs.Bit.{bit_shr, bit_zero}
use Rattle.domain.proofs.Sets.{has_past, has_inside, has_at}
use Rattle.domain.proofs.Trailing.{First, trailing_first}

-- where no word from `start` on has a set bit, there is no member at or past it
pub none_from_blank : (s : AtomSet) (start : ℕ) → BlankFrom s.words start → NoneFrom s (64 * start)
none_from_blank s start blank a l = ⊎_elim inside (has_past s a) (cases_lt a 256)
  where
    inside : a < 256 → has s a ≡ false
    inside h = has_inside s a h ∙ ap (λ (w : ℕ). bit w (a % 64)) (blank (a / 64) (omega arith) (omega arith)) ∙ bit_zero (a % 64)

-- a word that has a set bit has its lowest inside
pub trailing_inside : (w : ℕ) → w < 2 ^ 64 → 0 < w → count_trailing_zeros 64 w < 64
trailing_inside w short some =
    let t = count_trailing_zeros 64 w in
    ⊎_elim (λ h. h) (λ h. absurd (both_ways (bit w t) (bit_past w 64 t short h) (trailing_first 64 w short some).0)) (cases_lt t 64)

-- and so has what a shift leaves of it
pub trailing_left : (w k : ℕ) → w < 2 ^ 64 → (w / 2 ^ k ≡ 0 → ⊥) → k + count_trailing_zeros 64 (w / 2 ^ k) < 64
trailing_left w k short some =
    let t = count_trailing_zeros 64 (w / 2 ^ k) in
    let first = trailing_first 64 (w / 2 ^ k) (lt_of_le_of_lt (shr_le w k) short) (omega arith) in
    ⊎_elim (λ h. h) (λ h. absurd (both_ways (bit (w / 2 ^ k) t) (bit_shr w k t ∙ bit_past w 64 (k + t) short h) first.0)) (cases_lt (k + t) 64)

-- the lowest set bit of the first word from `start` on that has one is the lowest member from there on
module _ (s : AtomSet) (start i : ℕ) (found : FirstSet s.words start i) (short : word s i < 2 ^ 64) where
  abbrev lowest : ℕ
  lowest = count_trailing_zeros 64 (word s i)

  first : First (word s i) lowest
  first = trailing_first 64 (word s i) short found.2

  in_word : lowest < 64
  in_word = trailing_inside (word s i) short found.2

  none_below : (b : ℕ) → 64 * start ≤ b → b < 64 * i + lowest → has s b ≡ false
  none_below b l h = has_inside s b (omega (arith, in_word, found.1)) ∙ ⊎_elim earlier (λ m. here (omega (arith, in_word))) (cases_lt (b / 64) i)
    where
      earlier : b / 64 < i → bit (word s (b / 64)) (b % 64) ≡ false
      earlier m = ap (λ (w : ℕ). bit w (b % 64)) (found.3 (b / 64) (omega arith) m) ∙ bit_zero (b % 64)

      here : b / 64 ≡ i → bit (word s (b / 64)) (b % 64) ≡ false
      here e = ap (λ (k : ℕ). bit (word s k) (b % 64)) e ∙ first.1 (b % 64) (omega arith)

  pub first_found : FirstFrom s (64 * start) (64 * i + lowest)
  first_found = (omega (arith, found.0), has_at s i lowest found.1 in_word ∙ first.0, none_below)

-- the bits of the word of `at`, from `at` on
abbrev pub rest_at : AtomSet → ℕ → ℕ
rest_at s at = word s (at / 64) / 2 ^ (at % 64)

module _ (s : AtomSet) (at : ℕ) (inside : at < 256) where
  has_rest : (j : ℕ) → at % 64 + j < 64 → has s (at + j) ≡ bit (rest_at s at) j
  has_rest j h =
      has_inside s (at + j) (omega arith)
      ∙ ap₂ (λ (x y : ℕ). bit (word s x) y) (let e : (at + j) / 64 ≡ at / 64 = omega arith in e) (let e : (at + j) % 64 ≡ at % 64 + j = omega arith in e)
      ∙ sym (bit_shr (word s (at / 64)) (at % 64) j)

  -- in the rest of the word, a place is the place from `at` on
  has_from : (b : ℕ) → at ≤ b → at % 64 + (b - at) < 64 → has s b ≡ bit (rest_at s at) (b - at)
  has_from b h l = ap (has s) (let e : b ≡ at + (b - at) = omega arith in e) ∙ has_rest (b - at) l

  pub none_in_word : rest_at s at ≡ 0 → (b : ℕ) → at ≤ b → b < (at / 64 + 1) * 64 → has s b ≡ false
  none_in_word e b h l = has_from b h (omega arith) ∙ ap (λ (w : ℕ). bit w (b - at)) e ∙ bit_zero (b - at)

  module _ (short : word s (at / 64) < 2 ^ 64) (some : 0 < rest_at s at) where
    lowest_left : First (rest_at s at) (count_trailing_zeros 64 (rest_at s at))
    lowest_left = trailing_first 64 (rest_at s at) (lt_of_le_of_lt (shr_le (word s (at / 64)) (at % 64)) short) some

    pub next_in_word : at % 64 + count_trailing_zeros 64 (rest_at s at) < 64
    next_in_word = trailing_left (word s (at / 64)) (at % 64) short (λ e. omega arith)

    pub next_first : FirstFrom s at (at + count_trailing_zeros 64 (rest_at s at))
    next_first = (
      omega arith,
      has_rest (count_trailing_zeros 64 (rest_at s at)) next_in_word ∙ lowest_left.0,
      λ b h l. has_from b h (omega (arith, next_in_word)) ∙ lowest_left.1 (b - at) (omega arith),
    )

-- the lowest member, told by an equal number
pub first_at : (s : AtomSet) (from a b : ℕ) → a ≡ b → FirstFrom s from b → FirstFrom s from a
first_at s from a b e = subst (FirstFrom s from) (sym e)

-- a search that has passed no member up to `at` may go on from there
pub first_from_later : (s : AtomSet) (from at a : ℕ) → from ≤ at → ((b : ℕ) → from ≤ b → b < at → has s b ≡ false) → FirstFrom s at a → FirstFrom s from a
first_from_later s from at a h none later = (
  omega (arith, later.0),
  later.1,
  λ b l m. ⊎_elim (none b l) (λ k. later.2 b k m) (cases_lt b at),
)

-- the same, where there may be none
pub next_from_later : (s : AtomSet) (from at : ℕ) (o : Option ℕ) → from ≤ at → ((b : ℕ) → from ≤ b → b < at → has s b ≡ false)
    → MatchOption o (NoneFrom s at) (FirstFrom s at) → MatchOption o (NoneFrom s from) (FirstFrom s from)
next_from_later s from at None h none later = λ b l. ⊎_elim (none b l) (λ k. later b k) (cases_lt b at)
next_from_later s from at (Some a) h none later = first_from_later s from at a h none later

-- d has the members of s but for those below `from`: its lowest is the lowest of s at or past `from`
pub first_of_rest : (s d : AtomSet) (from : ℕ) (o : Option ℕ) → ((a : ℕ) → has d a ≡ (has s a && not (has s a && ltb a from)))
    → MatchOption o (NoneFrom d 0) (FirstFrom d 0) → MatchOption o (NoneFrom s from) (FirstFrom s from)
first_of_rest s d from o rest = by_case o
  where
    kept : (x y : Bool) → y ≡ false → (x && not (x && y)) ≡ x
    kept true y e = ap not e
    kept false y e = refl

    gone : (x y : Bool) → y ≡ true → (x && not (x && y)) ≡ false
    gone true y e = ap not e
    gone false y e = refl

    past : (a : ℕ) → from ≤ a → has d a ≡ has s a
    past a l = rest a ∙ kept (has s a) (ltb a from) (le-ltb a from l)

    low : (a : ℕ) → a < from → has d a ≡ false
    low a l = rest a ∙ gone (has s a) (ltb a from) (lt-ltb a from l)

    by_case : (o : Option ℕ) → MatchOption o (NoneFrom d 0) (FirstFrom d 0) → MatchOption o (NoneFrom s from) (FirstFrom s from)
    by_case None none = λ a l. sym (past a l) ∙ none a (omega arith)
    by_case (Some a) found =
        let l : from ≤ a = ⊎_elim (λ m. absurd (both_ways (has d a) (low a m) found.1)) (λ m. m) (cases_lt a from) in
        (l, sym (past a l) ∙ found.1, λ b m n. sym (past b m) ∙ found.2 b (omega arith) n)
