-- The bits of a word, and what each operation on words does to them. Assumes nothing.
use Rattle.std.proofs.Common.{◌≡◌, ℕ, zero, suc, ◌+◌, ◌-◌, ◌/◌, ◌%◌, ◌^◌, ◌<◌, ◌≤◌, Bool, true, false, not, ◌&&◌, ◌||◌, eqb, ltb, sym, refl, ap, ◌∙◌, ⊎_elim, mod-lt, pow-suc, one-add, arith, pow_pos, shr-shr}
use native.Mathlib.Nat.{zero-div}
use lib.Dec.{eqb-suc-suc, eqb-zero-suc, eqb-suc-zero}
use lib.Bits.{bit_and, bit_or, and_shr, or_shr, and_mod, or_mod}
use lib.Pow.{field, mod-mod-pow}
use Rattle.std.proofs.lemmas.Bool.{lt-ltb, le-ltb, cases_lt, and_right}
use Rattle.std.proofs.lemmas.Bool.Decides.{nat_tests}
use Rattle.domain.specs.Words.{bit, complement}
use Rattle.domain.specs.Listed.{bit_past}

-- an operation that shifts and takes the lowest digit pass through works bit by bit: `table` is its four cases
module _ (op : ℕ → ℕ → ℕ) (g : Bool → Bool → Bool)
    (shr : (w v i : ℕ) → op w v / 2 ^ i ≡ op (w / 2 ^ i) (v / 2 ^ i))
    (low : (w v i : ℕ) → op w v % 2 ^ i ≡ op (w % 2 ^ i) (v % 2 ^ i))
    (table : (eqb (op 0 0) 1 ≡ g false false) × (eqb (op 0 1) 1 ≡ g false true) × (eqb (op 1 0) 1 ≡ g true false) × (eqb (op 1 1) 1 ≡ g true true)) where
  digit : (x y : ℕ) → x < 2 → y < 2 → eqb (op x y) 1 ≡ g (eqb x 1) (eqb y 1)
  digit zero zero h k = table.0
  digit zero (suc zero) h k = table.1
  digit zero (suc (suc y)) h k = absurd (omega arith)
  digit (suc zero) zero h k = table.2
  digit (suc zero) (suc zero) h k = table.3
  digit (suc zero) (suc (suc y)) h k = absurd (omega arith)
  digit (suc (suc x)) y h k = absurd (omega arith)

  bit_of : (w v i : ℕ) → bit (op w v) i ≡ g (bit w i) (bit v i)
  bit_of w v i =
      ap (λ (x : ℕ). eqb (x % 2) 1) (shr w v i) ∙ ap (λ (x : ℕ). eqb x 1) (low (w / 2 ^ i) (v / 2 ^ i) 1)
      ∙ digit (w / 2 ^ i % 2) (v / 2 ^ i % 2) (omega arith) (omega arith)

pub bit_of_or : (w v i : ℕ) → bit (bit_or w v) i ≡ (bit w i || bit v i)
bit_of_or = bit_of bit_or ◌||◌ or_shr or_mod (refl, refl, refl, refl)

pub bit_of_and : (w v i : ℕ) → bit (bit_and w v) i ≡ (bit w i && bit v i)
bit_of_and = bit_of bit_and ◌&&◌ and_shr and_mod (refl, refl, refl, refl)

-- a shift moves the bits down, and a half by one
pub bit_shr : (w j i : ℕ) → bit (w / 2 ^ j) i ≡ bit w (j + i)
bit_shr w j i = ap (λ (x : ℕ). eqb (x % 2) 1) (shr-shr w j i)

pub bit_half : (w i : ℕ) → bit (w / 2) i ≡ bit w (suc i)
bit_half w i = bit_shr w 1 i ∙ ap (bit w) (one-add i)

pub bit_zero : (i : ℕ) → bit 0 i ≡ false
bit_zero i = ap (λ (x : ℕ). eqb (x % 2) 1) (zero-div (2 ^ i))

-- the complement of a word of k bits turns each of them
bit_flip : (k w i : ℕ) → w < 2 ^ k → i < k → bit (2 ^ k - 1 - w) i ≡ not (bit w i)
bit_flip zero w i h l = absurd (omega arith)
bit_flip (suc k) w zero h l = flip (w / 1 % 2) ((2 ^ suc k - 1 - w) / 1 % 2) (omega arith) (omega (arith, pow-suc 2 k, pow_pos k))
  where
    flip : (x y : ℕ) → x < 2 → y + x ≡ 1 → eqb y 1 ≡ not (eqb x 1)
    flip zero y h e = ap (λ (z : ℕ). eqb z 1) (let f : y ≡ 1 = omega arith in f)
    flip (suc zero) y h e = ap (λ (z : ℕ). eqb z 1) (let f : y ≡ 0 = omega arith in f)
    flip (suc (suc x)) y h e = absurd (omega arith)
bit_flip (suc k) w (suc i) h l =
    sym (bit_half (2 ^ suc k - 1 - w) i)
    ∙ ap (λ (x : ℕ). bit x i) (let e : (2 ^ suc k - 1 - w) / 2 ≡ 2 ^ k - 1 - w / 2 = omega (arith, pow-suc 2 k) in e)
    ∙ bit_flip k (w / 2) i (omega (arith, pow-suc 2 k)) (omega arith) ∙ ap not (bit_half w i)

pub bit_complement : (w i : ℕ) → w < 2 ^ 64 → i < 64 → bit (complement w) i ≡ not (bit w i)
bit_complement = bit_flip 64

pub and_yes : (b t : Bool) → t ≡ true → (b && t) ≡ b
and_yes true t e = e
and_yes false t e = refl

-- the lowest k bits of a word
pub bit_mod : (w k i : ℕ) → bit (w % 2 ^ k) i ≡ (bit w i && ltb i k)
bit_mod w k i = ⊎_elim inside outside (cases_lt i k)
  where
    inside : i < k → bit (w % 2 ^ k) i ≡ (bit w i && ltb i k)
    inside h =
        let j = k - suc i in
        let e : k ≡ j + 1 + i = omega arith in
        ap (λ (x : ℕ). eqb (w % 2 ^ x / 2 ^ i % 2) 1) e ∙ ap (λ (x : ℕ). eqb (x % 2) 1) (field w (j + 1) i)
        ∙ ap (λ (x : ℕ). eqb x 1) (mod-mod-pow (w / 2 ^ i) j 1) ∙ sym (and_yes (bit w i) (ltb i k) (lt-ltb i k h))

    outside : k ≤ i → bit (w % 2 ^ k) i ≡ (bit w i && ltb i k)
    outside h = bit_past (w % 2 ^ k) k i (mod-lt w (pow_pos k)) h ∙ sym (and_right (bit w i) (ltb i k) (le-ltb i k h))

-- a power of two has one bit
pub bit_pow : (j i : ℕ) → bit (2 ^ j) i ≡ eqb i j
bit_pow zero zero = refl
bit_pow zero (suc i) = sym (bit_half 1 i) ∙ bit_zero i ∙ sym (eqb-suc-zero i)
bit_pow (suc j) zero = ap (λ (x : ℕ). eqb x 1) (let e : 2 ^ suc j / 1 % 2 ≡ 0 = omega (arith, pow-suc 2 j) in e) ∙ sym (eqb-zero-suc j)
bit_pow (suc j) (suc i) =
    sym (bit_half (2 ^ suc j) i) ∙ ap (λ (x : ℕ). bit x i) (let e : 2 ^ suc j / 2 ≡ 2 ^ j = omega (arith, pow-suc 2 j) in e)
    ∙ bit_pow j i ∙ sym (eqb-suc-suc i j)

-- two words of k bits are equal where their bits are
pub same_bits : (k w v : ℕ) → w < 2 ^ k → v < 2 ^ k → ((i : ℕ) → i < k → bit w i ≡ bit v i) → w ≡ v
same_bits zero w v h l e = omega arith
same_bits (suc k) w v h l e =
    let high : w / 2 ≡ v / 2 =
    same_bits k (w / 2) (v / 2) (omega (arith, pow-suc 2 k)) (omega (arith, pow-suc 2 k))
    (λ i m. bit_half w i ∙ e (suc i) (omega arith) ∙ sym (bit_half v i)) in
    let low : w / 1 % 2 ≡ v / 1 % 2 = same_digit (w / 1 % 2) (v / 1 % 2) (omega arith) (omega arith) (e 0 (omega arith)) in
    omega arith
  where
    same_digit : (x y : ℕ) → x < 2 → y < 2 → eqb x 1 ≡ eqb y 1 → x ≡ y
    same_digit x y h l e = grind (arith, nat_tests)
