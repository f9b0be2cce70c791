-- The lowest set bit of a word. Assumes nothing.
use Rattle.std.proofs.Common.{◌≡◌, ℕ, zero, suc, ◌/◌, ◌%◌, ◌^◌, ◌<◌, true, false, eqb, sym, refl, ap, ◌∙◌, pow-suc, arith}
use lib.Count.{count_trailing_zeros, under}
use Rattle.domain.specs.Words.{bit}
use Rattle.domain.proofs.Bit.{bit_half}

-- bit t of w is set, and none below
abbrev pub First : ℕ → ℕ → Type 0
First w t = (bit w t ≡ true) × ((j : ℕ) → j < t → bit w j ≡ false)

bit_low : (w d : ℕ) → w % 2 ≡ d → bit w 0 ≡ eqb d 1
bit_low w d e = ap (λ (x : ℕ). eqb x 1) (let f : w / 1 % 2 ≡ d = omega arith in f)

pub trailing_first : (k w : ℕ) → w < 2 ^ k → 0 < w → First w (count_trailing_zeros k w)
unfolding count_trailing_zeros
trailing_first zero w h l = absurd (omega arith)
trailing_first (suc k) w h l = go (w % 2) refl (λ m. trailing_first k (w / 2) (omega (arith, pow-suc 2 k)) m)
  where
    below : {t : ℕ} → w % 2 ≡ 0 → ((j : ℕ) → j < t → bit (w / 2) j ≡ false) → (j : ℕ) → j < suc t → bit w j ≡ false
    below e rest zero m = bit_low w 0 e
    below e rest (suc j) m = sym (bit_half w j) ∙ rest j (omega arith)

    go : (d : ℕ) → w % 2 ≡ d → (0 < w / 2 → First (w / 2) (count_trailing_zeros k (w / 2))) → First w (under d (count_trailing_zeros k (w / 2)))
    go zero e rest =
        let low = rest (omega arith) in
        (sym (bit_half w (count_trailing_zeros k (w / 2))) ∙ low.0, below e low.1)
    go (suc zero) e rest = (bit_low w 1 e, λ j m. absurd (omega arith))
    go (suc (suc d)) e rest = absurd (omega arith)
