-- How many numbers below n pass a test, and the number of members by the set bits of the words. Assumes nothing.
use Rattle.std.proofs.Common.{◌≡◌, ℕ, zero, suc, ◌+◌, ◌*◌, ◌/◌, ◌%◌, ◌^◌, ◌<◌, ◌≤◌, Bool, true, false, cond, eqb, ltb, List, [], ◌∷◌, ◌++◌, length, sum_by, filter, sym, refl, ap, ◌∙◌, subst, ap₂, add-zero, add-suc, mod-lt, add_comm, one-add, arith, lit<, length-append, pow_pos}
use lib.Pow.{split}
use lib.Count.{ones, ones_cat, ones-le}
use Rattle.std.proofs.lemmas.Nat.{shr_below}
use Rattle.std.proofs.lemmas.List.Sums.{sum_by-cons}
use Rattle.std.proofs.lemmas.Bool.{lt-ltb}
use Rattle.domain.specs.Atoms.{word, has, upto, members}
use Rattle.domain.specs.Words.{Short, bit, total}
use Rattle.domain.specs.Listed.{kept_upto_suc}
use Rattle.domain.specs.declared.atoms.AtomSet.{AtomSet}
use Rattle.domain.proofs.Bit.{bit_mod, and_yes}
use Rattle.domain.proofs.Sets.{Sized, has_at}

-- how many numbers below n pass p
unfoldable pub tally : (ℕ → Bool) → ℕ → ℕ
tally p n = length (filter p (upto n))

tally_suc : (p : ℕ → Bool) (n : ℕ) → tally p (suc n) ≡ tally p n + cond (p n) 1 0
unfolding tally
tally_suc p n =
    ap length (kept_upto_suc p n) ∙ length-append (filter p (upto n)) (cond (p n) (n ∷ []) [])
    ∙ ap (λ (k : ℕ). length (filter p (upto n)) + k) (one (p n))
  where
    one : (b : Bool) → length (cond b (n ∷ []) []) ≡ cond b 1 0
    one true = refl
    one false = refl

tally_zero : (p : ℕ → Bool) → tally p 0 ≡ 0
unfolding tally
tally_zero p = refl

pub tally_le : (p : ℕ → Bool) (n : ℕ) → tally p n ≤ n
tally_le p zero = omega (arith, tally_zero p)
tally_le p (suc n) = omega (arith, tally_suc p n, tally_le p n, small (p n))
  where
    small : (b : Bool) → cond b 1 0 ≤ 1
    small true = omega arith
    small false = omega arith

pub kept_le : (p : ℕ → Bool) (n : ℕ) → length (filter p (upto n)) ≤ n
unfolding tally
kept_le = tally_le

tally_same : (p q : ℕ → Bool) (n : ℕ) → ((k : ℕ) → k < n → p k ≡ q k) → tally p n ≡ tally q n
tally_same p q zero e = tally_zero p ∙ sym (tally_zero q)
tally_same p q (suc n) e =
    tally_suc p n ∙ ap₂ (λ (k : ℕ) (b : Bool). k + cond b 1 0) (tally_same p q n (λ k h. e k (omega arith))) (e n (omega arith)) ∙ sym (tally_suc q n)

tally_add : (p : ℕ → Bool) (m n : ℕ) → tally p (m + n) ≡ tally p m + tally (λ k. p (m + k)) n
tally_add p m zero = ap (tally p) (add-zero m) ∙ omega (arith, tally_zero (λ k. p (m + k)))
tally_add p m (suc n) =
    ap (tally p) (add-suc m n) ∙ tally_suc p (m + n)
    ∙ omega (arith, tally_add p m n, tally_suc (λ k. p (m + k)) n)

-- the set bits of a word of k bits, counted from the lowest: those below the highest, and the highest
ones_tally : (k w : ℕ) → w < 2 ^ k → ones w ≡ tally (bit w) k
unfolding ones
ones_tally zero w h = ap ones (let e : w ≡ 0 = omega arith in e) ∙ sym (tally_zero (bit w))
ones_tally (suc k) w h =
    ap ones (sym (split w k)) ∙ ones_cat k (w / 2 ^ k) (w % 2 ^ k) (mod-lt w (pow_pos k))
    ∙ ap₂ ◌+◌ (highest (w / 2 ^ k) (shr_below w 1 k (subst (λ (x : ℕ). w < 2 ^ x) (sym (one-add k)) h)))
    (ones_tally k (w % 2 ^ k) (mod-lt w (pow_pos k))
    ∙ tally_same (bit (w % 2 ^ k)) (bit w) k (λ i l. bit_mod w k i ∙ and_yes (bit w i) (ltb i k) (lt-ltb i k l)))
    ∙ add_comm (cond (bit w k) 1 0) (tally (bit w) k) ∙ sym (tally_suc (bit w) k)
  where
    highest : (x : ℕ) → x < 2 → ones x ≡ cond (eqb (x % 2) 1) 1 0
    highest zero l = refl
    highest (suc zero) l = refl
    highest (suc (suc x)) l = absurd (omega arith)

-- the members of the words below i, and those of the word i
tally_word : (s : AtomSet) (i : ℕ) → i < 4 → word s i < 2 ^ 64 → tally (has s) (64 * i + 64) ≡ tally (has s) (64 * i) + ones (word s i)
tally_word s i h l =
    tally_add (has s) (64 * i) 64
    ∙ ap (λ (k : ℕ). tally (has s) (64 * i) + k)
    (tally_same (λ k. has s (64 * i + k)) (bit (word s i)) 64 (λ k m. has_at s i k h m) ∙ sym (ones_tally 64 (word s i) l))

pub length_tally : (s : AtomSet) → length (members s) ≡ tally (has s) 256
unfolding members tally
length_tally s = refl

-- where one member is still to come, fewer than 256 came before it
pub room_for : (s : AtomSet) (before : List ℕ) (a : ℕ) (after : List ℕ) → before ++ a ∷ after ≡ members s → length before < 256
unfolding members
room_for s before a after e = omega (arith, kept_le (has s) 256, ap length e, length-append before (a ∷ after))

pub length_members : (s : AtomSet) → Sized s → length (members s) ≡ total s.words
length_members s fits =
    length_tally s
    ∙ omega (arith, tally_zero (has s), tally_word s 0 (lit< tt) (fits 0 (lit< tt)), tally_word s 1 (lit< tt) (fits 1 (lit< tt)), tally_word s 2 (lit< tt) (fits 2 (lit< tt)), tally_word s 3 (lit< tt) (fits 3 (lit< tt)))

-- the set bits of four words, added up
pub ones_total : (xs : List ℕ) → length xs ≡ 4 → Short xs → (sum_by ones xs ≡ total xs) × (total xs ≤ 256)
ones_total [] e fits = absurd (omega arith)
ones_total (a ∷ []) e fits = absurd (omega arith)
ones_total (a ∷ b ∷ []) e fits = absurd (omega arith)
ones_total (a ∷ b ∷ c ∷ []) e fits = absurd (omega arith)
ones_total (a ∷ b ∷ c ∷ d ∷ []) e fits = (
  omega (arith, sum_by-cons ones a (b ∷ c ∷ d ∷ []), sum_by-cons ones b (c ∷ d ∷ []), sum_by-cons ones c (d ∷ []), sum_by-cons ones d []),
  omega (arith, ones-le 64 a fits.0, ones-le 64 b fits.1, ones-le 64 c fits.2, ones-le 64 d fits.3),
)
ones_total (a ∷ b ∷ c ∷ d ∷ x ∷ xs) e fits = absurd (omega arith)
