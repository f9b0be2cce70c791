-- The empty set by its words, and one set within another by what the one has more. Assumes nothing.
use Rattle.std.proofs.Common.{◌≡◌, ℕ, zero, suc, ◌+◌, ◌*◌, ◌<◌, Bool, true, false, not, ◌&&◌, eqb, List, [], ◌∷◌, length, get_or, Decides, sym, refl, ap, ◌∙◌, ap₂, arith, lit<}
use Rattle.std.specs.List.{list_all}
use lib.Bits.{bit_or, or_add_and, and_le_l, and_le_r}
use Rattle.std.proofs.lemmas.Bool.{eqb-true, eq-eqb, and_parts}
use Rattle.std.proofs.lemmas.Bool.Decides.{same_from_decides, Decides-like}
use Rattle.domain.specs.Atoms.{word, has, within}
use Rattle.domain.specs.Words.{bit, overlaid}
use Rattle.domain.specs.declared.atoms.AtomSet.{AtomSet}
use Rattle.domain.proofs.Bit.{bit_zero, same_bits}
use Rattle.domain.proofs.Sets.{Sized, by_words, has_from_bits, has_at}
use Rattle.domain.proofs.Members.{decides_within}

or_zero : (w v : ℕ) → bit_or w v ≡ 0 → (w ≡ 0) × (v ≡ 0)
or_zero w v e = omega (arith, or_add_and w v, and_le_l w v, and_le_r w v)

pub none_from_words : (s : AtomSet) → ((i : ℕ) → i < 4 → word s i ≡ 0) → (a : ℕ) → has s a ≡ false
none_from_words s each = has_from_bits s (λ _. false) (λ i j h _. ap (λ (w : ℕ). bit w j) (each i h) ∙ bit_zero j) (λ _ _. refl)

words_from_none : (s : AtomSet) → Sized s → ((a : ℕ) → has s a ≡ false) → (i : ℕ) → i < 4 → word s i ≡ 0
words_from_none s fits e i h =
    same_bits 64 (word s i) 0 (fits i h) (lit< tt) (λ j l. sym (has_at s i j h l) ∙ e (64 * i + j) ∙ sym (bit_zero j))

-- the words together are 0 just where there is no member
pub decides_empty : (s : AtomSet) → Sized s → Decides (eqb (overlaid s.words) 0) ((a : ℕ) → has s a ≡ false)
decides_empty s fits = (to, back)
  where
    to : eqb (overlaid s.words) 0 ≡ true → (a : ℕ) → has s a ≡ false
    to e =
        let p = or_zero (bit_or (bit_or (word s 0) (word s 1)) (word s 2)) (word s 3) (eqb-true _ _ e) in
        let q = or_zero (bit_or (word s 0) (word s 1)) (word s 2) p.0 in
        let r = or_zero (word s 0) (word s 1) q.0 in
        none_from_words s (by_words (λ i. word s i ≡ 0) r.0 r.1 q.1 p.1)

    back : ((a : ℕ) → has s a ≡ false) → eqb (overlaid s.words) 0 ≡ true
    back f =
        let z = words_from_none s fits f in
        eq-eqb _ 0 (ap₂ bit_or (ap₂ bit_or (ap₂ bit_or (z 0 (lit< tt)) (z 1 (lit< tt))) (z 2 (lit< tt))) (z 3 (lit< tt)))

-- each word is 0 just where there is no member
pub decides_blank : (s : AtomSet) (r : Bool) → length s.words ≡ 4 → Sized s → r ≡ list_all (λ w. eqb w 0) s.words → Decides r ((a : ℕ) → has s a ≡ false)
decides_blank s r long fits told = (
  λ e. none_from_words s (λ i h. each s.words (sym told ∙ e) i (omega arith)),
  λ f. told ∙ all s.words (λ i h. words_from_none s fits f i (omega arith)),
)
  where
    each : (ws : List ℕ) → list_all (λ w. eqb w 0) ws ≡ true → (i : ℕ) → i < length ws → get_or ws i 0 ≡ 0
    each [] e i h = absurd (omega arith)
    each (w ∷ ws) e zero h = eqb-true w 0 (and_parts (eqb w 0) (list_all (λ v. eqb v 0) ws) e).0
    each (w ∷ ws) e (suc i) h = each ws (and_parts (eqb w 0) (list_all (λ v. eqb v 0) ws) e).1 i (omega arith)

    all : (ws : List ℕ) → ((i : ℕ) → i < length ws → get_or ws i 0 ≡ 0) → list_all (λ w. eqb w 0) ws ≡ true
    all [] z = refl
    all (w ∷ ws) z = ap₂ ◌&&◌ (eq-eqb w 0 (z 0 (omega arith))) (all ws (λ i h. z (suc i) (omega arith)))

-- d has what s has and t has not: s is within t just where d has nothing
pub within_from_empty : (s t d : AtomSet) (r : Bool) → ((a : ℕ) → has d a ≡ (has s a && not (has t a)))
    → Decides r ((a : ℕ) → has d a ≡ false) → r ≡ within s t
within_from_empty s t d r more empty =
    same_from_decides r (within s t)
    (Decides-like r (λ f a h. yes_there (has s a) (has t a) h (sym (more a) ∙ f a)) (λ f a. more a ∙ none_more (has s a) (has t a) (f a)) empty)
    (decides_within s t)
  where
    yes_there : (x y : Bool) → x ≡ true → (x && not y) ≡ false → y ≡ true
    yes_there true true e f = refl
    yes_there true false e f = sym f
    yes_there false true e f = refl
    yes_there false false e f = e

    none_more : (x y : Bool) → (x ≡ true → y ≡ true) → (x && not y) ≡ false
    none_more true y f = ap not (f refl)
    none_more false y f = refl
