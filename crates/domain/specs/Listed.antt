-- Two laws of the list of members that every model rests on: it rises, and that of the members below n has none at or past n.
-- Assumes nothing.
use Rattle.std.specs.Prelude.{◌≡◌, ℕ, zero, suc, ◌-◌, ◌*◌, ◌/◌, ◌%◌, ◌^◌, ◌<◌, ◌≤◌, Bool, true, false, cond, List, [], ◌∷◌, ◌++◌, filter, nat_eq, nat_lt, refl}
use Rattle.std.proofs.Common.{sym, ap, subst, ◌∙◌, ⊎_elim, mod-lt, lt_of_lt_of_le, arith, pow_pos, pow_mono}
use Rattle.std.proofs.Math.Nat.{div-eq_of_lt}
use Rattle.std.specs.List.{AllByRecursion}
use Rattle.std.proofs.lemmas.List.{append-nil}
use Rattle.std.proofs.lemmas.List.Elements.{filter-append}
use Rattle.std.proofs.ByRecursion.{All-push, All-weaker, all_kept_by, kept_by_passes}
use Rattle.std.proofs.lemmas.Bool.{cases_lt, ltb-true, and_parts, both_ways}
use Rattle.domain.specs.Atoms.{word, has, upto, members, limited}
use Rattle.domain.specs.Words.{bit}
use Rattle.domain.specs.Model.{Rising}
use Rattle.domain.specs.declared.atoms.AtomSet.{AtomSet}

pub upto_below : (n : ℕ) → AllByRecursion (λ a. a < n) (upto n)
upto_below zero = tt
upto_below (suc n) =
    All-push (λ a. a < suc n) (upto n) n (All-weaker (λ a. a < n) (λ a. a < suc n) (λ a h. omega arith) (upto n) (upto_below n)) (omega arith)

-- one number more
pub kept_upto_suc : (p : ℕ → Bool) (n : ℕ) → filter p (upto (suc n)) ≡ filter p (upto n) ++ cond (p n) (n ∷ []) []
kept_upto_suc p n = filter-append p (upto n) (n ∷ [])

rising_push : (xs : List ℕ) (n : ℕ) → Rising xs → AllByRecursion (λ a. a < n) xs → Rising (xs ++ n ∷ [])
rising_push [] n r h = (tt, tt)
rising_push (x ∷ xs) n r h = (All-push (λ y. x < y) xs n r.0 h.0, rising_push xs n r.1 h.1)

pub kept_rising : (p : ℕ → Bool) (n : ℕ) → Rising (filter p (upto n))
kept_rising p zero = tt
kept_rising p (suc n) = subst Rising (sym (kept_upto_suc p n)) (by_case (p n) (kept_rising p n))
  where
    by_case : (b : Bool) → Rising (filter p (upto n)) → Rising (filter p (upto n) ++ cond b (n ∷ []) [])
    by_case true r = rising_push (filter p (upto n)) n r (all_kept_by p (λ a. a < n) (upto n) (upto_below n))
    by_case false r = subst Rising (sym (append-nil (filter p (upto n)))) r

pub members_rising : (s : AtomSet) → Rising (members s)
unfolding members
members_rising s = kept_rising (has s) 256

-- a word of k bits has none at or past k
pub bit_past : (w k i : ℕ) → w < 2 ^ k → k ≤ i → bit w i ≡ false
bit_past w k i h l = ap (λ (x : ℕ). nat_eq (x % 2) 1) (div-eq_of_lt (lt_of_lt_of_le h (pow_mono l)))

pub limited_word : (s : AtomSet) (n i : ℕ) → i < 4 → word (limited s n) i ≡ word s i % 2 ^ (n - 64 * i)
limited_word s n zero h = ap (λ (k : ℕ). word s 0 % 2 ^ k) (let e : n ≡ n - 0 = omega arith in e)
limited_word s n (suc zero) h = refl
limited_word s n (suc (suc zero)) h = refl
limited_word s n (suc (suc (suc zero))) h = refl
limited_word s n (suc (suc (suc (suc i)))) h = absurd (omega arith)

limited_has_below : (s : AtomSet) (n a : ℕ) → has (limited s n) a ≡ true → a < n
limited_has_below s n a h = ⊎_elim (λ l. l) (λ l. absurd (both_ways (bit (word (limited s n) (a / 64)) (a % 64)) (off l) parts.1)) (cases_lt a n)
  where
    parts : (nat_lt a 256 ≡ true) × (bit (word (limited s n) (a / 64)) (a % 64) ≡ true)
    parts = and_parts (nat_lt a 256) (bit (word (limited s n) (a / 64)) (a % 64)) h

    off : n ≤ a → bit (word (limited s n) (a / 64)) (a % 64) ≡ false
    off l =
        let i : a / 64 < 4 = omega (arith, ltb-true a 256 parts.0) in
        let k = n - 64 * (a / 64) in
        ap (λ (w : ℕ). bit w (a % 64)) (limited_word s n (a / 64) i)
        ∙ bit_past (word s (a / 64) % 2 ^ k) k (a % 64) (mod-lt (word s (a / 64)) (pow_pos k)) (omega arith)

-- every member of the members below n is below n
pub limited_below : (s : AtomSet) (n : ℕ) → AllByRecursion (λ a. a < n) (members (limited s n))
unfolding members
limited_below s n =
    All-weaker (λ a. has (limited s n) a ≡ true) (λ a. a < n) (limited_has_below s n) (members (limited s n)) (kept_by_passes (has (limited s n)) (upto 256))
