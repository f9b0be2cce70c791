-- The code's tests of the atoms that a problem names, against their meanings. Assumes nothing.
use Rattle.std.proofs.Common.{◌≡◌, ℕ, Bool, true, false, not, is_some, Some, None, Option, Decides, sym, refl, ap, ◌∙◌, ⊎_elim, arith, MatchOption}
use Rattle.std.proofs.lemmas.Bool.{cases_lt, both_ways, cases_Bool}
use Rattle.domain.specs.Atoms.{has, NoneFrom, FirstFrom}
use Rattle.domain.specs.Operators.{fits}
use Rattle.domain.specs.declared.atoms.AtomSet.{AtomSet}
use Rattle.domain.proofs.Members.{decides_fits}

-- no next member from n on: every member is below n
pub fits_from_next : (n : ℕ) (s : AtomSet) (o : Option ℕ) (r : Bool) → MatchOption o (NoneFrom s n) (FirstFrom s n) → is_some o ≡ not r → r ≡ fits n s
fits_from_next n s None r none e =
    turned r e
    ∙ sym ((decides_fits n s).1 (λ a h. ⊎_elim (λ l. l) (λ l. absurd (both_ways (has s a) (none a l) h)) (cases_lt a n)))
  where
    turned : (b : Bool) → false ≡ not b → b ≡ true
    turned true q = refl
    turned false q = q
fits_from_next n s (Some a) r first e =
    turned r e ∙ ⊎_elim (λ f. absurd (low f)) (λ f. sym f) (cases_Bool (fits n s))
  where
    turned : (b : Bool) → true ≡ not b → b ≡ false
    turned true q = q
    turned false q = refl

    low : fits n s ≡ true → ⊥
    low f = omega (arith, first.0, (decides_fits n s).0 f a first.1)

-- no lowest member: there is none
pub empty_from_first : (s : AtomSet) (o : Option ℕ) (r : Bool) → MatchOption o (NoneFrom s 0) (FirstFrom s 0) → is_some o ≡ not r
    → Decides r ((a : ℕ) → has s a ≡ false)
empty_from_first s None r none e = (λ _ a. none a (omega arith), λ _. turned r e)
  where
    turned : (b : Bool) → false ≡ not b → b ≡ true
    turned true q = refl
    turned false q = q
empty_from_first s (Some a) r first e = (λ t. absurd (both_ways (not r) (ap not t) (sym e)), λ f. absurd (both_ways (has s a) (f a) first.1))
