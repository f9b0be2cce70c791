-- What is wrong with a problem whose numbers, start and goal are sound: the lowest action that does not fit. Assumes nothing.
use Rattle.std.proofs.Common.{◌≡◌, ℕ, suc, ◌+◌, ◌≤◌, Bool, true, false, cond, not, ◌&&◌, eqb, ltb, List, [], ◌∷◌, length, Some, None, Option, sym, refl, ap, ◌∙◌, arith}
use Rattle.std.specs.List.{prefix_len}
use Rattle.std.proofs.lemmas.Bool.{cond-false, ne_eqb, lt-ltb, le-ltb}
use Rattle.std.proofs.lemmas.Bool.Decides.{nat_tests}
use Rattle.domain.specs.Atoms.{every}
use Rattle.domain.specs.Fault.{strips_fault}
use Rattle.domain.specs.Operators.{fits, action_fits, first_unfit}
use Rattle.domain.specs.declared.atoms.AtomSet.{AtomSet}
use Rattle.domain.specs.declared.refusal.Refusal.{Refusal}
use Rattle.domain.specs.declared.refusal.Refusal.TheVariants.{Range}
use Rattle.domain.specs.declared.strips.Action.{Action}

-- the front that passes ends before the list's end just where an element fails
some_fails : {X : Type 0} (p : X → Bool) (xs : List X) → not (every p xs) ≡ ltb (prefix_len p xs) (length xs)
some_fails p [] = refl
some_fails p (x ∷ xs) = by_case (p x) (some_fails p xs)
  where
    by_case : (b : Bool) → not (every p xs) ≡ ltb (prefix_len p xs) (length xs)
        → not (b && every p xs) ≡ ltb (cond b (1 + prefix_len p xs) 0) (suc (length xs))
    by_case true rest = rest ∙ shifted (prefix_len p xs) (length xs)
      where
        shifted : (m n : ℕ) → ltb m n ≡ ltb (1 + m) (suc n)
        shifted m n = grind (arith, nat_tests)
    by_case false rest = sym (lt-ltb 0 (suc (length xs)) (omega arith))

-- what is left to check of the actions
pub fault_of_actions : (n : ℕ) (start goal : AtomSet) (acts : List Action) → 1 ≤ n → n ≤ 256 → length acts ≤ 1024 → fits n start ≡ true → fits n goal ≡ true
    → strips_fault n start goal acts ≡ cond (ltb (first_unfit n acts) (length acts)) (Some (Range (first_unfit n acts))) None
fault_of_actions n start goal acts some few size s g =
    cond-false (eqb n 0) _ _ (ne_eqb n 0 (λ e. omega arith)) ∙ cond-false (ltb 256 n) _ _ (le-ltb 256 n few)
    ∙ cond-false (ltb 1024 (length acts)) _ _ (le-ltb 1024 (length acts) size) ∙ cond-false (not (fits n start)) _ _ (ap not s)
    ∙ cond-false (not (fits n goal)) _ _ (ap not g)
    ∙ ap (λ (b : Bool). cond {A = Option Refusal} b (Some (Range (first_unfit n acts))) None) (some_fails (action_fits n) acts)
