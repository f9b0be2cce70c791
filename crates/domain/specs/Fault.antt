-- What is checked of a STRIPS problem before it is made. Assumes nothing.
use Rattle.std.specs.Prelude.{◌≡◌, ℕ, ◌≤◌, cond, not, List, length, Some, None, Ok, Err, Option, Result, ◌==◌, nat_lt}
use Rattle.domain.specs.Operators.{fits, all_fit, first_unfit}
use Rattle.domain.specs.declared.atoms.AtomSet.{AtomSet}
use Rattle.domain.specs.declared.refusal.Refusal.{Refusal}
use Rattle.domain.specs.declared.refusal.Refusal.TheVariants.{Range, Limit}
use Rattle.domain.specs.declared.strips.Action.{Action}

-- the first thing wrong with a problem, in the order of the checks
abbrev pub strips_fault : ℕ → AtomSet → AtomSet → List Action → Option Refusal
strips_fault n start goal acts =
    cond (n == 0) (Some (Range 0))
    (cond (nat_lt 256 n) (Some (Limit 0))
    (cond (nat_lt 1024 (length acts)) (Some (Limit 1024))
    (cond (not (fits n start)) (Some (Range 0))
    (cond (not (fits n goal)) (Some (Range 0))
    (cond (not (all_fit n acts)) (Some (Range (first_unfit n acts))) None)))))

-- what the check of a problem tells: nothing is wrong, and so the numbers keep to their limits; or what is wrong
abbrev pub StripsChecked : ℕ → AtomSet → AtomSet → List Action → Result (Unit {0}) Refusal → Type 0
StripsChecked n start goal acts (Ok done) =
    (strips_fault n start goal acts ≡ None) × (1 ≤ n) × (n ≤ 256) × (length acts ≤ 1024)
StripsChecked n start goal acts (Err e) = strips_fault n start goal acts ≡ Some e
