-- A STRIPS problem by the number of its highest atom, within its limits. Assumes nothing.
use Rattle.std.proofs.Common.{◌≡◌, ℕ, ◌-◌, ◌≤◌, min, List, length, ap₂, arith}
use Rattle.domain.specs.Strips.{problem, problem_of, problem_by, atom_count}
use Rattle.domain.specs.declared.atoms.AtomSet.{AtomSet}
use Rattle.domain.specs.declared.strips.Action.{Action}

-- within the limits it means what its numbers say
pub held_problem : (n : ℕ) (start goal : AtomSet) (acts : List Action) → 1 ≤ n → n ≤ 256 → length acts ≤ 1024
    → problem_by (n - 1) start goal acts ≡ problem n start goal acts
held_problem n start goal acts some few size =
    let atoms : atom_count (n - 1) ≡ n = omega arith in
    let all : min (length acts) 1024 ≡ length acts = omega arith in
    ap₂ (λ k count. problem_of k count start goal acts) atoms all
