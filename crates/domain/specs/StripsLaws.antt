-- A STRIPS problem is a lawful model. Assumes nothing.
use Rattle.std.specs.Prelude.{ℕ, ◌≤◌, min, List, length, nat_lt}
use Rattle.std.proofs.Common.{arith}
use Rattle.std.proofs.lemmas.Bool.{le-ltb, and_left, cond-false}
use Rattle.domain.specs.Atoms.{within, limited}
use Rattle.domain.specs.Listed.{members_rising, limited_below}
use Rattle.domain.specs.Model.{Lawful}
use Rattle.domain.specs.Strips.{problem, problem_of, problem_by, atom_count, strips_applies, action_at, state_after}
use Rattle.domain.specs.declared.atoms.AtomSet.{AtomSet}
use Rattle.domain.specs.declared.strips.Action.{Action}

-- of n atoms and so many actions of a table, within the limits
pub problem_of_lawful : (n count : ℕ) (start goal : AtomSet) (acts : List Action) → 1 ≤ n → n ≤ 256 → count ≤ 1024 → Lawful (problem_of n count start goal acts)
problem_of_lawful n count start goal acts some few size = record {
  some_atoms = some;
  few_atoms = few;
  few_actions = size;
  rising = λ s. members_rising (limited s n);
  below = λ s. limited_below s n;
  past = λ s a h. and_left (nat_lt a count) (within (action_at acts a).preconditions (limited s n)) (le-ltb a count h);
  stays = λ s a e. cond-false (strips_applies n count acts s a) (state_after s (action_at acts a)) s e;
}

-- of n atoms and all actions of a table, within the limits
pub problem_lawful : (n : ℕ) (start goal : AtomSet) (acts : List Action) → 1 ≤ n → n ≤ 256 → length acts ≤ 1024 → Lawful (problem n start goal acts)
problem_lawful n start goal acts some few short = problem_of_lawful n (length acts) start goal acts some few short

-- of every number and table: past the limits they count as at them
pub problem_by_lawful : (highest : ℕ) (start goal : AtomSet) (acts : List Action) → Lawful (problem_by highest start goal acts)
problem_by_lawful highest start goal acts =
    problem_of_lawful (atom_count highest) (min (length acts) 1024) start goal acts (omega arith) (omega arith) (omega arith)
