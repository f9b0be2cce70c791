-- What a STRIPS problem means. Assumes nothing.
use Rattle.std.specs.Prelude.{ℕ, ◌+◌, min, Bool, cond, ◌&&◌, List, [], length, nat_lt, slice_index_or}
use Rattle.domain.specs.Atoms.{members, within, limited, unite, without}
use Rattle.domain.specs.Model.{Meaning}
use Rattle.domain.specs.declared.atoms.AtomSet.{AtomSet}
use Rattle.domain.specs.declared.strips.Action.{Action}

-- a set of no words, which has no members
abbrev pub bare : AtomSet
bare = record { words = [] }

-- an action that needs, adds and deletes nothing
abbrev pub idle : Action
idle = record { preconditions = bare; additions = bare; deletions = bare }

-- the action of a number, and past the table's end the idle one
abbrev pub action_at : List Action → ℕ → Action
action_at acts a = slice_index_or acts a idle

-- an action, one of so many, applies when all its preconditions are true
abbrev pub strips_applies : ℕ → ℕ → List Action → AtomSet → ℕ → Bool
strips_applies n count acts s a = nat_lt a count && within (action_at acts a).preconditions (limited s n)

-- the state after an action: deletions come before additions
abbrev pub state_after : AtomSet → Action → AtomSet
state_after s act = unite (without s act.deletions) act.additions

-- the meaning of a problem of n atoms and so many actions of a table
abbrev pub problem_of : ℕ → ℕ → AtomSet → AtomSet → List Action → Meaning AtomSet
problem_of n count start goal acts = record {
  atoms = n;
  actions = count;
  start = start;
  truths = λ s. members (limited s n);
  target = λ s. within goal (limited s n);
  applies = strips_applies n count acts;
  next = λ s a. cond (strips_applies n count acts s a) (state_after s (action_at acts a)) s;
}

-- the meaning of a problem of n atoms and all actions of a table
abbrev pub problem : ℕ → AtomSet → AtomSet → List Action → Meaning AtomSet
problem n start goal acts = problem_of n (length acts) start goal acts

-- the count of atoms, by the number of the highest, which is at most 255
abbrev pub atom_count : ℕ → ℕ
atom_count highest = min (highest + 1) 256

-- the meaning of a problem by the number of its highest atom: entries of the table past 1,024 are no actions
abbrev pub problem_by : ℕ → AtomSet → AtomSet → List Action → Meaning AtomSet
problem_by highest start goal acts = problem_of (atom_count highest) (min (length acts) 1024) start goal acts
