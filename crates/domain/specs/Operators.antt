-- The atoms that a STRIPS problem names, held against its count. Assumes nothing.
use Rattle.std.specs.Prelude.{ℕ, Bool, ◌&&◌, List, nat_lt}
use Rattle.std.specs.List.{prefix_len}
use Rattle.domain.specs.Atoms.{members, every}
use Rattle.domain.specs.declared.atoms.AtomSet.{AtomSet}
use Rattle.domain.specs.declared.strips.Action.{Action}

-- every member of s is below n
abbrev pub fits : ℕ → AtomSet → Bool
fits n s = every (λ a. nat_lt a n) (members s)

-- every atom that an action names is below n
abbrev pub action_fits : ℕ → Action → Bool
action_fits n act = fits n act.preconditions && (fits n act.additions && fits n act.deletions)

-- every atom that the actions name is below n
abbrev pub all_fit : ℕ → List Action → Bool
all_fit n acts = every (action_fits n) acts

-- the number of the lowest action that names an atom at or past n; where there is none, the number of actions
abbrev pub first_unfit : ℕ → List Action → ℕ
first_unfit n acts = prefix_len (action_fits n) acts
