-- Worked examples, each settled from the definitions that the contracts of the library call. Assumes nothing.
use Rattle.std.specs.Prelude.{◌≡◌, ℕ, List, [], ◌∷◌, length, replicate, Some}
use Rattle.domain.specs.Atoms.{none, with_atom}
use Rattle.domain.specs.Model.{Meaning}
use Rattle.domain.specs.Strips.{problem}
use Rattle.domain.specs.declared.atoms.AtomSet.{AtomSet}
use Rattle.domain.specs.declared.refusal.Refusal.TheVariants.{ManyKeys}
use Rattle.domain.specs.declared.strips.Action.{Action}
use Rattle.novelty.specs.Tuples.{rank, tuple_count, tuples_fault}
use Rattle.planner.specs.Search.{Snapshot, node, advanced, begun}
use Rattle.planner.specs.Way.{actions_of}
use Rattle.planner.specs.Whole.{reply_of}
use Rattle.planner.specs.Widths.{tuple_task}
use Rattle.planner.specs.declared.node.Outcome.TheVariants.{Found, Exhausted, Open}
use Rattle.planner.specs.declared.node.Reply.{Reply}
use Rattle.planner.specs.declared.node.Way.{Way}

-- the set of these atoms
abbrev pub atoms : List ℕ → AtomSet
atoms [] = none
atoms (a ∷ rest) = with_atom (atoms rest) a

-- an action that needs, adds and deletes these atoms
abbrev pub action : List ℕ → List ℕ → List ℕ → Action
action needs adds deletes = record { preconditions = atoms needs; additions = atoms adds; deletions = atoms deletes }

-- the chain: atoms 0 to 3; action i needs and deletes i and adds i + 1; atom 0 is true at the start
abbrev pub chain : ℕ → Meaning AtomSet
chain goal =
    problem 4 (atoms (0 ∷ [])) (atoms (goal ∷ []))
    (action (0 ∷ []) (1 ∷ []) (0 ∷ []) ∷ action (1 ∷ []) (2 ∷ []) (1 ∷ []) ∷ action (2 ∷ []) (3 ∷ []) (2 ∷ []) ∷ [])

-- two switches and a lamp: nothing is true at the start; two actions add 0 and 1, the third adds 2 where both are true
abbrev pub switches : Meaning AtomSet
switches =
    problem 3 none (atoms (2 ∷ []))
    (action [] (0 ∷ []) [] ∷ action [] (1 ∷ []) [] ∷ action (0 ∷ 1 ∷ []) (2 ∷ []) [] ∷ [])

-- the search by the sets of at most k atoms in n places, after it was advanced by each of these numbers in turn
abbrev pub advanced_by : Meaning AtomSet → ℕ → ℕ → List ℕ → Snapshot AtomSet
advanced_by P k n [] = begun (tuple_task P k) (replicate n (node none 0 0)) (replicate n 0)
advanced_by P k n (b ∷ before) = advanced (tuple_task P k) b (advanced_by P k n before)

abbrev pub open_with : ℕ → ℕ → Reply
open_with expanded kept = record { outcome = Open; expanded = expanded; kept = kept }

abbrev pub exhausted_with : ℕ → ℕ → Reply
exhausted_with expanded kept = record { outcome = Exhausted; expanded = expanded; kept = kept }

abbrev pub found_with : Way → ℕ → ℕ → Reply
found_with w expanded kept = record { outcome = Found w; expanded = expanded; kept = kept }

pub data Example : Type 0 where
  -- a search of a problem by sets of at most k atoms, in n places, advanced by these numbers, the last first, replies so
  replies : Meaning AtomSet → ℕ → ℕ → List ℕ → Reply → Example
  -- a search, advanced so, finds a way with these actions, and has expanded and kept so many
  finds : Meaning AtomSet → ℕ → ℕ → List ℕ → List ℕ → ℕ → ℕ → Example
  -- the sets of at most k of N atoms have so many keys
  keys_of_sets : ℕ → ℕ → ℕ → Example
  -- the sets of at most k of N atoms have too many keys
  too_many : ℕ → ℕ → Example
  -- the key of a set of atoms below N
  key_of : ℕ → List ℕ → ℕ → Example

-- what it is for an example to hold
abbrev pub Settled : Example → Type 0
Settled (replies P k n budgets r) = reply_of (advanced_by P k n budgets) ≡ r
Settled (finds P k n budgets way expanded kept) =
    (w : Way) × (reply_of (advanced_by P k n budgets) ≡ found_with w expanded kept)
    × (actions_of (advanced_by P k n budgets).nodes w ≡ way) × (w.length ≡ length way)
Settled (keys_of_sets N k c) = tuple_count N k ≡ c
Settled (too_many N k) = tuples_fault N k ≡ Some ManyKeys
Settled (key_of N set k) = rank N set ≡ k

abbrev pub examples : List Example
examples =
    finds (chain 3) 1 5 (5 ∷ []) (0 ∷ 1 ∷ 2 ∷ []) 3 3
    ∷ replies (chain 3) 0 1 (1 ∷ []) (exhausted_with 1 1)
    ∷ finds (chain 1) 0 1 (1 ∷ []) (0 ∷ []) 1 1
    ∷ replies switches 1 4 (4 ∷ []) (exhausted_with 3 3)
    ∷ finds switches 2 7 (7 ∷ []) (0 ∷ 1 ∷ 2 ∷ []) 4 4
    ∷ replies switches 2 7 (0 ∷ []) (open_with 0 1)
    ∷ replies switches 2 7 (1 ∷ 0 ∷ []) (open_with 1 3)
    ∷ replies switches 2 7 (1 ∷ 1 ∷ 0 ∷ []) (open_with 2 4)
    ∷ finds switches 2 7 (2 ∷ 1 ∷ 1 ∷ 0 ∷ []) (0 ∷ 1 ∷ 2 ∷ []) 4 4
    ∷ keys_of_sets 73 3 64898
    ∷ too_many 74 3
    ∷ key_of 4 (3 ∷ []) 4
    ∷ key_of 4 (1 ∷ 3 ∷ []) 9
    ∷ []
