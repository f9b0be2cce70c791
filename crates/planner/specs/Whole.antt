-- One whole search: what it replies and leaves, and what that says about the problem. Assumes nothing.
use Rattle.std.specs.Prelude.{ℕ, ◌+◌, ◌<◌, Bool, true, cond, ◌||◌, List, length, Some, None, Ok, Err, Option, Result, nat_lt}
use Rattle.domain.specs.declared.refusal.Refusal.{Refusal}
use Rattle.domain.specs.declared.refusal.Refusal.TheVariants.{AtTarget, FewPlaces}
use Rattle.planner.specs.declared.node.Node.{Node}
use Rattle.planner.specs.declared.node.Link.{Link}
use Rattle.planner.specs.declared.node.Way.{Way}
use Rattle.planner.specs.declared.node.Outcome.{Outcome}
use Rattle.planner.specs.declared.node.Outcome.TheVariants.{Found, Exhausted, Open}
use Rattle.planner.specs.declared.node.Reply.{Reply}
use Rattle.planner.specs.Search.{Task, Snapshot, advanced, begun}
use Rattle.planner.specs.Way.{way_to}

-- the way that ends with a link: its length counts the links back, and the last action
abbrev pub way_by : {S : Type 0} → List (Node S) → Link → Way
way_by nodes l = record { parent = l.parent; action = l.action; length = length (way_to nodes l.parent l.parent) + 1 }

-- found once a target is met, else exhausted if no state waits, else open
abbrev pub outcome_of : {S : Type 0} → List (Node S) → Option Link → ℕ → ℕ → Outcome
outcome_of nodes (Some l) expanded kept = Found (way_by nodes l)
outcome_of nodes None expanded kept = cond (nat_lt expanded kept) Open Exhausted

-- the outcome, with the expanded and kept states of the whole search
abbrev pub reply_by : {S : Type 0} → List (Node S) → Option Link → ℕ → ℕ → Reply
reply_by nodes met expanded kept = record { outcome = outcome_of nodes met expanded kept; expanded = expanded; kept = kept }

abbrev pub reply_of : {S : Type 0} → Snapshot S → Reply
reply_of g = reply_by g.nodes g.met g.expanded g.kept

-- a link that met a target is from a number below n
abbrev pub Within : ℕ → Option Link → Type 0
Within n (Some l) = l.parent < n
Within n None = Unit {0}

-- the same as a test
abbrev pub linked : ℕ → Option Link → Bool
linked n (Some l) = nat_lt l.parent n
linked n None = true

module _ {S : Type 0} (Q : Task S) (nodes : List (Node S)) (marks : List ℕ) where
  -- a search does not begin at a target, or with fewer places for states or marks than keys
  abbrev pub search_fault : Option Refusal
  search_fault =
      cond (Q.problem.target Q.problem.start) (Some AtTarget)
      (cond (nat_lt (length nodes) Q.count || nat_lt (length marks) Q.count) (Some FewPlaces) None)

  -- the search after n expansions, or fewer where it ends before
  abbrev pub after : ℕ → Snapshot S
  after n = advanced Q n (begun Q nodes marks)

  -- the search at its end: with as many expansions as there are keys it has ended
  abbrev pub at_end : Snapshot S
  at_end = after Q.count

-- what a whole search replies, and what it leaves in the memory; a refusal leaves it as it was
abbrev pub search_reply : {S : Type 0} → Option Refusal → Snapshot S → Result Reply Refusal
search_reply (Some e) g = Err e
search_reply None g = Ok (reply_of g)

abbrev pub search_nodes : {S : Type 0} → Option Refusal → Snapshot S → List (Node S) → List (Node S)
search_nodes (Some e) g nodes = nodes
search_nodes None g nodes = g.nodes

abbrev pub search_marks : {S : Type 0} → Option Refusal → Snapshot S → List ℕ → List ℕ
search_marks (Some e) g marks = marks
search_marks None g marks = g.marks
