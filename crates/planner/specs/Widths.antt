-- Searches by the sets of at most k true atoms, for k = 0, 1, 2 in turn, until one finds a way. Assumes nothing.
use Rattle.std.specs.Prelude.{◌≡◌, ℕ, ◌+◌, ◌<◌, ◌≤◌, ◌⊎◌, List, ◌++◌, length, drop, Some, None, Ok, Err, Option, Result, slice_index_or}
use Rattle.domain.specs.Model.{Meaning}
use Rattle.domain.specs.declared.refusal.Refusal.{Refusal}
use Rattle.domain.specs.declared.refusal.Refusal.TheVariants.{PlanFull}
use Rattle.novelty.specs.Tuples.{tuple_keys, tuple_count, tuples_fault}
use Rattle.planner.specs.declared.node.Node.{Node}
use Rattle.planner.specs.declared.node.Outcome.TheVariants.{Found, Exhausted}
use Rattle.planner.specs.declared.node.Reply.{Reply}
use Rattle.planner.specs.declared.node.Way.{Way}
use Rattle.planner.specs.declared.widths.Attempts.{Attempts}
use Rattle.planner.specs.Findings.{WholeFindings}
use Rattle.planner.specs.Search.{Task, task}
use Rattle.planner.specs.Way.{actions_of}
use Rattle.planner.specs.Whole.{at_end, reply_of, search_fault}

-- the first of two faults
abbrev pub first_fault : Option Refusal → Option Refusal → Option Refusal
first_fault (Some e) f = Some e
first_fault None f = f

module _ {S : Type 0} (P : Meaning S) where
  -- the task of searching P by the sets of at most k of its true atoms
  abbrev pub tuple_task : ℕ → Task S
  tuple_task k = task P (tuple_keys P.atoms k) (tuple_count P.atoms k)

  -- why there is no such search in a memory of so many nodes and marks, if there is none
  abbrev pub width_fault : ℕ → List (Node S) → List ℕ → Option Refusal
  width_fault k nodes marks = first_fault (tuples_fault P.atoms k) (search_fault (tuple_task k) nodes marks)

  -- r is the reply of a whole search by the sets of at most k atoms that began in some memory, left these nodes, and
  -- found out what such a search finds out
  pub record Searched (k : ℕ) (end : List (Node S)) (r : Reply) : Type 0 where
    pub nodes : List (Node S)
    pub marks : List ℕ
    pub begun : search_fault (tuple_task k) nodes marks ≡ None
    pub reply : r ≡ reply_of (at_end (tuple_task k) nodes marks)
    pub left : end ≡ (at_end (tuple_task k) nodes marks).nodes
    pub findings : WholeFindings (tuple_task k) nodes marks end r

  -- the searches by k below n were made, and ended exhausted
  abbrev pub ExhaustedBelow : ℕ → List (Option Reply) → Type 0
  ExhaustedBelow n replies =
      (k : ℕ) → k < n → (end : List (Node S)) × (r : Reply) × (slice_index_or replies k None ≡ Some r) × Searched k end r × (r.outcome ≡ Exhausted)

  -- no search by k from n on was made
  abbrev pub UnmadeFrom : ℕ → List (Option Reply) → Type 0
  UnmadeFrom n replies = (k : ℕ) → n ≤ k → slice_index_or replies k None ≡ None

  -- All three searches were exhausted, and the plan is as it was; or those below some k were, and the search by k, the
  -- last one made, found a way, which now stands at the plan's beginning.
  abbrev pub Attempted : List (Node S) → List ℕ → List ℕ → Attempts → Type 0
  Attempted end before plan a =
      ((a.steps ≡ None) × ExhaustedBelow 3 a.replies × (plan ≡ before))
      ⊎ ((k : ℕ) × (w : Way) × (r : Reply) × (k < 3) × (a.steps ≡ Some w.length) × ExhaustedBelow k a.replies × UnmadeFrom (k + 1) a.replies
      × (slice_index_or a.replies k None ≡ Some r) × Searched k end r × (r.outcome ≡ Found w)
      × (plan ≡ actions_of end w ++ drop w.length before))

  -- Why trying the widths is refused: a search by some k is not to be had in this memory, or the way that it found is
  -- longer than the list for the plan.
  abbrev pub Refused : List (Node S) → List ℕ → List ℕ → Refusal → Type 0
  Refused nodes marks plan e =
      (k : ℕ) × (k < 3)
      × ((width_fault k nodes marks ≡ Some e)
      ⊎ ((e ≡ PlanFull) × ((end : List (Node S)) × (r : Reply) × (w : Way) × Searched k end r × (r.outcome ≡ Found w) × (length plan < w.length))))

  -- what trying the widths in turn answers; a refusal leaves the plan as it was
  abbrev pub Answered : List (Node S) → List ℕ → List ℕ → List (Node S) → List ℕ → Result Attempts Refusal → Type 0
  Answered nodes marks before end plan (Ok a) = Attempted end before plan a
  Answered nodes marks before end plan (Err e) = (plan ≡ before) × Refused nodes marks before e
