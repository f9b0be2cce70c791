-- One search of the subproblem at a run's current state, from its begin to the end of its claim: what it replies and
-- leaves. Assumes nothing.
use Rattle.std.specs.Prelude.{◌≡◌, ℕ, ◌+◌, List, length, Some, None, Option}
use Rattle.domain.specs.declared.refusal.Refusal.{Refusal}
use Rattle.novelty.specs.Tuples.{tuple_keys, tuple_count, tuples_fault}
use Rattle.planner.specs.Search.{Task, Snapshot, task}
use Rattle.planner.specs.Stepwise.{UnderWay}
use Rattle.planner.specs.Way.{actions_of, end_of}
use Rattle.planner.specs.Whole.{outcome_of, at_end}
use Rattle.planner.specs.Widths.{first_fault}
use Rattle.planner.specs.declared.node.Node.{Node}
use Rattle.planner.specs.declared.node.Outcome.{Outcome}
use Rattle.planner.specs.declared.node.Way.{Way}
use Rattle.runs.specs.Run.{View}
use Rattle.runs.specs.Calls.{unless, placed, found_way, way_in, way_actions, way_length, subgoal, begin_fault, segment_fault, adopt_fault, adopted_run, abandon_fault, closed_run}
use Rattle.runs.specs.declared.claim.Phase.TheVariants.{Working, Ended}
use Rattle.runs.specs.declared.claim.Progressed.{Progressed}
use Rattle.runs.specs.declared.claim.Progressed.TheVariants.{Open as Opened, Found as Finds, Exhausted as Exhausts}
use Rattle.solver.specs.declared.report.Row.{Row}

-- how many actions a way has, if there is a way
abbrev pub steps_of : Option Way → Option ℕ
steps_of None = None
steps_of (Some w) = Some w.length

module _ {S M : Type 0} (v : View S M) where
  -- what a claim of the open search is spent for: a find is adopted, a ticket or a stub is abandoned
  abbrev pub settle_fault : Progressed → List (Node S) → ℕ → Option Refusal
  settle_fault (Opened t) nodes places = abandon_fault v Working t
  settle_fault (Finds f n) nodes places = adopt_fault v f nodes places
  settle_fault (Exhausts s) nodes places = abandon_fault v Ended s

  -- how many steps came to the plan, if a way is adopted
  abbrev pub settled_length : Progressed → Option ℕ
  settled_length (Opened t) = None
  settled_length (Finds f n) = Some (way_length (found_way v.opened))
  settled_length (Exhausts s) = None

  abbrev pub settled_run : Progressed → List (Node S) → View S M
  settled_run (Opened t) nodes = closed_run v
  settled_run (Finds f n) nodes = adopted_run v (way_actions nodes (found_way v.opened)) (way_length (found_way v.opened))
  settled_run (Exhausts s) nodes = closed_run v

  abbrev pub settled_plan : Progressed → List (Node S) → List ℕ → List ℕ
  settled_plan (Opened t) nodes plan = plan
  settled_plan (Finds f n) nodes plan = placed plan v.length (way_actions nodes (found_way v.opened))
  settled_plan (Exhausts s) nodes plan = plan

-- a search's outcome, and the way that it found
abbrev pub outcome_at : {S : Type 0} → Snapshot S → Outcome
outcome_at g = outcome_of g.nodes g.met g.expanded g.kept

abbrev pub way_at : {S : Type 0} → Snapshot S → Option Way
way_at g = way_in (outcome_at g)

abbrev pub row : ℕ → ℕ → ℕ → ℕ → Option ℕ → Row
row number width expanded kept length = record { number = number; width = width; expanded = expanded; kept = kept; length = length }

-- the row of a search that ended so
abbrev pub row_of : {S : Type 0} → ℕ → ℕ → Snapshot S → Row
row_of n k g = row n k g.expanded g.kept (steps_of (way_at g))

-- N is the number of atoms, k the width
module _ {S M : Type 0} (N : ℕ) (k : ℕ) (v : View S M) where
  -- the subproblem at the current state, by the sets of at most k atoms
  abbrev pub width_task : Task S
  width_task = task (subgoal v) (tuple_keys N k) (tuple_count N k)

  -- there is no such measure, or begin is refused
  abbrev pub opening_fault : ℕ → ℕ → Option Refusal
  opening_fault places marks = first_fault (tuples_fault N k) (begin_fault v (tuple_count N k) places marks)

  -- the search at its end
  abbrev pub ended : List (Node S) → List ℕ → Snapshot S
  ended nodes marks = at_end width_task nodes marks

  -- the way that it found is not adopted
  abbrev pub way_refused : Option Way → List (Node S) → ℕ → Option Refusal
  way_refused None nodes places = None
  way_refused (Some w) nodes places = segment_fault v w (tuple_count N k) nodes places

  abbrev pub closing_fault : Snapshot S → ℕ → Option Refusal
  closing_fault g places = way_refused (way_at g) g.nodes places

  -- v' is the run with that search open at its end
  pub record SearchedOut (g : Snapshot S) (next : View S M) : Type 0 where
    pub under : UnderWay M
    pub count : under.count ≡ tuple_count N k
    pub expanded : under.expanded ≡ g.expanded
    pub outcome : under.outcome ≡ outcome_at g
    pub is : next ≡ record {
      problem = v.problem;
      sketch = v.sketch;
      current = v.current;
      effort = v.effort;
      length = v.length;
      searches = v.searches + 1;
      opened = Some under;
    }

  -- where the run stands once the claim of the ended search is spent
  abbrev pub run_after : Snapshot S → View S M
  run_after g = record {
    problem = v.problem;
    sketch = v.sketch;
    current = end_of v.problem v.current (way_actions g.nodes (way_at g));
    effort = v.effort + g.expanded;
    length = v.length + way_length (way_at g);
    searches = v.searches + 1;
    opened = None;
  }

  -- the attempt as a whole: why it is refused, and what it leaves
  module _ (nodes : List (Node S)) (marks : List ℕ) where
    abbrev pub nodes_after : List (Node S)
    nodes_after = unless (opening_fault (length nodes) (length marks)) nodes (ended nodes marks).nodes

    abbrev pub marks_after : List ℕ
    marks_after = unless (opening_fault (length nodes) (length marks)) marks (ended nodes marks).marks

    abbrev pub attempt_fault : List ℕ → Option Refusal
    attempt_fault plan = first_fault (opening_fault (length nodes) (length marks)) (closing_fault (ended nodes marks) (length plan))

    abbrev pub plan_written : Option Way → List ℕ → List ℕ
    plan_written None plan = plan
    plan_written (Some w) plan = placed plan v.length (actions_of (ended nodes marks).nodes w)

    abbrev pub plan_after : List ℕ → List ℕ
    plan_after plan = unless (attempt_fault plan) plan (plan_written (way_at (ended nodes marks)) plan)
