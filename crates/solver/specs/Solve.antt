-- The solver: searches of the widths 0, 1 and 2 at the current state, adopting the first way found, until a target or a third
-- stub. Assumes nothing.
use Rattle.std.specs.Prelude.{ℕ, zero, suc, ◌+◌, Bool, true, false, cond, List, length, is_some, Some, None, Ok, Err, Option, Result, nat_lt, slice_set}
use Rattle.domain.specs.Model.{Meaning}
use Rattle.domain.specs.declared.refusal.Refusal.{Refusal}
use Rattle.domain.specs.declared.refusal.Refusal.TheVariants.{Limit}
use Rattle.sketch.specs.declared.sketch.Sketch.{Sketch}
use Rattle.novelty.specs.declared.tuples.Tuples.{Tuples}
use Rattle.planner.specs.Search.{Snapshot}
use Rattle.planner.specs.declared.node.Node.{Node}
use Rattle.runs.specs.Calls.{unless}
use Rattle.runs.specs.Run.{View, fresh}
use Rattle.solver.specs.Attempt.{ended, way_at, row_of, attempt_fault, nodes_after, marks_after, plan_after, run_after}
use Rattle.solver.specs.declared.report.Ending.{Ending}
use Rattle.solver.specs.declared.report.Ending.TheVariants.{AtTarget, ThirdStub}
use Rattle.solver.specs.declared.report.Report.{Report}
use Rattle.solver.specs.declared.report.Row.{Row}

-- the lent memory
pub record Memory (S : Type 0) : Type 0 where
  pub nodes : List (Node S)
  pub marks : List ℕ
  pub plan : List ℕ
  pub rows : List Row

abbrev pub memory : {S : Type 0} → List (Node S) → List ℕ → List ℕ → List Row → Memory S
memory nodes marks plan rows = record { nodes = nodes; marks = marks; plan = plan; rows = rows }

-- the reply, and the memory then
pub record Answer (S : Type 0) : Type 0 where
  pub reply : Result Report Refusal
  pub left : Memory S

abbrev pub answer : {S : Type 0} → Result Report Refusal → Memory S → Answer S
answer r mem = record { reply = r; left = mem }

-- the width of the next search after one of width k: 0 after a find, else the next, if k is not the last
abbrev pub next_width : Bool → ℕ → Option ℕ
next_width true k = Some 0
next_width false k = cond (nat_lt k 2) (Some (k + 1)) None

abbrev pub report : {S M : Type 0} → View S M → Ending → Report
report v e = record { rows = v.searches; steps = v.length; ending = e }

-- a refusal ends the solver
abbrev pub unless_refused : {S : Type 0} → Option Refusal → Memory S → Answer S → Answer S
unless_refused (Some e) mem rest = answer (Err e) mem
unless_refused None mem rest = rest

-- so does a third stub
abbrev pub by_width : {S : Type 0} → Option ℕ → Answer S → (ℕ → Answer S) → Answer S
by_width None third rest = third
by_width (Some k) third rest = rest k

module _ {S M : Type 0} (N : ℕ) where
  -- the search of width k at the current state, from its begin on
  abbrev pub at_its_end : ℕ → View S M → Memory S → Snapshot S
  at_its_end k v mem = ended N k v mem.nodes mem.marks

  abbrev pub fault_at : ℕ → View S M → Memory S → Option Refusal
  fault_at k v mem = attempt_fault N k v mem.nodes mem.marks mem.plan

  abbrev pub found_at : ℕ → View S M → Memory S → Bool
  found_at k v mem = is_some (way_at (at_its_end k v mem))

  abbrev pub view_after : ℕ → View S M → Memory S → View S M
  view_after k v mem = run_after N k v (at_its_end k v mem)

  -- what it leaves: the row of a search that is not refused is written behind those before it
  abbrev pub memory_after : ℕ → View S M → Memory S → Memory S
  memory_after k v mem = record {
    nodes = nodes_after N k v mem.nodes mem.marks;
    marks = marks_after N k v mem.nodes mem.marks;
    plan = plan_after N k v mem.nodes mem.marks mem.plan;
    rows = unless (fault_at k v mem) mem.rows (slice_set mem.rows v.searches (row_of (v.searches + 1) k (at_its_end k v mem)));
  }

  -- The solver from here on, with a search of width k next. The first number is that of the free rows: with none left and no
  -- target reached it refuses.
  unfoldable pub solve_from : ℕ → ℕ → View S M → Memory S → Answer S
  solve_from zero k v mem = cond (v.problem.target v.current) (answer (Ok (report v AtTarget)) mem) (answer (Err (Limit v.searches)) mem)
  solve_from (suc free) k v mem =
      cond (v.problem.target v.current) (answer (Ok (report v AtTarget)) mem)
      (unless_refused (fault_at k v mem) (memory_after k v mem)
      (by_width (next_width (found_at k v mem) k) (answer (Ok (report (view_after k v mem) ThirdStub)) (memory_after k v mem))
      (λ j. solve_from free j (view_after k v mem) (memory_after k v mem))))

-- the solver from the start of a model on
abbrev pub solved : {S : Type 0} → Meaning S → Sketch → Memory S → Answer S
solved {S} P k mem = solve_from {M = Tuples} P.atoms (length mem.rows) 0 (fresh P k) mem
