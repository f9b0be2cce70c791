-- What a report of the solver says of the model, the plan and the rows. Assumes nothing.
use Rattle.std.specs.Prelude.{◌≡◌, ℕ, ◌+◌, ◌-◌, ◌<◌, ◌≤◌, Bool, true, List, length, take, None, slice_index_or}
use Rattle.domain.specs.Model.{Meaning}
use Rattle.sketch.specs.Subproblem.{subproblem}
use Rattle.sketch.specs.declared.sketch.Sketch.{Sketch}
use Rattle.planner.specs.Widths.{tuple_task}
use Rattle.planner.specs.Width.{Leads, Admissible}
use Rattle.solver.specs.declared.report.Ending.{Ending}
use Rattle.solver.specs.declared.report.Ending.TheVariants.{AtTarget, ThirdStub}
use Rattle.solver.specs.declared.report.Report.{Report}
use Rattle.solver.specs.declared.report.Row.{Row}

-- the row of no search
abbrev pub unmade_row : Row
unmade_row = record { number = 0; width = 0; expanded = 0; kept = 0; length = None }

-- the row at place i
abbrev pub row_at : List Row → ℕ → Row
row_at rows i = slice_index_or rows i unmade_row

module _ {S : Type 0} (P : Meaning S) (sketch : Sketch) where
  -- a row is of a search of width w without a find at s, and no set of at most w atoms' keys is admissible for the subproblem there
  abbrev pub StubRow : S → ℕ → Row → Type 0
  StubRow s w row =
      (row.width ≡ w) × (row.length ≡ None) × ((T : ℕ → Bool) → Admissible (tuple_task (subproblem P sketch s) w) T → ⊥)

  -- the last k of n rows are of searches of the widths 0, 1, .., k - 1 without a find at s
  abbrev pub Stubs : ℕ → S → List Row → ℕ → Type 0
  Stubs k s rows n = (k ≤ n) × ((w : ℕ) → w < k → StubRow s w (row_at rows (n - k + w)))

  -- a target is reached, or all three widths are exhausted there
  abbrev pub Ends : Ending → S → List Row → ℕ → Type 0
  Ends AtTarget s rows n = P.target s ≡ true
  Ends ThirdStub s rows n = Stubs 3 s rows n

  pub record Reported (r : Report) (plan : List ℕ) (rows : List Row) : Type 0 where
    -- the steps are a way of the model from its start
    pub end : S
    pub leads : Leads P P.start (take r.steps plan) end
    pub long : length (take r.steps plan) ≡ r.steps
    -- its end is why the solver stopped
    pub ends : Ends r.ending end rows r.rows
    -- the rows are numbered 1, 2, 3, ..
    pub written : r.rows ≤ length rows
    pub numbered : (i : ℕ) → i < r.rows → (row_at rows i).number ≡ i + 1
