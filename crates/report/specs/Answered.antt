-- What is answered for a problem text, by what the text means. Assumes nothing.
use Rattle.std.specs.Prelude.{◌≡◌, ℕ, List, replicate, Some, None, Ok, Err, Option, Result}
use Rattle.domain.specs.Atoms.{none}
use Rattle.domain.specs.Fault.{strips_fault}
use Rattle.domain.specs.Model.{Meaning}
use Rattle.domain.specs.Strips.{problem}
use Rattle.domain.specs.declared.atoms.AtomSet.{AtomSet}
use Rattle.domain.specs.declared.refusal.Refusal.{Refusal}
use Rattle.sketch.specs.Sketch.{features_of, rules_of}
use Rattle.sketch.specs.declared.sketch.Sketch.{Sketch}
use Rattle.problem.specs.Fault.{refusal_of}
use Rattle.problem.specs.Problem.{Parsed}
use Rattle.problem.specs.declared.fault.ProblemFault.{ProblemFault}
use Rattle.planner.specs.Search.{node}
use Rattle.solver.specs.Reported.{Reported}
use Rattle.solver.specs.Solve.{Answer, memory, solved}
use Rattle.solver.specs.declared.report.Report.{Report}
use Rattle.solver.specs.declared.report.Row.{Row}

-- the problem without its sketch
abbrev pub meant : Parsed → Meaning AtomSet
meant p = problem p.atoms p.start p.goal p.actions

-- the solver's answer for it along a sketch, with 512 unused places for states and for marks
abbrev pub solved_along : Parsed → Sketch → List ℕ → List Row → Answer AtomSet
solved_along p k plan rows = solved (meant p) k (memory (replicate 512 (node none 0 0)) (replicate 512 0) plan rows)

-- the plan and the rows, before a call and after it
pub record Lists : Type 0 where
  pub plan : List ℕ
  pub rows : List Row

abbrev pub lists : List ℕ → List Row → Lists
lists plan rows = record { plan = plan; rows = rows }

-- a refusal leaves both as they were
abbrev pub Refuses : Refusal → Lists → Lists → Result Report Refusal → Type 0
Refuses e before after r = (r ≡ Err e) × (after ≡ before)

-- Reply, steps and rows are the solver's, and every report says of the problem what a report of the solver says. What the maker
-- of STRIPS problems refuses is refused.
abbrev pub Solves : Option Refusal → Parsed → Sketch → Lists → Lists → Result Report Refusal → Type 0
Solves (Some e) p k before after r = Refuses e before after r
Solves None p k before after r =
    (r ≡ (solved_along p k before.plan before.rows).reply)
    × (after.plan ≡ (solved_along p k before.plan before.rows).left.plan)
    × (after.rows ≡ (solved_along p k before.plan before.rows).left.rows)
    × ((told : Report) → r ≡ Ok told → Reported (meant p) k told after.plan after.rows)

abbrev pub SolvesParsed : Parsed → Sketch → Lists → Lists → Result Report Refusal → Type 0
SolvesParsed p k before after r = Solves (strips_fault p.atoms p.start p.goal p.actions) p k before after r

-- a text with a fault is refused as its fault says; another is solved along the sketch of its features and rules
abbrev pub Answers : Result Parsed ProblemFault → Lists → Lists → Result Report Refusal → Type 0
Answers (Err f) before after r = Refuses (refusal_of f) before after r
Answers (Ok p) before after r = (k : Sketch) × (features_of k ≡ p.features) × (rules_of k ≡ p.rules) × SolvesParsed p k before after r
