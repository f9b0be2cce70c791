-- Runs: where a run stands, and what each call replies and leaves, for all arguments. Assumes nothing.
use Rattle.std.specs.Prelude.{ℕ, None, Option}
use Rattle.domain.specs.Model.{Meaning}
use Rattle.domain.specs.declared.model.StateModel.{Ghosts}
use Rattle.sketch.specs.declared.sketch.Sketch.{Sketch}
use Rattle.planner.specs.Stepwise.{UnderWay}
use Rattle.runs.specs.declared.run.Run.{Run}

-- Where a run stands: the problem and the sketch; the state where the adopted segments lead, how many steps they have, the
-- expanded states of the ended searches, the number of the latest search, and the open search, if one is open.
pub record View (S M : Type 0) : Type 0 where
  pub problem : Meaning S
  pub sketch : Sketch
  pub current : S
  pub effort : ℕ
  pub length : ℕ
  pub searches : ℕ
  pub opened : Option (UnderWay M)

-- where a run stands, without the facts of its type; its problem is what its model means
abbrev pub view : {D M S : Type 0} {bound : Ghosts D S} → Run D M S bound → View S M
view {bound = B} r = record {
  problem = B.meaning r.model;
  sketch = r.sketch;
  current = r.current;
  effort = r.effort;
  length = r.length;
  searches = r.searches;
  opened = r.«open»;
}

-- a run that is just made: the model's start is current, and nothing is done
abbrev pub fresh : {S M : Type 0} → Meaning S → Sketch → View S M
fresh P k = record { problem = P; sketch = k; current = P.start; effort = 0; length = 0; searches = 0; opened = None }
