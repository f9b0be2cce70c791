-- A subproblem: a problem from one of its states on, until the problem's target or a subgoal of a sketch is met.
-- Assumes nothing.
use Rattle.std.specs.Prelude.{◌||◌}
use Rattle.domain.specs.Model.{Meaning, Lawful}
use Rattle.sketch.specs.Sketch.{accepts_step}
use Rattle.sketch.specs.declared.sketch.Sketch.{Sketch}

-- It starts at s. Its targets are those of the problem and each state t such that a rule accepts the pair (s, t).
-- All else is as in the problem.
abbrev pub subproblem : {S : Type 0} → Meaning S → Sketch → S → Meaning S
subproblem P k s = record {
  atoms = P.atoms;
  actions = P.actions;
  start = s;
  truths = P.truths;
  target = λ t. P.target t || accepts_step k (P.truths s) (P.truths t);
  applies = P.applies;
  next = P.next;
}

-- it obeys the laws of every model because the problem does
pub subproblem_lawful : {S : Type 0} (P : Meaning S) (k : Sketch) (s : S) → Lawful P → Lawful (subproblem P k s)
subproblem_lawful P k s laws = record {
  some_atoms = laws.some_atoms;
  few_atoms = laws.few_atoms;
  few_actions = laws.few_actions;
  rising = laws.rising;
  below = laws.below;
  past = laws.past;
  stays = laws.stays;
}
