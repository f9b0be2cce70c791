-- A small text, and what it means. Assumes nothing.
use Rattle.std.specs.Prelude.{◌≡◌, ℕ, List, [], ◌∷◌, ◌++◌, Ok, Err, codes}
use Rattle.domain.specs.Atoms.{none, with_atom}
use Rattle.sketch.specs.Rule.{blank}
use Rattle.sketch.specs.declared.feature.Kind.TheVariants.{FalseCount}
use Rattle.sketch.specs.declared.rule.Condition.TheVariants.{Positive}
use Rattle.sketch.specs.declared.rule.Effect.TheVariants.{Down}
use Rattle.problem.specs.Problem.{Parsed, text_problem}
use Rattle.problem.specs.declared.fault.LineFault.TheVariants.{NoSuchAtom, Full}
use Rattle.problem.specs.declared.fault.ProblemFault.TheVariants.{Line}
use Rattle.problem.specs.declared.fault.Table.TheVariants.{Actions}

-- two atoms, both of them goals and false at the start
abbrev pub two_atoms : List ℕ
two_atoms = codes "atom start goal\n0 0 1\n1 0 1\n\naction role atom\n"

-- an action that adds each
abbrev pub two_actions : List ℕ
two_actions = codes "0 a 0\n1 a 1\n"

-- the number of goals that are false falls
abbrev pub falling : List ℕ
falling = codes "\nfeature kind atom\n0 f 0\n0 f 1\n\nrule feature when then\n0 0 + -\n\n"

abbrev pub both_goals : Parsed
both_goals = record {
  atoms = 2;
  start = none;
  goal = with_atom (with_atom none 0) 1;
  actions =
      record { preconditions = none; additions = with_atom none 0; deletions = none }
      ∷ record { preconditions = none; additions = with_atom none 1; deletions = none } ∷ [];
  features = record { kind = FalseCount; atoms = with_atom (with_atom none 0) 1 } ∷ [];
  rules = record { entries = record { when = Positive; then = Down } ∷ blank ∷ blank ∷ blank ∷ blank ∷ blank ∷ blank ∷ blank ∷ [] } ∷ [];
}

pub record Examples : Type 0 where
  pub read : text_problem 64 (two_atoms ++ two_actions ++ falling) ≡ Ok both_goals
  -- with one place the second action is past the limit
  pub one_place : text_problem 1 (two_atoms ++ two_actions ++ falling) ≡ Err (Line (Full 7 Actions))
  -- an atom out of range comes before an action past the limit
  pub range_first : text_problem 1 (two_atoms ++ codes "7 a 2") ≡ Err (Line (NoSuchAtom 6))
