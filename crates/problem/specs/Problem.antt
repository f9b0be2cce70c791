-- The problem that a text means, or its first fault. Assumes nothing.
use Rattle.std.specs.Prelude.{◌≡◌, ℕ, ◌≤◌, min, cond, List, length, take, drop, replicate, Some, None, Ok, Err, Option, Result, nat_lt}
use Rattle.domain.specs.declared.atoms.AtomSet.{AtomSet}
use Rattle.domain.specs.declared.refusal.Refusal.{Refusal}
use Rattle.domain.specs.declared.strips.Action.{Action}
use Rattle.sketch.specs.Fault.{sketch_fault}
use Rattle.sketch.specs.Sketch.{features_of, rules_of}
use Rattle.sketch.specs.declared.feature.Feature.{Feature}
use Rattle.sketch.specs.declared.rule.Rule.{Rule}
use Rattle.problem.specs.Form.{and_then}
use Rattle.problem.specs.Tables.{blank_action, feature_count, rule_count, features_with_blanks, rules_with_blanks}
use Rattle.problem.specs.Text.{Reading, read_text}
use Rattle.problem.specs.declared.fault.LineFault.{LineFault}
use Rattle.problem.specs.declared.fault.ProblemFault.{ProblemFault}
use Rattle.problem.specs.declared.fault.ProblemFault.TheVariants.{TooLong, Line, Sketch}
use Rattle.problem.specs.declared.problem.Problem.{Problem}
use Rattle.problem.specs.declared.reader.Reader.{Reader}

-- a STRIPS problem with the features and the rules of a sketch
pub record Parsed : Type 0 where
  pub atoms : ℕ
  pub start : AtomSet
  pub goal : AtomSet
  pub actions : List Action
  pub features : List Feature
  pub rules : List Rule

-- each table up to the highest number that is named
abbrev pub features_read : Reader → List Feature
features_read s = take (feature_count s.features) (features_with_blanks s.features)

abbrev pub rules_read : Reader → List Rule
rules_read s = take (rule_count s.rules) (rules_with_blanks s.rules)

abbrev pub parsed : Reading → Parsed
parsed r = record {
  atoms = r.0.atoms.count;
  start = r.0.atoms.start;
  goal = r.0.atoms.goal;
  actions = take r.0.actions r.1;
  features = features_read r.0;
  rules = rules_read r.0;
}

-- a fault of a line is one of the problem
abbrev pub of_problem : {X : Type 0} → Result X LineFault → Result X ProblemFault
of_problem (Ok x) = Ok x
of_problem (Err e) = Err (Line e)

-- the sieve has to strike every rule
abbrev pub sieved : Option Refusal → Parsed → Result Parsed ProblemFault
sieved None p = Ok p
sieved (Some refusal) p = Err (Sketch refusal)

abbrev pub accepted : Parsed → Result Parsed ProblemFault
accepted p = sieved (sketch_fault p.features p.rules) p

-- as many actions as there are places, and never more than 1,024
abbrev pub most_actions : ℕ → ℕ
most_actions places = min places 1024

-- the actions before the first line: nothing is named
abbrev pub blank_actions : ℕ → List Action
blank_actions limit = replicate limit blank_action

-- what a text means where there are so many places for actions
unfoldable pub text_problem : ℕ → List ℕ → Result Parsed ProblemFault
text_problem places bs =
    and_then (of_problem (read_text (most_actions places) (blank_actions (most_actions places)) bs)) λ r. accepted (parsed r)

-- the same for a text of at most so many bytes; this is checked before any line
abbrev pub limited_problem : ℕ → ℕ → List ℕ → Result Parsed ProblemFault
limited_problem most places bs = cond (nat_lt most (length bs)) (Err TooLong) (text_problem places bs)

-- a problem as it is held, with the actions that lie elsewhere
abbrev pub held : Problem → List Action → Parsed
held p acts = record {
  atoms = p.atoms;
  start = p.start;
  goal = p.goal;
  actions = acts;
  features = features_of p.sketch;
  rules = rules_of p.sketch;
}

-- what reading answers, by the places for actions before and after: the actions stand at the first places and the other
-- places are as they were, or there is a fault and all are
abbrev pub Read : Result Parsed ProblemFault → List Action → List Action → Result Problem ProblemFault → Type 0
Read m before after (Ok p) =
    (m ≡ Ok (held p (take p.action_count after))) × (p.action_count ≤ length before) × (drop p.action_count after ≡ drop p.action_count before)
Read m before after (Err e) = (m ≡ Err e) × (after ≡ before)
