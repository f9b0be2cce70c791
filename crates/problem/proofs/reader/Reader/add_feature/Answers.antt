use Rattle.std.proofs.Common.{ap, arith}
use Rattle.problem.specs.Tables.{feature_count}
use Rattle.problem.proofs.Blanks.{feature_raised}
use Rattle.problem.proofs.reader.Reader.add_feature.Goals as goal

pub invariant_of-self : goal.invariant_of-self
invariant_of-self c =
    let raised = feature_raised c.self.inside.features c.in_ok-row.row in
    let held = c.self.invariant in
    record {
      few_atoms = held.few_atoms;
      few_actions = held.few_actions;
      few_features = omega (arith, raised, ap feature_count c.add.ensures, c.in_ok-row.ensures.bound, held.few_features);
      few_rules = held.few_rules;
      small_limit = held.small_limit;
    }
