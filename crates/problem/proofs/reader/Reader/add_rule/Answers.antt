use Rattle.std.proofs.Common.{ap, arith}
use Rattle.problem.specs.Tables.{rule_count}
use Rattle.problem.proofs.Blanks.{rule_raised}
use Rattle.problem.proofs.reader.Reader.add_rule.Goals as goal

pub invariant_of-self : goal.invariant_of-self
invariant_of-self c =
    let raised = rule_raised c.self.inside.rules c.in_ok-row.row in
    let held = c.self.invariant in
    record {
      few_atoms = held.few_atoms;
      few_actions = held.few_actions;
      few_features = held.few_features;
      few_rules = omega (arith, raised, ap rule_count c.add.ensures, c.in_ok-row.ensures.bound, held.few_rules);
      small_limit = held.small_limit;
    }
