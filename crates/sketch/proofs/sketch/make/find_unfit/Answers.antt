use Rattle.std.proofs.Common.{length, not, rules}
use Rattle.std.proofs.iter.runs.Made.{chains}
use Rattle.sketch.specs.Fault.{rule_fits, first_unfit}
use Rattle.sketch.specs.Rule.{rule_at}
use Rattle.sketch.proofs.Bounded.{lowest_found}
use Rattle.sketch.proofs.sketch.make.find_unfit.Goals as goal

pub returns : goal.returns
unfolding first_unfit
returns c =
    lowest_found (λ i. not (rule_fits c.args.count (rule_at c.args.rules.now i))) (length c.args.rules.now) _ (search (rules, chains))
