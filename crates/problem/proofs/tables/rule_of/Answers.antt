use Rattle.std.proofs.Common.{None, unwrap_or, ap, rules}
use Rattle.sketch.specs.Rule.{blank}
use Rattle.problem.proofs.Blanks.{mapped}
use Rattle.problem.proofs.tables.rule_of.Goals as goal

pub returns : goal.returns
returns c = ap (λ es. record { entries = es }) (mapped (λ e. unwrap_or e blank) None c.args.entries c.map.result 8 (search rules) c.map.ensures.items (λ p x y q k. search rules))
