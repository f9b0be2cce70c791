use Rattle.std.proofs.Common.{◌||◌, ltb, rules}
use Rattle.std.proofs.iter.runs.Made.{chains}
use Rattle.sketch.specs.Fault.{rule_fits}
use Rattle.sketch.specs.Rule.{silent, entry_at}
use Rattle.sketch.proofs.Bounded.{every_is}
use Rattle.sketch.proofs.sketch.make.fits.Goals as goal

pub returns : goal.returns
unfolding rule_fits
returns c = every_is (λ f. ltb f c.args.count || silent (entry_at c.args.rule.now f)) 8 _ (search (rules, chains))
