use Rattle.std.proofs.Common.{rules}
use Rattle.sketch.specs.Sieve.{sieve, rules_left}
use Rattle.sketch.proofs.sieve.rules_left.Goals as goal

pub returns : goal.returns
unfolding rules_left sieve
returns c = search rules
