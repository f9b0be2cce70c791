use Rattle.std.proofs.Common.{true, length, arith}
use Rattle.std.proofs.lemmas.List.{take-replicate}
use Rattle.sketch.proofs.sieve.Sieve.new.Goals as goal

pub returns-clause-left : goal.returns-clause-left
returns-clause-left c = take-replicate (length c.args.rules.now) 16 true (omega (arith, c.requires.1))
