use Rattle.std.proofs.Common.{arith}
use Rattle.novelty.proofs.Pascal.{entry}
use Rattle.novelty.proofs.binomials.binomial.Goals as goal

pub returns-clause-value : goal.returns-clause-value
returns-clause-value c = entry 256 c.table.result.now c.table.ensures c.args.n c.args.r _ (omega arith) (omega arith)
