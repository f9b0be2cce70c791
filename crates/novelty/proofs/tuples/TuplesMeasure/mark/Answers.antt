use Rattle.std.proofs.Common.{rules, arith}
use Rattle.novelty.proofs.Walks.{tries_left}
use Rattle.novelty.proofs.tuples.TuplesMeasure.mark.Goals as goal

pub returns : goal.returns
returns c = tries_left (λ f. f.0.now) (λ f. f.0.ghost_name) (λ p k b q s. search rules) c.any_key.ensures _ (λ e. grind arith)
