use Rattle.std.proofs.Common.{rules}
use Rattle.novelty.proofs.Walks.{tries_novel}
use Rattle.novelty.proofs.tuples.TuplesMeasure.is_novel.Goals as goal

pub returns : goal.returns
returns c = tries_novel (λ f. f.0.now) (λ p k b q s. search rules) c.any_key.ensures
