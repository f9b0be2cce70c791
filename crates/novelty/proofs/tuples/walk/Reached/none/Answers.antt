use Rattle.novelty.proofs.Walks.{begun_ranks}
use Rattle.novelty.proofs.tuples.walk.Reached.none.Goals as goal

pub returns : goal.returns
returns c = begun_ranks c.args.measure.now.atoms c.args.measure.now.width c.args.atoms.now
