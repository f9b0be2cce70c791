use Rattle.domain.proofs.Fits.{fits_from_next}
use Rattle.domain.proofs.strips.problem.is_below.Goals as goal

pub returns : goal.returns
returns c =
    fits_from_next c.args.atoms c.args.set.now c.next_from.result c.is_none.result c.next_from.ensures c.is_none.ensures
