use Rattle.std.proofs.Common.{sym, ◌∙◌, arith}
use Rattle.domain.proofs.Sets.{has_inside}
use Rattle.domain.proofs.atoms.AtomSet.contains.Goals as goal

pub returns : goal.returns
returns c = c.is_set.ensures ∙ sym (has_inside c.args.self.now c.args.atom (omega arith))
