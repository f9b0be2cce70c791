use Rattle.std.proofs.Common.{◌∙◌, rules}
use Rattle.domain.specs.Atoms.{limited}
use Rattle.domain.proofs.Sets.{has_row, has_limited}
use Rattle.domain.proofs.atoms.AtomSet.below.Goals as goal

pub returns : goal.returns
returns c =
    let s = c.args.self.now in
    let n = c.args.bound in
    record { value = search rules; membership = λ a. has_row c.low.result (limited s n) c.low.ensures a ∙ has_limited s n a }
