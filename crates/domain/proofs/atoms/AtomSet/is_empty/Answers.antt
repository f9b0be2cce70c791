use Rattle.std.proofs.Common.{◌≡◌, length, rules}
use Rattle.domain.proofs.Sets.{sized_from_short}
use Rattle.domain.proofs.Within.{decides_blank}
use Rattle.domain.proofs.atoms.AtomSet.is_empty.Goals as goal

pub returns : goal.returns
returns c =
    let s = c.args.self.now in
    let long : length s.words ≡ 4 = search rules in
    decides_blank s c.is_blank.result long (sized_from_short s c.is_blank.ensures.short) c.is_blank.ensures.value
