use Rattle.std.proofs.Common.{sym, ◌∙◌}
use Rattle.domain.proofs.Sets.{sized_from_short}
use Rattle.domain.proofs.Tally.{length_members}
use Rattle.domain.proofs.atoms.AtomSet.count.Goals as goal

pub returns-clause-value : goal.returns-clause-value
returns-clause-value c =
    let s = c.args.self.now in
    c.count.ensures.value ∙ sym (length_members s (sized_from_short s c.count.ensures.short))
