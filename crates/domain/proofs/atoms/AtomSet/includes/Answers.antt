use Rattle.std.proofs.Common.{◌≡◌, sym, ◌∙◌, rules}
use Rattle.domain.specs.Atoms.{has}
use Rattle.domain.proofs.Among.{among_members}
use Rattle.domain.proofs.atoms.AtomSet.includes.Goals as goal

pub returns-clause-listed : goal.returns-clause-listed
returns-clause-listed c =
    let s = c.args.self.now in
    let n = c.args.number in
    let told : c.is_ok_and.result ≡ has s n = search rules in
    told ∙ sym (among_members s n)
