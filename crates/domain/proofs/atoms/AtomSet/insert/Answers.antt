use Rattle.std.proofs.Common.{◌≡◌, length, ◌∙◌, arith, rules}
use Rattle.domain.specs.Atoms.{with_atom}
use Rattle.domain.proofs.Sets.{has_row, has_with_atom}
use Rattle.domain.proofs.atoms.AtomSet.insert.Goals as goal

pub returns-clause-membership : goal.returns-clause-membership
returns-clause-membership c =
    let s = c.args.self.now in
    let x = c.args.atom in
    let long : length s.words ≡ 4 = search rules in
    let changed : c.change.new.row ≡ (with_atom s x).words = search rules in
    λ a. has_row c.change.new.row (with_atom s x) changed a ∙ has_with_atom s long x (omega arith) a
