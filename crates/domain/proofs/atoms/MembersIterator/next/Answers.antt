use Rattle.std.proofs.Common.{rules}
use Rattle.domain.proofs.Members.{members_from_first, no_members_from}
use Rattle.domain.proofs.atoms.MembersIterator.next.Goals as goal

pub returns-in_err-atom-clause-steps : goal.returns-in_err-atom-clause-steps
returns-in_err-atom-clause-steps c =
    let none = no_members_from c.args.self.now.set.now c.args.self.now.from c.in_err-atom.ensures in
    search rules

pub returns-clause-steps : goal.returns-clause-steps
returns-clause-steps c =
    let next = members_from_first c.args.self.now.set.now c.args.self.now.from c.in_ok-atom.atom c.in_ok-atom.ensures in
    search rules

pub returns-clause-goes : goal.returns-clause-goes
returns-clause-goes c =
    let less = members_from_first c.args.self.now.set.now c.args.self.now.from c.in_ok-atom.atom c.in_ok-atom.ensures in
    search rules
