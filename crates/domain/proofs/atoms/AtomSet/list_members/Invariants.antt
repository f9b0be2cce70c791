use Rattle.std.proofs.Common.{◌≡◌, ◌++◌, length, drop}
use Rattle.domain.specs.Atoms.{members, members_from}
use Rattle.domain.proofs.atoms.AtomSet.list_members.Given as goal

-- the members told so far are written, those to come follow them, and the list's rest stands
abbrev pub invariant-loop-atom : goal.invariant-loop-atom
invariant-loop-atom l = record {
  all : l.yielded ++ members_from l.atom-iterator.set.now l.atom-iterator.from ≡ members l.self;
  counted : l.count ≡ length l.yielded;
  written : l.list ≡ l.yielded ++ drop l.count l.initial.list;
}
