use Rattle.std.proofs.Common.{◌≡◌, ℕ, take}
use Rattle.domain.specs.Atoms.{has}
use Rattle.domain.specs.Model.{among}
use Rattle.domain.proofs.atoms.AtomSet.of.Given as goal

-- the atoms before the place are in
abbrev pub invariant-loop-atom : goal.invariant-loop-atom
invariant-loop-atom l = (a : ℕ) → has l.set a ≡ among (take l.atom-index l.atoms) a
