use Rattle.std.proofs.Common.{◌≡◌, ◌-◌, length, drop}
use Rattle.domain.specs.Atoms.{members}
use Rattle.novelty.specs.Values.{value_key}
use Rattle.novelty.proofs.values.measure.key_of.Given as goal

-- the key of the features from some on, as many as were gone over
abbrev pub invariant-loop-feature : goal.invariant-loop-feature
invariant-loop-feature l = l.key ≡ value_key (drop (length l.features - length l.yielded) l.features) (members l.truths)
