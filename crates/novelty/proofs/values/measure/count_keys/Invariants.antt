use Rattle.std.proofs.Common.{◌≡◌, ◌*◌, ◌≤◌, drop}
use Rattle.novelty.specs.Values.{value_count}
use Rattle.novelty.proofs.values.measure.count_keys.Given as goal

-- the keys of the features so far, times those of the others, are those of all
abbrev pub invariant-loop-feature : goal.invariant-loop-feature
invariant-loop-feature l = (l.keys * value_count (drop l.feature-index l.features) ≡ value_count l.features) × (l.keys ≤ 65536)
