use Rattle.std.proofs.Common.{◌-◌, ◌*◌, ◌≤◌, length, mul-le-mul, arith}
use Rattle.domain.specs.Atoms.{members}
use Rattle.novelty.specs.Valued.{key_small}
use Rattle.novelty.proofs.values.measure.key_of.Goals as goal

-- the key so far is small, and so is its product with the number of values of a feature
product : (c : goal.After-base) → c.base.result * c.loop-feature.key ≤ 257 * 65536
product c =
    let fs = c.args.features.now in
    let small = key_small fs (length fs - length c.loop-feature.yielded) (members c.args.truths.now) c.requires in
    mul-le-mul {n₂ = 257} {m₂ = 65536} c.base.ensures.small (omega arith)

pub overflow_mul-key : goal.overflow_mul-key
overflow_mul-key c = omega (arith, product c)

pub overflow_add-key : goal.overflow_add-key
overflow_add-key c = omega (arith, product c)
