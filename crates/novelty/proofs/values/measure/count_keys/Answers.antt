use Rattle.std.proofs.Common.{◌*◌, ◌<◌, arith}
use Rattle.novelty.specs.Valued.{many_keys_more}
use Rattle.novelty.proofs.values.measure.count_keys.Goals as goal

pub returns-then-keys-gt-MOST_KEYS : goal.returns-then-keys-gt-MOST_KEYS
returns-then-keys-gt-MOST_KEYS c =
    let many : 65536 < c.loop-feature.keys * c.base-keys.result = omega arith in
    many_keys_more c.args.features.now c.loop-feature.feature-index _ _ _ c.loop-feature-test.true c.loop-feature.invariant.0 c.base-keys.ensures.value many
