use Rattle.std.proofs.Common.{length, rules}
use Rattle.std.proofs.iter.runs.Made.{chains}
use Rattle.sketch.specs.Feature.{kinds_of}
use Rattle.sketch.specs.Rule.{accepts, kind_at, entry_at, value_at, entry_accepts}
use Rattle.sketch.specs.Sketch.{features_of}
use Rattle.sketch.proofs.Bounded.{every_is}
use Rattle.sketch.proofs.Seen.{kind_read, length_kinds}
use Rattle.sketch.proofs.sketch.Sketch.rule_accepts.Goals as goal

pub returns : goal.returns
unfolding accepts
returns c =
    let ks = kinds_of (features_of c.args.self.now) in
    let r = c.args.rule.now in
    every_is (λ f. entry_accepts (kind_at ks f) (entry_at r f) (value_at c.args.before.now f) (value_at c.args.after.now f)) (length ks) _
    (search (rules, chains, kind_read, length_kinds))
