use Rattle.std.proofs.Common.{length, rules, ◌∙◌}
use Rattle.std.proofs.iter.runs.Made.{chains}
use Rattle.sketch.specs.Feature.{kinds_of}
use Rattle.sketch.specs.Rule.{rule_at, accepts, steps}
use Rattle.sketch.specs.Sketch.{features_of, rules_of}
use Rattle.sketch.proofs.Asked.{steps_same}
use Rattle.sketch.proofs.Bounded.{some_is}
use Rattle.sketch.proofs.sketch.Sketch.accepts.Goals as goal

pub returns : goal.returns
unfolding steps
returns c =
    let ks = kinds_of (features_of c.args.self.now) in
    let rs = rules_of c.args.self.now in
    some_is (λ k. accepts ks (rule_at rs k) c.values-before.result c.values-after.result) (length rs) _ (search (rules, chains))
    ∙ steps_same ks rs _ _ _ _ c.values-before.ensures c.values-after.ensures
