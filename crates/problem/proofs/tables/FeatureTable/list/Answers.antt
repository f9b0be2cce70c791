use Rattle.std.proofs.Common.{◌≡◌, ◌∙◌, None, length, map, take, ap, arith, length-take, rules}
use Rattle.problem.specs.Tables.{feature_of}
use Rattle.problem.proofs.Blanks.{written_more, written_all}
use Rattle.problem.proofs.tables.FeatureTable.list.Goals as goal

pub loop-number-preserved : goal.loop-number-preserved
loop-number-preserved c =
    written_more feature_of None c.args.self.now.features c.loop-number.place-items c.loop-number.number _ (omega (arith, c.loop-number-test.true, c.loop-number.auto.place-items)) c.loop-number.invariant (search rules)

pub returns : goal.returns
returns c =
    let xs = c.args.self.now.features in
    let long : length xs ≡ 8 = search rules in
    let size : length (take c.count-count.result c.args.places.now) ≡ c.count-count.result = simp length-take (omega (arith, c.told-places, c.count-count.ensures.below)) in
    written_all feature_of None xs c.loop-number.place-items _ c.loop-number.number c.count-count.result
    (c.loop-number.auto.place-items ∙ size) (omega (arith, size, c.loop-number-test.false)) (omega (arith, long, c.count-count.ensures.below)) c.loop-number.invariant
    ∙ ap (λ n. take n (map feature_of xs)) c.count-count.ensures.value
