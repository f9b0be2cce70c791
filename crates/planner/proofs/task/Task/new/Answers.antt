use Rattle.std.proofs.Common.{arith}
use Rattle.planner.proofs.Lawful.{count_above_0}
use Rattle.planner.proofs.task.Task.new.Goals as goal

-- the start has a key
pub invariant_of-result : goal.invariant_of-result
invariant_of-result g c =
    let m = c.args.measure.now in
    let laws = g.met.M.Measure in
    let some = count_above_0 _ (g.D.StateModel.lawful c.args.model.now) (g.M.Measure.keys m) (g.M.Measure.total m) (laws.below m) (laws.some m) in
    omega (arith, some, c.count.ensures)
