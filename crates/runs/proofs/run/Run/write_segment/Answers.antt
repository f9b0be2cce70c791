use Rattle.std.proofs.Common.{rules}
use Rattle.runs.specs.Run.{view}
use Rattle.runs.proofs.Adopting.{list_is}
use Rattle.runs.proofs.run.Run.write_segment.Goals as goal

pub returns-clause-after : goal.returns-clause-after
returns-clause-after g c =
    let v = view {M = g.row.M.Denot} c.args.self.now in
    let written =
    list_is v c.args.way.now c.args.count c.args.nodes.now c.args.plan.now c.if-nodes-count.false c.min-end.result c.min-end.ensures _ c.new-here.ensures in
    search (rules, written)
