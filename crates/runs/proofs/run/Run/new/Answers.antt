use Rattle.std.proofs.Common.{rules}
use Rattle.runs.proofs.EveryCall.{every_list}
use Rattle.runs.proofs.run.Run.new.Goals as goal

pub returns-clause-findings : goal.returns-clause-findings
returns-clause-findings g c =
    let laws = g.met.M.Measure in
    let current = c.start-current.ensures in
    every_list g.M.Measure.keys g.M.Measure.total laws.below laws.some (g.D.StateModel.meaning c.args.model) c.args.sketch
    (g.D.StateModel.lawful c.args.model) _ (search rules)
