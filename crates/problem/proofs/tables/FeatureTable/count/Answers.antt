use Rattle.std.proofs.Common.{None, is_some, rules}
use Rattle.std.proofs.iter.runs.Made.{chains}
use Rattle.problem.proofs.Blanks.{found_past}
use Rattle.problem.proofs.tables.FeatureTable.count.Goals as goal

pub returns-clause-value : goal.returns-clause-value
returns-clause-value c = found_past is_some None c.args.self.now.features c.rposition.result c.map_or.result (search (rules, chains)) (search rules)
