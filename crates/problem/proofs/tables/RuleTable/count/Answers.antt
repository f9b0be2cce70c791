use Rattle.std.proofs.Common.{[], is_some, rules}
use Rattle.std.specs.List.{list_any}
use Rattle.std.proofs.iter.runs.Made.{chains}
use Rattle.problem.proofs.Blanks.{found_past}
use Rattle.problem.proofs.tables.RuleTable.count.Goals as goal

pub returns-clause-value : goal.returns-clause-value
returns-clause-value c = found_past (list_any is_some) [] c.args.self.now.entries c.rposition.result c.map_or.result (search (rules, chains)) (search rules)
