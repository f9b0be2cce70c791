use Rattle.std.proofs.Common.{[]}
use Rattle.problem.specs.Tables.{rule_of}
use Rattle.problem.proofs.Blanks.{Written}
use Rattle.problem.proofs.tables.RuleTable.list.Given as goal

abbrev pub invariant-loop-number : goal.invariant-loop-number
invariant-loop-number l = Written rule_of [] l.self.entries l.place-items l.number
