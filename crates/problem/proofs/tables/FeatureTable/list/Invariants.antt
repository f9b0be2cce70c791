use Rattle.std.proofs.Common.{None}
use Rattle.problem.specs.Tables.{feature_of}
use Rattle.problem.proofs.Blanks.{Written}
use Rattle.problem.proofs.tables.FeatureTable.list.Given as goal

abbrev pub invariant-loop-number : goal.invariant-loop-number
invariant-loop-number l = Written feature_of None l.self.features l.place-items l.number
