use Rattle.std.proofs.Common.{rules}
use Rattle.problem.proofs.Pieces.{more_than_three}
use Rattle.problem.proofs.line.three_fields.Goals as goal

pub returns : goal.returns
returns c = search (rules, more_than_three)
