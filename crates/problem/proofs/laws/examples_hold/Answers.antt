use Rattle.std.proofs.Common.{refl}
use Rattle.problem.proofs.Worked.{examples}
use Rattle.problem.proofs.laws.examples_hold.Goals as goal

pub returns : goal.returns
returns c = record { answer = refl; examples = examples }
