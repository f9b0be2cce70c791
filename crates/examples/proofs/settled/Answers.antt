use Rattle.std.proofs.Common.{refl}
use Rattle.examples.proofs.Counting.{counter_admissible}
use Rattle.examples.proofs.Settling.{all_settled}
use Rattle.examples.proofs.settled.Goals as goal

pub returns : goal.returns
returns c = record { count = refl; all = all_settled; admissible = counter_admissible }
