use Rattle.std.proofs.Common.{refl}
use Rattle.examples.proofs.SketchSettling.{all_sketches_settled}
use Rattle.examples.proofs.sketches_settled.Goals as goal

pub returns : goal.returns
returns c = record { count = refl; all = all_sketches_settled }
