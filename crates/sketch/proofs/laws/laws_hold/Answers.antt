use Rattle.std.proofs.Common.{refl}
use Rattle.sketch.proofs.Cycle.{acceptance_sound}
use Rattle.sketch.proofs.Plain.{accepts_decided}
use Rattle.sketch.proofs.Sound.{entries_sound}
use Rattle.sketch.proofs.States.{states_apart}
use Rattle.sketch.proofs.Strikes.{order_free}
use Rattle.sketch.proofs.laws.laws_hold.Goals as goal

pub returns : goal.returns
returns c = record { answer = refl; acceptance = acceptance_sound; order = order_free; entries = entries_sound; states = states_apart; words = accepts_decided }
