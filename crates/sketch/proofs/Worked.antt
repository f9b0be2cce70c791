-- The examples, by computation. Assumes nothing.
use Rattle.std.proofs.Common.{refl}
use Rattle.sketch.specs.Below.{some_below, lowest}
use Rattle.sketch.specs.Sieve.{raised, lowered, justifies, strikable, strike, strikes, sieve, rules_left}
use Rattle.sketch.specs.Examples.{Examples}

pub examples : Examples
unfolding some_below lowest raised lowered justifies strikable strike strikes sieve rules_left
examples = record { undone = refl; fine = refl; back_and_forth = refl; last_two = refl }
