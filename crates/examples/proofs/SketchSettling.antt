-- Each example of a sketch is computed from the definitions. Assumes nothing.
use Rattle.std.proofs.Common.{refl}
use Rattle.std.specs.List.{AllByRecursion}
use Rattle.sketch.specs.Below.{some_below, every_below, lowest}
use Rattle.sketch.specs.Fault.{rule_fits, first_unfit}
use Rattle.sketch.specs.Sieve.{raised, lowered, justifies, strikable, strike, strikes, sieve, rules_left}
use Rattle.examples.specs.Sketches.{SketchSettled, sketch_examples}

pub all_sketches_settled : AllByRecursion SketchSettled sketch_examples
unfolding some_below every_below lowest raised lowered justifies strikable strike strikes sieve rules_left rule_fits first_unfit
all_sketches_settled = (refl, (refl, (refl, (refl, (refl, tt)))))
