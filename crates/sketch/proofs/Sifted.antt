-- The flags of a sieve. Assumes nothing.
use Rattle.std.proofs.Common.{◌≡◌, length, arith}
use Rattle.std.proofs.lemmas.List.{length-take}
use Rattle.sketch.specs.Sifted.{left_in}
use Rattle.sketch.specs.declared.sieve.Sieve.{Sieve}

-- there is one for each rule
pub long_left : (s : Sieve) → length (left_in s) ≡ length s.rules.now
long_left s = omega (arith, length-take (length s.rules.now) s.left, s.few_rules, s.wide)
