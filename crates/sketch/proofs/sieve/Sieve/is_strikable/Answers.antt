use Rattle.std.proofs.Common.{length, rules}
use Rattle.std.proofs.iter.runs.Sources.{ranges}
use Rattle.sketch.specs.Sifted.{kinds_in, justified_in}
use Rattle.sketch.proofs.Bounded.{some_is}
use Rattle.sketch.proofs.Seen.{length_kinds}
use Rattle.sketch.proofs.sieve.Sieve.is_strikable.Goals as goal

pub returns : goal.returns
returns c =
    let s = c.args.self.now in
    some_is (justified_in s c.args.rule.now) (length (kinds_in s)) _ (search (rules, ranges, length_kinds))
