use Rattle.std.proofs.Common.{◌&&◌, length, rules}
use Rattle.std.proofs.lemmas.List.{get_or-take}
use Rattle.std.proofs.iter.runs.Made.{chains}
use Rattle.sketch.specs.Rule.{entry_at, rule_at}
use Rattle.sketch.specs.Sieve.{remains}
use Rattle.sketch.specs.Sifted.{left_in}
use Rattle.sketch.proofs.Bounded.{some_is}
use Rattle.sketch.proofs.sieve.Sieve.some_left.Goals as goal

pub returns : goal.returns
returns g c p says =
    let s = c.args.self.now in
    some_is (λ i. remains (left_in s) i && p (entry_at (rule_at s.rules.now i) c.args.feature)) (length s.rules.now) _ (search (rules, chains, says, get_or-take))
