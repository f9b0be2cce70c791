use Rattle.std.proofs.Common.{length, rules}
use Rattle.std.proofs.iter.runs.Made.{chains}
use Rattle.std.proofs.lemmas.List.{get_or-take}
use Rattle.sketch.specs.Sieve.{strikable}
use Rattle.sketch.specs.Sifted.{strikable_in}
use Rattle.sketch.proofs.Bounded.{lowest_found}
use Rattle.sketch.proofs.sieve.Sieve.lowest_strikable.Goals as goal

pub returns : goal.returns
unfolding strikable
returns c =
    let s = c.args.self.now in
    lowest_found (strikable_in s) (length s.rules.now) _ (search (rules, chains, get_or-take))
