use Rattle.std.proofs.Common.{◌≡◌, ℕ, not, ◌&&◌, rules}
use Rattle.domain.specs.Atoms.{has}
use Rattle.domain.proofs.Within.{within_from_empty}
use Rattle.domain.proofs.atoms.AtomSet.is_subset.Goals as goal

pub returns-clause-value : goal.returns-clause-value
returns-clause-value c =
    let s = c.args.self.now in
    let t = c.args.other.now in
    let more : (a : ℕ) → has c.difference.result a ≡ (has s a && not (has t a)) = λ a. let told = c.difference.ensures.membership a in search rules in
    within_from_empty s t c.difference.result c.is_empty.result more c.is_empty.ensures
