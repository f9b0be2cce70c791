use Rattle.std.proofs.Common.{◌≡◌, ◌≤◌, ℕ, [], get_or, arith}
use Rattle.novelty.specs.Binomials.{choose}
use Rattle.novelty.proofs.Pascal.{entry, row_sum}
use Rattle.novelty.proofs.binomials.smaller_sets.Goals as goal

pub returns : goal.returns
returns c =
    let rows : (r : ℕ) → r ≤ 3 → get_or (get_or c.table.result.now c.args.atoms []) r 0 ≡ choose c.args.atoms r =
    λ r h. entry 256 c.table.result.now c.table.ensures c.args.atoms r [] (omega arith) h in
    let total = row_sum (get_or c.table.result.now c.args.atoms []) c.args.atoms rows c.args.size (omega arith) in omega (arith, total)
