use Rattle.std.proofs.Common.{◌≡◌, sym, subst, rules}
use Rattle.domain.specs.Moves.{opposite_of}
use Rattle.domain.specs.Puzzle.{Undoes}
use Rattle.domain.proofs.Undone.{undoes}
use Rattle.domain.proofs.puzzle.Puzzle.opposite.Goals as goal

pub returns-clause-back : goal.returns-clause-back
returns-clause-back c =
    let other : c.map_or.result ≡ opposite_of c.args.action = search rules in
    subst (Undoes c.args.action) (sym other) (undoes c.args.action)
