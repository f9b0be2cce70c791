use Rattle.std.proofs.Common.{ℕ, not, refl, rules}
use Rattle.std.proofs.lemmas.Iterator.{YieldsList-from_range}
use Rattle.std.proofs.lemmas.Iterator.Search.{position_from_yields_List}
use Rattle.domain.specs.Boards.{fresh}
use Rattle.domain.proofs.puzzle.make.first_stale.Goals as goal

pub returns : goal.returns
returns c =
    position_from_yields_List {v = λ (x : ℕ). x} (λ k. not (fresh c.args.pieces.now k)) _ _ c.position.result c.position.ensures.ran
    (YieldsList-from_range 0 9 9 refl refl) (λ x b q k. search rules)
