use Rattle.std.proofs.Common.{ℕ, Bool, ap, ◌∙◌}
use mathlib.Core.Path.{fun_ext}
use Rattle.domain.specs.Atoms.{members, every}
use Rattle.domain.proofs.puzzle.Board.shows.Goals as goal

pub returns : goal.returns
returns c =
    c.is_subset.ensures.value ∙ ap (λ (p : ℕ → Bool). every p (members c.args.atoms.now)) (fun_ext c.truths.ensures.membership)
