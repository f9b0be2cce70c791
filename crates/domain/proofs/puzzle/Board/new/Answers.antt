use Rattle.std.proofs.Common.{◌≡◌, length, Some, None, rules}
use Rattle.domain.proofs.Fresh.{once_from_check, not_once_from_check, board_told}
use Rattle.domain.specs.declared.refusal.Refusal.TheVariants.{Range}
use Rattle.domain.proofs.puzzle.Board.new.Goals as goal

pub returns-in-Some : goal.returns-in-Some
returns-in-Some c =
    let pieces = c.args.pieces in
    let nine : length pieces ≡ 9 = search rules in
    let told = board_told pieces (Some c.in-Some.place) c.in-Some.ensures in
    (told, not_once_from_check pieces (Range c.in-Some.place) nine told)

pub invariant_of-result : goal.invariant_of-result
invariant_of-result c =
    let pieces = c.args.pieces in
    let nine : length pieces ≡ 9 = search rules in
    record { nine = nine; once = once_from_check pieces nine (board_told pieces None c.in_default.ensures) }

pub returns : goal.returns
returns c =
    let told = board_told c.args.pieces None c.in_default.ensures in
    search rules
