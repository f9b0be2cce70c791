use Rattle.std.proofs.Common.{◌≡◌, fold, ◌∙◌, rules}
use Rattle.problem.proofs.Digits.{count_on, capped_digits}
use Rattle.problem.proofs.numeral.digits_value.Goals as goal

pub returns : goal.returns
returns c =
    let counted : c.fold.result ≡ fold count_on 0 c.args.digits.now = search rules in
    counted ∙ capped_digits c.args.digits.now
