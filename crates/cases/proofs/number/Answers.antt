use Rattle.std.proofs.Common.{sym}
use Rattle.cases.proofs.Determined.{none_match, digits_utf8, no_value}
use Rattle.cases.proofs.number.Goals as goal

-- the bytes are no text, and so no digits
pub returns-in_err-ok : goal.returns-in_err-ok
returns-in_err-ok c =
    none_match _ c.from_residual.ensures
    (λ (digits, small). no_value _ _ _ c.from_utf8.result c.from_utf8.ensures.cases (sym c.in_err-ok.ensures.value) (digits_utf8 c.args.digits.now digits))
