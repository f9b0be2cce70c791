use Rattle.std.proofs.Common.{◌∙◌}
use Rattle.std.proofs.lemmas.Result.{err_from_is_err_and, IfOk-from_err}
use Rattle.problem.specs.Form.{capped_lettered}
use Rattle.problem.specs.Rows.{action_row, checked_action}
use Rattle.problem.proofs.Caps.{action_capped, lettered_capped, composed, composed_err}
use Rattle.problem.proofs.rows.read_action_row.Goals as goal

pub returns-in_err-values : goal.returns-in_err-values
unfolding action_row
returns-in_err-values c =
    let p = err_from_is_err_and c.from_residual.result c.from_residual.ensures.1 in
    record { value = rw (p.1, p.2) (composed_err capped_lettered (checked_action c.args.atoms c.args.limit c.args.line.now.number) _ _ (c.in_err-values.ensures ∙ lettered_capped _ c.args.line.now.bytes.now)); bound = IfOk-from_err _ _ c.from_residual.ensures.0 }

pub returns : goal.returns
unfolding action_row
returns c = record { value = c.check_action.ensures.value ∙ composed capped_lettered (checked_action c.args.atoms c.args.limit c.args.line.now.number) (action_capped _ _ _ c.requires.0 c.requires.1) _ _ (c.in_ok-values.ensures ∙ lettered_capped _ c.args.line.now.bytes.now); bound = c.check_action.ensures.bound }
