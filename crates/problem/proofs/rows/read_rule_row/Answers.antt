use Rattle.std.proofs.Common.{◌∙◌}
use Rattle.std.proofs.lemmas.Result.{err_from_is_err_and, IfOk-from_err}
use Rattle.problem.specs.Form.{capped_twice}
use Rattle.problem.specs.Rows.{rule_row, checked_rule}
use Rattle.problem.proofs.Caps.{rule_capped, twice_capped, composed, composed_err}
use Rattle.problem.proofs.rows.read_rule_row.Goals as goal

pub returns-in_err-values : goal.returns-in_err-values
unfolding rule_row
returns-in_err-values c =
    let p = err_from_is_err_and c.from_residual.result c.from_residual.ensures.1 in
    record { value = rw (p.1, p.2) (composed_err capped_twice (checked_rule c.args.features c.args.table.now c.args.line.now.number) _ _ (c.in_err-values.ensures ∙ twice_capped _ c.args.line.now.bytes.now)); bound = IfOk-from_err _ _ c.from_residual.ensures.0 }

pub returns : goal.returns
unfolding rule_row
returns c = record { value = c.check_rule.ensures.value ∙ composed capped_twice (checked_rule c.args.features c.args.table.now c.args.line.now.number) (rule_capped _ c.args.table.now _ c.requires) _ _ (c.in_ok-values.ensures ∙ twice_capped _ c.args.line.now.bytes.now); bound = c.check_rule.ensures.bound }
