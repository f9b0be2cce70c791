use Rattle.std.proofs.Common.{◌∙◌}
use Rattle.std.proofs.lemmas.Result.{err_from_is_err_and, IfOk-from_err}
use Rattle.problem.specs.Form.{capped_numbers}
use Rattle.problem.specs.Rows.{atom_row, checked_atom}
use Rattle.problem.proofs.Caps.{atom_capped, numbers_capped, composed, composed_err}
use Rattle.problem.proofs.rows.read_atom_row.Goals as goal

pub returns-in_err-values : goal.returns-in_err-values
unfolding atom_row
returns-in_err-values c =
    let p = err_from_is_err_and c.from_residual.result c.from_residual.ensures.1 in
    record { value = rw (p.1, p.2) (composed_err capped_numbers (checked_atom c.args.next c.args.line.now.number) _ _ (c.in_err-values.ensures ∙ numbers_capped _ c.args.line.now.bytes.now)); bound = IfOk-from_err _ _ c.from_residual.ensures.0 }

pub returns : goal.returns
unfolding atom_row
returns c = record { value = c.check_atom.ensures.value ∙ composed capped_numbers (checked_atom c.args.next c.args.line.now.number) (atom_capped _ _ c.requires) _ _ (c.in_ok-values.ensures ∙ numbers_capped _ c.args.line.now.bytes.now); bound = c.check_atom.ensures.bound }
