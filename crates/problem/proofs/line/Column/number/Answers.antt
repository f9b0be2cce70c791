use Rattle.std.proofs.Common.{rules}
use Rattle.std.proofs.lemmas.Result.{err_from_is_err_and}
use Rattle.problem.specs.Numeral.{numeral}
use Rattle.problem.proofs.Digits.{told_flaw}
use Rattle.problem.proofs.line.Column.number.Goals as goal

pub returns-in_err-map_err : goal.returns-in_err-map_err
returns-in_err-map_err c =
    let p = err_from_is_err_and c.from_residual.result c.from_residual.ensures.1 in
    rw (p.1, p.2) (told_flaw _ _ _ c.check_numeral.result c.map_err.result _ c.check_numeral.ensures c.map_err.ensures.cases (λ flaw e k. search rules) c.in_err-map_err.was)

pub returns : goal.returns
unfolding numeral
returns c = search rules
