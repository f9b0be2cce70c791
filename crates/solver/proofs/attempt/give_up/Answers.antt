use Rattle.std.proofs.Common.{ℕ, None, Option, sym, ap, ◌∙◌, rules}
use Rattle.std.proofs.lemmas.Result.{err_from_is_err_and}
use Rattle.runs.specs.Calls.{told}
use Rattle.solver.proofs.Attempting.{spent_told, told_refused}
use Rattle.solver.proofs.attempt.give_up.Goals as goal

pub returns-in_err-map_err : goal.returns-in_err-map_err
returns-in_err-map_err g c =
    let p = err_from_is_err_and c.from_residual.result c.from_residual.ensures.1 in
    let fault = told_refused _ tt c.in_err-map_err.field-0.0
    (sym (spent_told _ (λ e d q. search rules) _ c.args.claim tt _ _ c.abandon.ensures.reply c.map_err.ensures.cases) ∙ c.in_err-map_err.was) in
    record {
      reply = cc (ap (λ f. told {X = Option ℕ} f None) fault);
      run = c.abandon.ensures.run;
    }
