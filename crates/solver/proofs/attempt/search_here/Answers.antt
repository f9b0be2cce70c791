use Rattle.std.proofs.Common.{◌≡◌, ◌+◌, length, Some, Err, sym, ap, ◌∙◌, arith, rules}
use Rattle.std.proofs.lemmas.Result.{err_from_is_err_and}
use Rattle.runs.specs.Run.{view}
use Rattle.runs.specs.Calls.{told, worked_reply}
use Rattle.solver.specs.Attempt.{opening_fault, ended}
use Rattle.solver.proofs.Attempting.{spent_told, told_refused, told_given, not_both, refused_list, opening_is, search_reply, search_list, search_run}
use Rattle.solver.proofs.attempt.search_here.Goals as goal

-- begin was refused
pub returns-in_err-ticket : goal.returns-in_err-ticket
returns-in_err-ticket g c =
    let p = err_from_is_err_and c.from_residual-in_err-ticket.result c.from_residual-in_err-ticket.ensures.1 in
    let v = view c.args.run.now in
    let N = c.args.atoms in
    let k = c.args.width in
    let nodes = c.args.nodes.now in
    let marks = c.args.marks.now in
    let made = c.in_ok-measure.ensures.answer in
    let m = c.in_ok-measure.measure in
    let e = c.in_err-ticket.field-0.0 in
    let refused = told_refused _ _ e (sym c.begin.ensures.reply ∙ c.in_err-ticket.was) in
    let fault : opening_fault N k v (length nodes) (length marks) ≡ Some e = sym (opening_is v N k m made.1 made.2 made.0 nodes marks) ∙ refused in
    let is : c.from_residual-in_err-ticket.result ≡ Err e = cc in
    record {
      reply = is ∙ sym (ap (λ f. told f (worked_reply v (v.searches + 1) (ended N k v nodes marks))) fault);
      run = λ w ok. absurd (not_both _ e w is ok);
      nodes = refused_list _ _ e nodes _ (ended N k v nodes marks).nodes _ c.begin.ensures.nodes refused fault;
      marks = refused_list _ _ e marks _ (ended N k v nodes marks).marks _ c.begin.ensures.marks refused fault;
    }

pub returns : goal.returns
returns g c =
    let v = view c.args.run.now in
    let w = view c.begin.new.self in
    let N = c.args.atoms in
    let k = c.args.width in
    let nodes = c.args.nodes.now in
    let marks = c.args.marks.now in
    let states = c.begin.new.nodes in
    let table = c.begin.new.marks in
    let made = c.in_ok-measure.ensures.answer in
    let m = c.in_ok-measure.measure in
    let t = c.in_ok-ticket.ticket in
    let given = told_given _ _ t (sym c.begin.ensures.reply ∙ c.in_ok-ticket.was) in
    let same_states : length states ≡ length nodes = omega arith in
    let same_table : length table ≡ length marks = omega arith in
    record {
      reply =
          search_reply v N k m made.1 made.2 made.0 nodes marks given.0 w t states table c.count-budget.result c.begin.ensures.run given.1
          c.begin.ensures.nodes c.begin.ensures.marks c.count-budget.ensures same_states same_table _
          (spent_told _ (λ e d q. search rules) _ t _ _ _ c.work.ensures.reply c.map_err.ensures.cases);
      run = λ _ _.
          search_run v N k m made.1 made.2 made.0 nodes marks given.0 w t states table c.count-budget.result c.begin.ensures.run given.1
          c.begin.ensures.nodes c.begin.ensures.marks c.count-budget.ensures same_states same_table _ c.work.ensures.run;
      nodes =
          search_list v N k m made.1 made.2 made.0 nodes marks given.0 w t states table c.count-budget.result c.begin.ensures.run given.1
          c.begin.ensures.nodes c.begin.ensures.marks c.count-budget.ensures same_states same_table (λ h. h.nodes) states _ nodes c.work.ensures.nodes;
      marks =
          search_list v N k m made.1 made.2 made.0 nodes marks given.0 w t states table c.count-budget.result c.begin.ensures.run given.1
          c.begin.ensures.nodes c.begin.ensures.marks c.count-budget.ensures same_states same_table (λ h. h.marks) table _ marks c.work.ensures.marks;
    }
