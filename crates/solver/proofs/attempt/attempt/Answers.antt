use Rattle.std.proofs.Common.{rules, ◌≡◌, ◌+◌, length, Some, Ok, Err, sym, ap, ◌∙◌}
use Rattle.std.proofs.lemmas.Result.{err_from_is_err_and}
use Rattle.planner.specs.Widths.{first_fault}
use Rattle.runs.specs.Run.{view}
use Rattle.runs.specs.Calls.{unless, told}
use Rattle.solver.specs.Attempt.{ended, closing_fault, attempt_fault, plan_written, way_at, row, row_of}
use Rattle.solver.proofs.Attempting.{told_refused, told_given, not_both, settle_refused, settle_given, settle_run, settle_plan, attempt_row}
use Rattle.solver.proofs.attempt.attempt.Goals as goal

-- the search was refused
pub returns-in_err-claim : goal.returns-in_err-claim
returns-in_err-claim g c =
    let p = err_from_is_err_and c.from_residual.result c.from_residual.ensures.1 in
    let v = view c.args.run.now in
    let N = c.args.atoms in
    let k = c.args.width in
    let nodes = c.args.nodes.now in
    let marks = c.args.marks.now in
    let plan = c.args.plan.now in
    let e = c.in_err-claim.field-0.0 in
    let end = ended N k v nodes marks in
    let refused = told_refused _ _ e (sym c.search_here.ensures.reply ∙ c.in_err-claim.was) in
    let fault : attempt_fault N k v nodes marks plan ≡ Some e = ap (λ f. first_fault f (closing_fault N k v end (length plan))) refused in
    let is : c.from_residual.result ≡ Err e = cc in
    record {
      reply = is ∙ sym (ap (λ f. told f (row_of (c.args.before + 1) k end)) fault);
      run = λ row ok. absurd (not_both _ e row is ok);
      nodes = c.search_here.ensures.nodes;
      marks = c.search_here.ensures.marks;
      plan = sym (ap (λ f. unless f plan (plan_written N k v nodes marks (way_at end) plan)) fault);
    }

-- the way that was found was not adopted
pub returns-in_err-length : goal.returns-in_err-length
returns-in_err-length g c =
    let p = err_from_is_err_and c.from_residual-in_err-length.result c.from_residual-in_err-length.ensures.1 in
    let v = view c.args.run.now in
    let N = c.args.atoms in
    let k = c.args.width in
    let nodes = c.args.nodes.now in
    let marks = c.args.marks.now in
    let plan = c.args.plan.now in
    let e = c.in_err-length.field-0.0 in
    let end = ended N k v nodes marks in
    let work = c.in_ok-claim.field-0 in
    let w = view c.search_here.new.run in
    let done = told_given _ _ work (sym c.search_here.ensures.reply ∙ c.in_ok-claim.was) in
    let X = c.search_here.ensures.run work c.in_ok-claim.was in
    let fault : attempt_fault N k v nodes marks plan ≡ Some e =
    settle_refused N k v nodes marks plan done.0 w X work.claim (ap (λ x. x.claim) done.1) c.search_here.new.nodes c.search_here.ensures.nodes _ e
    c.settle.ensures.reply c.in_err-length.was in
    let is : c.from_residual-in_err-length.result ≡ Err e = cc in
    record {
      reply = is ∙ sym (ap (λ f. told f (row_of (c.args.before + 1) k end)) fault);
      run = λ row ok. absurd (not_both _ e row is ok);
      nodes = c.search_here.ensures.nodes;
      marks = c.search_here.ensures.marks;
      plan = settle_plan N k v nodes marks plan done.0 w X work.claim (ap (λ x. x.claim) done.1) c.search_here.new.nodes
          c.search_here.ensures.nodes _ c.settle.ensures.plan;
    }

pub returns : goal.returns
returns g c =
    let v = view c.args.run.now in
    let N = c.args.atoms in
    let k = c.args.width in
    let nodes = c.args.nodes.now in
    let marks = c.args.marks.now in
    let plan = c.args.plan.now in
    let end = ended N k v nodes marks in
    let work = c.in_ok-claim.field-0 in
    let w = view c.search_here.new.run in
    let done = told_given _ _ work (sym c.search_here.ensures.reply ∙ c.in_ok-claim.was) in
    let X = c.search_here.ensures.run work c.in_ok-claim.was in
    let n = c.in_ok-length.length in
    let given = settle_given N k v nodes marks plan done.0 w X work.claim (ap (λ x. x.claim) done.1) c.search_here.new.nodes
    c.search_here.ensures.nodes _ n c.settle.ensures.reply c.in_ok-length.was in
    let tells : c.after.result ≡ row (c.args.before + 1) k work.expanded work.kept n = search rules in
    record {
      reply =
          ap Ok (tells ∙ attempt_row end (c.args.before + 1) k n work.expanded work.kept (ap (λ x. x.expanded) done.1) (ap (λ x. x.kept) done.1) given.1)
          ∙ sym (ap (λ f. told f (row_of (c.args.before + 1) k end)) given.0);
      run = λ _ _.
          settle_run N k v nodes marks plan done.0 w X work.claim (ap (λ x. x.claim) done.1) c.search_here.new.nodes
          c.search_here.ensures.nodes _ c.settle.ensures.run given.0;
      nodes = c.search_here.ensures.nodes;
      marks = c.search_here.ensures.marks;
      plan = settle_plan N k v nodes marks plan done.0 w X work.claim (ap (λ x. x.claim) done.1) c.search_here.new.nodes
          c.search_here.ensures.nodes _ c.settle.ensures.plan;
    }
