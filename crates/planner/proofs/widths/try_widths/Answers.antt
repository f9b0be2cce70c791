use Rattle.std.proofs.Common.{Some, None, ◌<◌, ◌++◌, length, drop, sym, ap, ◌∙◌, subst, inr, arith, length-set}
use Rattle.std.proofs.lemmas.List.{get_or-set_same}
use Rattle.std.proofs.lemmas.Result.{err_from_is_err_and}
use Rattle.planner.specs.Way.{actions_of, written_list}
use Rattle.planner.proofs.Searched.{ended_exhausted, full_by, written_by, written_ok, exhausted_more, exhausted_same, unmade_same}
use Rattle.planner.proofs.widths.try_widths.Goals as goal

-- the way was refused: it holds, so the list is too short
pub returns-in_err-steps : goal.returns-in_err-steps
returns-in_err-steps g c =
    let p = err_from_is_err_and c.from_residual-in_err-steps.result c.from_residual-in_err-steps.ensures.1 in
    let P = g.D.StateModel.meaning c.args.model.now in
    let inv = c.loop-width.invariant in
    let end = c.width_search.new.nodes in
    let way = c.in-Found.way in
    let e = c.in_err-steps.field-0.0 in
    let here = c.width_search.ensures.searched c.in_ok-reply.reply c.in_ok-reply.was in
    let fault = written_by _ _ e (sym c.write_way.ensures.reply ∙ c.in_err-steps.was) in
    let full = full_by P end way (length c.loop-width.plan) e (here.findings.findings.holds way c.in-Found.is) fault in
    rw (p.1, p.2) (
      c.write_way.ensures.after ∙ ap (λ f. written_list f (actions_of end way) c.loop-width.plan) fault ∙ inv.3,
      (
        c.loop-width.width,
        c.loop-width-test.true,
        inr (full.0, (end, c.in_ok-reply.reply, way, here, c.in-Found.is, subst (λ xs. length xs < way.length) inv.3 full.1)),
      ),
    )

-- the way is written
pub returns-in-Found : goal.returns-in-Found
returns-in-Found g c =
    let P = g.D.StateModel.meaning c.args.model.now in
    let inv = c.loop-width.invariant in
    let k = c.loop-width.width in
    let replies = c.loop-width.place-items in
    let reply = c.in_ok-reply.reply in
    let end = c.width_search.new.nodes in
    let way = c.in-Found.way in
    let here = c.width_search.ensures.searched reply c.in_ok-reply.was in
    let done = written_ok _ _ _ (sym c.write_way.ensures.reply ∙ c.in_ok-steps.was) in
    let within : k < length replies = omega (arith, inv.0) in
    let long = here.findings.findings.long way c.in-Found.is in
    inr (
      k,
      way,
      reply,
      omega arith,
      ap Some done.1,
      exhausted_same P k replies reply inv.1,
      unmade_same P k replies reply inv.2,
      get_or-set_same replies k (Some reply) None within,
      here,
      c.in-Found.is,
      c.write_way.ensures.after ∙ ap (λ f. written_list f (actions_of end way) c.loop-width.plan) done.0
          ∙ ap (λ n. actions_of end way ++ drop n c.loop-width.plan) long ∙ ap (λ xs. actions_of end way ++ drop way.length xs) inv.3,
    )

-- the search by this width was exhausted
pub loop-width-preserved : goal.loop-width-preserved
loop-width-preserved g c =
    let P = g.D.StateModel.meaning c.args.model.now in
    let inv = c.loop-width.invariant in
    let k = c.loop-width.width in
    let replies = c.loop-width.place-items in
    let reply = c.in_ok-reply.reply in
    let here = c.width_search.ensures.searched reply c.in_ok-reply.was in
    let within : k < length replies = omega (arith, inv.0) in (
      length-set replies k (Some reply) ∙ inv.0,
      exhausted_more P k replies reply c.width_search.new.nodes within inv.1 here
          (ended_exhausted reply.outcome c.in_default.not-Found here.findings.ends),
      unmade_same P k replies reply inv.2,
      inv.3,
    )
