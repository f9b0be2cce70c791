use Rattle.std.proofs.Common.{ltb, length, Some, None, sym, ◌∙◌, arith}
use Rattle.domain.specs.Operators.{action_fits, first_unfit}
use Rattle.domain.proofs.Faults.{fault_of_actions}
use Rattle.domain.proofs.Leading.{found_front, told_place}
use Rattle.domain.proofs.strips.problem.check.Goals as goal

pub returns-in-Some : goal.returns-in-Some
returns-in-Some c =
    let n = c.args.atoms in
    let acts = c.args.table.now in
    fault_of_actions n c.args.start.now c.args.goal.now acts (omega arith) (omega arith) (omega arith)
    (sym c.if-not-is_below.ensures) (sym c.if-not-is_below-2.ensures)
    ∙ told_place (ltb (first_unfit n acts) (length acts)) (first_unfit n acts) (Some c.in-Some.place)
    (c.in-Some.ensures ∙ found_front (action_fits n) acts)

pub returns : goal.returns
returns c =
    let n = c.args.atoms in
    let acts = c.args.table.now in (
      fault_of_actions n c.args.start.now c.args.goal.now acts (omega arith) (omega arith) (omega arith)
          (sym c.if-not-is_below.ensures) (sym c.if-not-is_below-2.ensures)
          ∙ told_place (ltb (first_unfit n acts) (length acts)) (first_unfit n acts) None (c.in_default.ensures ∙ found_front (action_fits n) acts),
      omega arith,
      omega arith,
      omega arith,
    )
