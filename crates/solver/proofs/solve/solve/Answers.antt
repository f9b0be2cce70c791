use Rattle.std.proofs.Common.{rules, ◌≡◌, suc, ◌+◌, ◌-◌, ◌≤◌, true, false, length, set, Some, None, Ok, Err, sym, refl, ap, ◌∙◌, ap₂, arith, length-set}
use Rattle.std.proofs.lemmas.Result.{err_from_is_err_and}
use Rattle.domain.specs.declared.refusal.Refusal.TheVariants.{Limit}
use Rattle.runs.specs.Run.{view}
use Rattle.solver.specs.Attempt.{row_of}
use Rattle.solver.specs.Solve.{memory, answer, report, next_width, at_its_end, fault_at, found_at, view_after, memory_after, solve_from, solved}
use Rattle.solver.specs.declared.report.Ending.TheVariants.{AtTarget, ThirdStub}
use Rattle.solver.proofs.Attempting.{told_refused, told_given, not_both, cong4, row_at, row_found}
use Rattle.solver.proofs.Reporting.{said}
use Rattle.solver.proofs.Solving.{ends_at_target, ends_without_row, ends_refused, ends_with_stub, goes_on_by, row_written, row_left}
use Rattle.solver.proofs.solve.solve.Goals as goal

-- no row is free
pub returns-then-made-rows : goal.returns-then-made-rows
returns-then-made-rows g c =
    let P = g.D.StateModel.meaning c.args.model in
    let l = c.loop-run in
    let v = view l.run in
    let before = memory c.args.nodes.now c.args.marks.now c.args.plan.now c.args.rows.now in
    let mem = memory l.nodes l.marks l.plan l.rows in
    let start = ap₂ (λ a w. solve_from a (length c.args.rows.now) 0 w before) (sym c.atoms-atoms.ensures) (sym c.new-run.ensures.value) in
    let off : v.problem.target v.current ≡ false = search rules in
    let none : length l.rows - l.made ≡ 0 = omega arith in
    let done : solved P c.args.sketch before ≡ answer (Err (Limit v.searches)) mem =
    start ∙ l.invariant.0 ∙ ap (λ n. solve_from c.atoms-atoms.result n l.width v mem) none ∙ ends_without_row c.atoms-atoms.result l.width v mem off in
    record {
      reply = ap (λ n. Err (Limit n)) (sym l.invariant.1) ∙ sym (ap (λ a. a.reply) done);
      nodes = sym (ap (λ a. a.left.nodes) done);
      marks = sym (ap (λ a. a.left.marks) done);
      plan = sym (ap (λ a. a.left.plan) done);
      rows = sym (ap (λ a. a.left.rows) done);
      reported = λ told ok. absurd (not_both _ (Limit l.made) told refl ok);
    }

-- the search was refused, or what it found was not adopted
pub returns-in_err-row : goal.returns-in_err-row
returns-in_err-row g c =
    let p = err_from_is_err_and c.from_residual.result c.from_residual.ensures.1 in
    let P = g.D.StateModel.meaning c.args.model in
    let l = c.loop-run in
    let N = c.atoms-atoms.result in
    let v = view l.run in
    let before = memory c.args.nodes.now c.args.marks.now c.args.plan.now c.args.rows.now in
    let mem = memory l.nodes l.marks l.plan l.rows in
    let off : v.problem.target v.current ≡ false = search rules in
    let free : length l.rows - l.made ≡ suc (length l.rows - (l.made + 1)) = omega arith in
    let start = ap₂ (λ a w. solve_from a (length c.args.rows.now) 0 w before) (sym c.atoms-atoms.ensures) (sym c.new-run.ensures.value) in
    let e = c.in_err-row.field-0.0 in
    let fault : fault_at N l.width v mem ≡ Some e = told_refused _ _ e (sym c.attempt.ensures.reply ∙ c.in_err-row.was) in
    let is : c.from_residual.result ≡ Err e = cc in
    let done : solved P c.args.sketch before ≡ answer (Err e) (memory_after N l.width v mem) =
    start ∙ l.invariant.0 ∙ ends_refused N l.width v mem off (length l.rows - l.made) (length l.rows - (l.made + 1)) free e fault in
    record {
      reply = is ∙ sym (ap (λ a. a.reply) done);
      nodes = c.attempt.ensures.nodes ∙ sym (ap (λ a. a.left.nodes) done);
      marks = c.attempt.ensures.marks ∙ sym (ap (λ a. a.left.marks) done);
      plan = c.attempt.ensures.plan ∙ sym (ap (λ a. a.left.plan) done);
      rows = row_left N l.width v mem e fault ∙ sym (ap (λ a. a.left.rows) done);
      reported = λ told ok. absurd (not_both _ e told is ok);
    }

-- the third search in turn was exhausted
pub returns-in_default : goal.returns-in_default
returns-in_default g c =
    let P = g.D.StateModel.meaning c.args.model in
    let l = c.loop-run in
    let N = c.atoms-atoms.result in
    let v = view l.run in
    let before = memory c.args.nodes.now c.args.marks.now c.args.plan.now c.args.rows.now in
    let mem = memory l.nodes l.marks l.plan l.rows in
    let off : v.problem.target v.current ≡ false = search rules in
    let free : length l.rows - l.made ≡ suc (length l.rows - (l.made + 1)) = omega arith in
    let start = ap₂ (λ a w. solve_from a (length c.args.rows.now) 0 w before) (sym c.atoms-atoms.ensures) (sym c.new-run.ensures.value) in
    let row = c.in_ok-row.row in
    let made = told_given _ _ row (sym c.attempt.ensures.reply ∙ c.in_ok-row.was) in
    let is : row ≡ row_of (l.made + 1) l.width (at_its_end N l.width v mem) = row_at (at_its_end N l.width v mem) made.1 (omega arith) in
    let stands = c.attempt.ensures.run row c.in_ok-row.was in
    let written = row_written N l.width v mem l.made row l.invariant.1 is made.0 in
    let last : next_width (found_at N l.width v mem) l.width ≡ None = ap (λ b. next_width b l.width) (sym (c.is_some.ensures ∙ row_found (at_its_end N l.width v mem) (l.made + 1) l.width row is)) ∙ sym c.in_default.ensures in
    let done : solved P c.args.sketch before ≡ answer (Ok (report (view_after N l.width v mem) ThirdStub)) (memory_after N l.width v mem) =
    start ∙ l.invariant.0 ∙ ends_with_stub N l.width v mem off (length l.rows - l.made) (length l.rows - (l.made + 1)) free made.0 last in
    let ends = ap₂ (λ a b. Ok (record { rows = a; steps = b; ending = ThirdStub })) (ap (λ n. n + 1) (sym l.invariant.1)) (c.plan_length.ensures ∙ ap (λ w. w.length) stands) in
    record {
      reply = ends ∙ sym (ap (λ a. a.reply) done);
      nodes = c.attempt.ensures.nodes ∙ sym (ap (λ a. a.left.nodes) done);
      marks = c.attempt.ensures.marks ∙ sym (ap (λ a. a.left.marks) done);
      plan = c.attempt.ensures.plan ∙ sym (ap (λ a. a.left.plan) done);
      rows = written ∙ sym (ap (λ a. a.left.rows) done);
      reported = said P c.args.sketch (g.D.StateModel.lawful c.args.model) before done ends c.attempt.ensures.plan written;
    }

pub loop-run-preserved : goal.loop-run-preserved
loop-run-preserved g c =
    let P = g.D.StateModel.meaning c.args.model in
    let l = c.loop-run in
    let N = c.atoms-atoms.result in
    let v = view l.run in
    let before = memory c.args.nodes.now c.args.marks.now c.args.plan.now c.args.rows.now in
    let mem = memory l.nodes l.marks l.plan l.rows in
    let off : v.problem.target v.current ≡ false = search rules in
    let free : length l.rows - l.made ≡ suc (length l.rows - (l.made + 1)) = omega arith in
    let row = c.in_ok-row.row in
    let made = told_given _ _ row (sym c.attempt.ensures.reply ∙ c.in_ok-row.was) in
    let is : row ≡ row_of (l.made + 1) l.width (at_its_end N l.width v mem) = row_at (at_its_end N l.width v mem) made.1 (omega arith) in
    let stands = c.attempt.ensures.run row c.in_ok-row.was in
    let written = row_written N l.width v mem l.made row l.invariant.1 is made.0 in
    let j = c.in-Some.next in
    let next : next_width (found_at N l.width v mem) l.width ≡ Some j = ap (λ b. next_width b l.width) (sym (c.is_some.ensures ∙ row_found (at_its_end N l.width v mem) (l.made + 1) l.width row is)) ∙ sym c.in-Some.ensures in
    let same : length (set l.rows l.made row) ≡ length l.rows = length-set l.rows l.made row in
    let room : l.made + 1 ≤ length (set l.rows l.made row) = omega arith in (
      l.invariant.0 ∙ goes_on_by N l.width v mem off (length l.rows - l.made) (length l.rows - (l.made + 1)) free made.0 j next
          ∙ sym
          (cong4 (λ n w m x. solve_from N n j w m) (ap (λ n. n - (l.made + 1)) same) stands
          (cong4 memory c.attempt.ensures.nodes c.attempt.ensures.marks c.attempt.ensures.plan written) same),
      ap (λ w. w.searches) stands ∙ ap (λ n. n + 1) l.invariant.1,
      room,
    )

pub returns : goal.returns
returns g c =
    let P = g.D.StateModel.meaning c.args.model in
    let l = c.loop-run in
    let v = view l.run in
    let before = memory c.args.nodes.now c.args.marks.now c.args.plan.now c.args.rows.now in
    let mem = memory l.nodes l.marks l.plan l.rows in
    let start = ap₂ (λ a w. solve_from a (length c.args.rows.now) 0 w before) (sym c.atoms-atoms.ensures) (sym c.new-run.ensures.value) in
    let on : v.problem.target v.current ≡ true = search rules in
    let done : solved P c.args.sketch before ≡ answer (Ok (report v AtTarget)) mem =
    start ∙ l.invariant.0 ∙ ends_at_target c.atoms-atoms.result l.width v mem (length l.rows - l.made) on in
    let ends = ap₂ (λ a b. Ok (record { rows = a; steps = b; ending = AtTarget })) (sym l.invariant.1) c.plan_length-2.ensures in
    record {
      reply = ends ∙ sym (ap (λ a. a.reply) done);
      nodes = sym (ap (λ a. a.left.nodes) done);
      marks = sym (ap (λ a. a.left.marks) done);
      plan = sym (ap (λ a. a.left.plan) done);
      rows = sym (ap (λ a. a.left.rows) done);
      reported = said P c.args.sketch (g.D.StateModel.lawful c.args.model) before done ends refl refl;
    }
