use Rattle.std.proofs.Common.{◌≡◌, ℕ, take, replicate, Ok, Err, Result, refl, sym, ap, subst, arith}
use Rattle.std.specs.Result.{MatchResult, IsErrAnd}
use Rattle.problem.specs.Problem.{Parsed, Read, held, limited_problem}
use Rattle.problem.specs.declared.fault.ProblemFault.{ProblemFault}
use Rattle.report.specs.Answered.{lists, Answers}
use Rattle.report.proofs.solve_text.Goals as goal

-- what is well after its error was changed was well before
well_before : {T E D : Type 0} (Q : E → D → Type 0) (r : Result T E) (s : Result T D) (x : T) → MatchResult r (λ y. s ≡ Ok y) (λ e. IsErrAnd s (Q e)) → s ≡ Ok x → r ≡ Ok x
well_before Q (Ok y) s x h is = let same : y ≡ x = cc in ap Ok same
well_before Q (Err e) (Ok y) x h is = absurd h
well_before Q (Err e) (Err d) x h is = let z : ◌≡◌ {A = ℕ} 0 1 = cc in absurd (omega arith)

-- what was read is what the text means, and the problem that was read is solved along its own sketch
pub returns : goal.returns
returns c =
    let p = c.in_ok-problem.problem in
    let well = well_before _ c.read_limited.result c.map_err.result p c.map_err.ensures.cases c.in_ok-problem.was in
    let read : limited_problem 16384 64 c.args.text.now ≡ Ok (held p (take p.action_count c.read_limited.new.actions)) =
    (subst (λ r. Read (limited_problem 16384 64 c.args.text.now) (replicate 64 c.default-table.result) c.read_limited.new.actions r) well c.read_limited.ensures).0 in
    subst
    (λ (m : Result Parsed ProblemFault). Answers m (lists c.args.plan.now c.args.rows.now) (lists c.solve_problem.new.plan c.solve_problem.new.rows) c.solve_problem.result)
    (sym read) (p.sketch, refl, refl, c.solve_problem.ensures)
