use Rattle.std.proofs.Common.{◌≡◌, ◌-◌, ◌≤◌, List, [], length, take, drop, Ok, sym, refl, ap, ◌∙◌, arith, length-take}
use Rattle.std.proofs.lemmas.Result.{err_from_is_err_and}
use Rattle.domain.specs.declared.strips.Action.{Action}
use Rattle.sketch.specs.Fault.{sketch_fault}
use Rattle.problem.specs.Problem.{features_read, rules_read}
use Rattle.problem.proofs.Kept.{few_read}
use Rattle.problem.proofs.Parsing.{placed_fault, placed_good, line_refused, sketch_refused, whole_at, read_good}
use Rattle.problem.proofs.problem.read.Goals as goal

pub returns-in_err-reader : goal.returns-in_err-reader
returns-in_err-reader c =
    let p = err_from_is_err_and c.from_residual.result c.from_residual.ensures.1 in
    let n = length c.args.actions.now in
    let bs = c.args.text.now in
    let e = c.in_err-reader.field-0.0 in
    let fault = placed_fault c.min-limit.result bs e c.in_err-reader.ensures in
    rw (p.1, p.2) (line_refused n bs e (whole_at n bs c.min-limit.result _ c.min-limit.ensures fault), refl)

pub returns-in_err-sketch : goal.returns-in_err-sketch
returns-in_err-sketch c =
    let p = err_from_is_err_and c.from_residual-in_err-sketch.result c.from_residual-in_err-sketch.ensures.1 in
    let n = length c.args.actions.now in
    let bs = c.args.text.now in
    let s = c.in_ok-reader.reader in
    let good = placed_good c.min-limit.result bs s c.in_ok-reader.ensures in
    rw (p.1, p.2)
    (sketch_refused n bs s good.0 _ (whole_at n bs c.min-limit.result _ c.min-limit.ensures good.1) c.in_err-sketch.ensures.faults, refl)

pub slice_bounds-fill_actions-end : goal.slice_bounds-fill_actions-end
slice_bounds-fill_actions-end c =
    let fewer = few_read _ _ _ c.in_ok-reader.reader _ (omega (arith, c.min-limit.ensures)) c.in_ok-reader.ensures in
    omega (arith, fewer, ap (λ r. r.actions) c.reader.view_is, c.min-limit.ensures)

pub returns : goal.returns
returns c =
    let before : List Action = c.args.actions.now in
    let bs = c.args.text.now in
    let k = c.reader.inside.actions in
    let told = c.in_ok-reader.ensures ∙ ap (λ r. Ok (r, [])) (sym c.reader.view_is) in
    let good = placed_good c.min-limit.result bs _ told in
    let fewer : k ≤ c.min-limit.result = few_read _ _ _ _ _ (omega (arith, c.min-limit.ensures)) told in
    let few : k ≤ length before = omega (arith, fewer, c.min-limit.ensures) in
    let all : k - 0 ≡ k = omega arith in
    let size : length (take (k - 0) before) ≡ k = simp length-take (omega arith) in
    let room : length (take (k - 0) before) ≤ c.min-limit.result = omega (arith, size, fewer) in
    let front = c.fill_actions.ensures _ good.0 room good.1 ∙ ap (λ n. take n good.0) size in
    let given = c.in_ok-sketch.ensures.given in
    let features = ap features_read c.reader.view_is in
    let rules = ap rules_read c.reader.view_is in
    read_good bs before c.fill_actions.new.places _ good.0 _ c.in_ok-sketch.sketch
    (whole_at (length before) bs c.min-limit.result _ c.min-limit.ensures good.1)
    ((λ i. sketch_fault (features i) (rules i)) ∙ c.in_ok-sketch.ensures.faults)
    (given.0 ∙ sym features) (given.1 ∙ sym rules) few front (c.fill_actions.auto.places ∙ size) (ap (λ n. drop n before) all)
