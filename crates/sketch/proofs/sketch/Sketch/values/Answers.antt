use Rattle.std.proofs.Common.{rules, arith, sym, ◌∙◌, ⊎_elim}
use Rattle.std.proofs.lemmas.Bool.{cases_lt}
use Rattle.std.proofs.lemmas.List.{get_or_past}
use Rattle.sketch.specs.Rule.{value_at}
use Rattle.sketch.specs.Sketch.{valuation}
use Rattle.domain.specs.Atoms.{members}
use Rattle.sketch.proofs.Asked.{each_made, few_values}
use Rattle.sketch.proofs.sketch.Sketch.values.Goals as goal

pub returns : goal.returns
returns c i =
    let truths = members c.args.truths.now in
    let v = valuation c.args.self.now truths in
    let made = c.from_fn.ensures.items in
    ⊎_elim
    (λ h. each_made _ _ (value_at v) (λ k y q e. search rules) _ 0 0 8 made.each i (omega arith) (omega arith))
    (λ h. get_or_past _ i 0 (omega (arith, made.long)) ∙ sym (get_or_past v i 0 (omega (arith, few_values c.args.self.now truths))))
    (cases_lt i 8)
