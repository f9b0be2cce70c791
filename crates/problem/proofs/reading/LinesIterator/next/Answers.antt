use Rattle.std.proofs.Common.{◌≡◌, suc, length, sym, refl, ap, ◌∙◌, true-eqb, rules}
use Rattle.problem.specs.Lines.{lines}
use Rattle.problem.proofs.Pieces.{line_parts, no_line}
use Rattle.problem.proofs.reading.LinesIterator.next.Goals as goal

pub returns-then-is_empty-clause-steps : goal.returns-then-is_empty-clause-steps
returns-then-is_empty-clause-steps c = rw (← c.self.view_is) (no_line c.self.inside.rest.now (true-eqb _ 0 c.if-is_empty.ensures), refl)

pub returns-clause-steps : goal.returns-clause-steps
returns-clause-steps c =
    rw (← c.self.view_is)
    (line_parts c.self.inside.rest.now (λ p. p.0.now) (λ p. p.1.now) c.split_once.result _ c.if-is_empty.ensures refl refl c.split_once.ensures.parts c.unwrap_or.result c.unwrap_or.ensures, refl, refl)

pub returns-clause-goes : goal.returns-clause-goes
returns-clause-goes c =
    let parts = line_parts c.self.inside.rest.now (λ p. p.0.now) (λ p. p.1.now) c.split_once.result _ c.if-is_empty.ensures refl refl c.split_once.ensures.parts c.unwrap_or.result c.unwrap_or.ensures in
    let one_more : length c.args.self.now.lines ≡ suc (length (lines c.unwrap_or.result.1.now)) = ap (λ a. length a.lines) (sym c.self.view_is) ∙ ap length parts in
    search rules
