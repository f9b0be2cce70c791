use Rattle.problem.proofs.Pieces.{fields_parts}
use Rattle.problem.proofs.line.split_field.Goals as goal

pub returns : goal.returns
returns c = fields_parts c.args.bytes.now (λ p. p.0.now) (λ p. p.1.now) c.split_once.result c.split_once.ensures.parts
