use Rattle.std.proofs.Common.{[], subst}
use Rattle.std.proofs.lemmas.List.{nil_from_length}
use Rattle.problem.specs.Text.{read_text, Ends}
use Rattle.problem.proofs.problem.check_lines.Goals as goal

pub returns : goal.returns
returns c = subst (λ acts. Ends (read_text c.args.limit [] c.args.text.now) acts c.read_lines.result) (nil_from_length _ c.read_lines.auto.places) c.read_lines.ensures
