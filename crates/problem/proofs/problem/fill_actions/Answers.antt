use Rattle.std.proofs.Common.{◌≡◌, length, replicate, ap, ◌∙◌, rules, subst}
use Rattle.problem.specs.Tables.{blank_action}
use Rattle.problem.specs.Text.{read_text, Ends}
use Rattle.problem.proofs.Places.{ends_filled}
use Rattle.problem.proofs.problem.fill_actions.Goals as goal

pub returns : goal.returns
returns c =
    let blank : c.default.result ≡ blank_action = λ i. record { preconditions = c.default.ensures.0 i; additions = c.default.ensures.1.0 i; deletions = c.default.ensures.1.1 i } in
    let cleared = c.fill.ensures.after (search rules) ∙ ap (replicate (length c.args.places.now)) blank in
    ends_filled c.args.limit (length c.args.places.now) c.args.text.now c.read_lines.new.places c.read_lines.result
    (subst (λ acts. Ends (read_text c.args.limit acts c.args.text.now) c.read_lines.new.places c.read_lines.result) cleared c.read_lines.ensures)
