use Rattle.std.proofs.Common.{refl, ◌∙◌}
use Rattle.runs.specs.Run.{view}
use Rattle.runs.proofs.Replies.{not_handed_back}
use Rattle.runs.proofs.Adopting.{run_ok}
use Rattle.runs.proofs.run.Run.adopt.Goals as goal

pub returns-clause-run : goal.returns-clause-run
returns-clause-run g c =
    let made = c.write_found.ensures in
    rw (← c.number.ensures)
    (run_ok (view c.args.self.now) c.number.result c.args.nodes.now c.args.plan.now _ c.in_ok-length.length
    (not_handed_back c.write_found.result c.args.find c.in_ok-length.length c.in_ok-length.ensures ∙ made.reply) refl _
    c.write_found.new.plan made.after c.take_up.ensures)
