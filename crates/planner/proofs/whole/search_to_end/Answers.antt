use Rattle.std.proofs.Common.{◌≡◌, refl, sym, ap, ◌∙◌, subst}
use Rattle.planner.specs.Search.{task, given, snap, advanced}
use Rattle.planner.specs.Whole.{at_end}
use Rattle.planner.proofs.Expanding.{Fair}
use Rattle.planner.proofs.Findings.{end_within, end_findings}
use Rattle.planner.proofs.Lawful.{fair}
use Rattle.planner.proofs.whole.search_to_end.Goals as goal

pub returns : goal.returns
returns g c =
    let t = c.args.task.now in
    let m = t.measure.now in
    let laws = g.met.M.Measure in
    let P = g.D.StateModel.meaning t.model.now in
    let keys = g.M.Measure.keys m in
    let total = g.M.Measure.total m in
    let Q = given t in
    let F = subst (λ n. Fair (task P keys n)) (sym c.requires.counted) (fair P (g.D.StateModel.lawful t.model.now) keys total (laws.below m) (laws.some m)) in
    let nodes = c.args.nodes.now in
    let marks = c.args.marks.now in
    let h = snap c.advance.new.nodes c.advance.new.marks c.advance.new.progress in
    let is : h ≡ at_end Q nodes marks = c.advance.ensures ∙ ap (advanced Q Q.count) c.begin-progress.ensures in
    record {
      value = is;
      within = end_within Q F nodes marks c.requires.nodes c.requires.marks c.requires.start h is;
      findings = end_findings Q F nodes marks c.requires.nodes c.requires.marks c.requires.start h is _ (refl);
    }
