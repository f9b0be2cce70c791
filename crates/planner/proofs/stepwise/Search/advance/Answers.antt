use Rattle.std.proofs.Common.{◌≤◌, ltb, length, arith}
use Rattle.std.proofs.lemmas.Bool.{or_parts, ltb-false}
use Rattle.planner.specs.Search.{task}
use Rattle.planner.proofs.Bounds.{bounds_after, reply_bounds, within_from}
use Rattle.planner.proofs.stepwise.Search.advance.Goals as goal

pub reply-told-requires : goal.reply-told-requires
reply-told-requires g c =
    let s = c.self.inside in
    let Q = task (g.D.StateModel.meaning c.args.model.now) (g.M.Measure.keys s.measure) s.count in
    let after = bounds_after Q _ _ _ _ _ s.progress _ c.self.invariant c.advance.ensures in
    let enough = or_parts (ltb (length c.args.nodes.now) s.count) (ltb (length c.args.marks.now) s.count) c.in_ok-check_places.ensures in
    let long : s.count ≤ length c.advance.new.nodes = let le = ltb-false _ _ enough.0 in omega arith in
    within_from s.count _ _ after.within long

pub invariant_of-self : goal.invariant_of-self
invariant_of-self g c =
    let s = c.self.inside in
    let Q = task (g.D.StateModel.meaning c.args.model.now) (g.M.Measure.keys s.measure) s.count in
    bounds_after Q _ _ _ _ _ s.progress _ c.self.invariant c.advance.ensures

pub returns-clause-told : goal.returns-clause-told
returns-clause-told g c =
    let s = c.self.inside in
    let Q = task (g.D.StateModel.meaning c.args.model.now) (g.M.Measure.keys s.measure) s.count in
    let after = bounds_after Q _ _ _ _ _ s.progress _ c.self.invariant c.advance.ensures in
    reply_bounds s.count c.advance.new.nodes c.advance.new.progress _ after c.reply-told.ensures

pub returns-clause-bounds : goal.returns-clause-bounds
returns-clause-bounds g c =
    let s = c.self.inside in
    let Q = task (g.D.StateModel.meaning c.args.model.now) (g.M.Measure.keys s.measure) s.count in
    bounds_after Q _ _ _ _ _ s.progress _ c.self.invariant c.advance.ensures
