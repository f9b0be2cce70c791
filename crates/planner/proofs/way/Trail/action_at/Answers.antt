use Rattle.std.proofs.Common.{◌≡◌, suc, ◌+◌, ◌-◌, ◌<◌, length, take, ap, ◌∙◌, ap₂, arith}
use Rattle.planner.specs.Search.{link}
use Rattle.planner.specs.Way.{parent_of, action_of, actions_of}
use Rattle.planner.proofs.Links.{parent_read, action_read, back_one}
use Rattle.planner.proofs.way.Trail.action_at.Goals as goal

pub loop-preserved : goal.loop-preserved
loop-preserved g c =
    let t = c.args.self.now in
    let nodes = t.nodes.now in
    let whole = actions_of nodes t.way.now in
    let at = c.loop.link.parent in
    let inv = c.loop.invariant in
    let n = t.way.now.length + c.args.step - (c.loop.counter + 1) in
    let more : suc n ≡ t.way.now.length + c.args.step - c.loop.counter = omega arith in
    let some : 0 < n = omega arith in
    let within : n < length whole = omega (arith, t.long) in
    let back = back_one nodes whole n at c.loop.link.action within some (ap (λ k. take k whole) more ∙ inv.1) in
    let read = c.index-self-link.result in
    let is : c.link-link.result ≡ link (parent_of nodes at) (action_of nodes at) =
    c.link-link.ensures ∙ ap₂ link (parent_read nodes at read inv.0) (action_read nodes at read inv.0) in
    rw is (omega (arith, back.0, inv.0), back.1)
