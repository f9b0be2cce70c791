use Rattle.std.proofs.Common.{◌≡◌, ◌+◌, ◌<◌, ◌≤◌, length, sym, ap, ◌∙◌, subst, arith}
use Rattle.planner.specs.Way.{parent_of, way_to, root}
use Rattle.planner.proofs.Links.{lower_some, lower_none, length_way_lower, root_lower, way_to_end, root_end}
use Rattle.planner.proofs.way.trace_back.Goals as goal

-- the invariant at the number before
pub loop-parent-preserved : goal.loop-parent-preserved
loop-parent-preserved g c =
    let nodes = c.args.nodes.now in
    let at = c.loop-parent.root in
    let inv = c.loop-parent.invariant in
    let taken = lower_some nodes at c.in-Some.parent (sym c.in-Some.ensures) in
    let long = length_way_lower nodes at taken.1 in
    let counted : length (way_to nodes c.args.from c.args.from) ≡ c.loop-parent.links + 1 + length (way_to nodes (parent_of nodes at) (parent_of nodes at)) = omega (arith, inv.2, long) in
    subst
    (λ p.
    (p < length nodes) × (c.loop-parent.links + 1 + p ≤ c.args.from)
    × (length (way_to nodes c.args.from c.args.from) ≡ c.loop-parent.links + 1 + length (way_to nodes p p))
    × (root nodes c.args.from c.args.from ≡ root nodes p p))
    taken.0
    (omega (arith, inv.0, taken.1), omega (arith, inv.1, taken.1), counted, inv.3 ∙ root_lower nodes at taken.1)

-- at the end no link is left to take
pub returns : goal.returns
returns g c =
    let nodes = c.args.nodes.now in
    let at = c.loop-parent.root in
    let inv = c.loop-parent.invariant in
    let past = lower_none nodes at (sym c.lower.ensures ∙ c.in_default.is) in
    let none = ap length (way_to_end nodes at past) in
    record { links = omega (arith, inv.2, none); root = sym (inv.3 ∙ root_end nodes at past); few = omega (arith, inv.1) }
