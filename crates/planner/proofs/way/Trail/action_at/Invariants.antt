use Rattle.std.proofs.Common.{◌≡◌, ◌+◌, ◌-◌, ◌<◌, [], ◌∷◌, ◌++◌, length, take}
use Rattle.planner.specs.Way.{way_to, actions_of}
use Rattle.planner.proofs.way.Trail.action_at.Given as goal

-- the way's front up to here is the way to the link's number, and the link's action
abbrev pub invariant-loop : goal.invariant-loop
invariant-loop g l =
    let nodes = l.self.nodes.now in
    let way = l.self.way.now in
    (l.link.parent < length nodes)
    × (take (way.length + l.step - l.counter) (actions_of nodes way) ≡ way_to nodes l.link.parent l.link.parent ++ (l.link.action ∷ []))
