use Rattle.std.proofs.Common.{◌≡◌, ◌+◌, ◌<◌, ◌≤◌, length}
use Rattle.planner.specs.Way.{way_to, root}
use Rattle.planner.proofs.way.trace_back.Given as goal

-- the links taken and those from here are all of them, and end at the same number
abbrev pub invariant-loop-parent : goal.invariant-loop-parent
invariant-loop-parent g l =
    (l.root < length l.nodes) × (l.links + l.root ≤ l.from)
    × (length (way_to l.nodes l.from l.from) ≡ l.links + length (way_to l.nodes l.root l.root))
    × (root l.nodes l.from l.from ≡ root l.nodes l.root l.root)

abbrev pub decreases-loop-parent : goal.decreases-loop-parent
decreases-loop-parent g l = l.root
