use Rattle.std.proofs.Common.{◌+◌, ◌-◌, ◌*◌, ◌<◌, Bool, length}
use Rattle.std.specs.List.{AllByRecursion}
use Rattle.novelty.specs.Walk.{keys_behind, Tries}
use Rattle.novelty.proofs.tuples.walk.Reached.+walk.Given as goal

abbrev pub decreases-any_key : goal.decreases-any_key
decreases-any_key g l = 2 * (l.self.measure.now.width - l.self.size) + 1

abbrev pub decreases-any_longer : goal.decreases-any_longer
decreases-any_longer g l = 2 * (l.self.measure.now.width - l.self.size)

-- no key was passed so far; what the calls at the keys that are left answer and leave, those at all of them do
abbrev pub invariant-any_longer-loop-atom : goal.invariant-any_longer-loop-atom
invariant-any_longer-loop-atom g l =
    AllByRecursion (λ a. a < l.self.measure.now.atoms) l.rest
    × ((b : Bool) (q : _)
    → Tries g.F.FnMut l.test (keys_behind l.self l.rest) b q → Tries g.F.FnMut l.initial.test (keys_behind l.self l.self.rest.now) b q)

abbrev pub decreases-any_longer-loop-atom : goal.decreases-any_longer-loop-atom
decreases-any_longer-loop-atom g l = length l.rest
