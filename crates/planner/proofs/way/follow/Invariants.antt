use Rattle.std.proofs.Common.{◌≡◌, drop}
use Rattle.planner.specs.Way.{end_of}
use Rattle.planner.proofs.way.follow.Given as goal

-- what is left to follow from here leads where the whole leads
abbrev pub invariant-loop-action : goal.invariant-loop-action
invariant-loop-action g l =
    end_of (g.D.StateModel.meaning l.model) l.state (drop l.action-index l.actions)
    ≡ end_of (g.D.StateModel.meaning l.model) l.initial.state l.actions
