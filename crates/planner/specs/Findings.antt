-- What the reply of a search says about the problem, where the search alone wrote its memory. Assumes nothing.
use Rattle.std.specs.Prelude.{◌≡◌, ℕ, ◌<◌, ◌≤◌, Bool, true, List, length}
use Rattle.novelty.specs.Marks.{novel}
use Rattle.planner.specs.declared.node.Node.{Node}
use Rattle.planner.specs.declared.node.Way.{Way}
use Rattle.planner.specs.declared.node.Outcome.TheVariants.{Found, Exhausted, Open}
use Rattle.planner.specs.declared.node.Reply.{Reply}
use Rattle.planner.specs.Search.{Task, Snapshot, keys_of, state_at, tried_from, goes_on}
use Rattle.planner.specs.Way.{actions_of, way_holds}
use Rattle.planner.specs.Whole.{after}
use Rattle.planner.specs.Width.{Leads, Target, Admissible}

-- of a reply, and the nodes as they stand then
pub record Findings {S : Type 0} (Q : Task S) (nodes : List (Node S)) (r : Reply) : Type 0 where
  -- exclusion: where the search ends exhausted, no set of keys is admissible
  pub exclusion : r.outcome ≡ Exhausted → (T : ℕ → Bool) → Admissible Q T → ⊥
  -- where it finds a way, the way read back from the nodes leads from the start to a target,
  pub runs : (w : Way) → r.outcome ≡ Found w → (t : S) × Leads Q.problem Q.problem.start (actions_of nodes w) t × Target Q t
  -- has the replied length,
  pub long : (w : Way) → r.outcome ≡ Found w → length (actions_of nodes w) ≡ w.length
  -- and is not refused when it is written from these nodes;
  pub holds : (w : Way) → r.outcome ≡ Found w → way_holds Q.problem nodes w ≡ true
  -- and if some set of keys is admissible, no way to a target is shorter
  pub shortest : (w : Way) → r.outcome ≡ Found w → (T : ℕ → Bool) → Admissible Q T
      → (ys : List ℕ) (t : S) → Leads Q.problem Q.problem.start ys t → Target Q t → w.length ≤ length ys
  -- kept: no more states are kept than the measure has keys, and none is expanded that was not kept
  pub kept : r.kept ≤ Q.count
  pub expanded : r.expanded ≤ r.kept

module _ {S : Type 0} (Q : Task S) (nodes : List (Node S)) (marks : List ℕ) where
  -- the search after n expansions and d tries of actions in the number expanded next
  abbrev pub during : ℕ → ℕ → Snapshot S
  during n d =
      tried_from Q (state_at Q.problem.start (after Q nodes marks n).nodes (after Q nodes marks n).expanded) (after Q nodes marks n) 0 d

  -- Of a whole search that is not refused: it does not end open, its reply says what it found, and at every point a
  -- novel state finds a place.
  pub record WholeFindings (end : List (Node S)) (r : Reply) : Type 0 where
    pub ends : r.outcome ≡ Open → ⊥
    pub findings : Findings Q end r
    pub place : (n d : ℕ) → goes_on (after Q nodes marks n).met (after Q nodes marks n).expanded (after Q nodes marks n).kept ≡ true
        → (t : S) → novel (keys_of Q t) (during n d).marks ≡ true → (during n d).kept < Q.count
