-- One search, case by case: what each part of it replies and leaves, for every content of the memory.
-- Assumes nothing.
use Rattle.std.specs.Prelude.{ℕ, zero, suc, ◌+◌, Bool, cond, not, ◌&&◌, List, ◌++◌, drop, replicate, is_some, Some, None, Option, nat_lt, slice_index_or, slice_set}
use Rattle.domain.specs.Model.{Meaning}
use Rattle.domain.specs.declared.model.StateModel.{Ghosts as Model}
use Rattle.novelty.specs.declared.measure.Measure.{Ghosts as Measure}
use Rattle.novelty.specs.Marks.{novel, marked}
use Rattle.planner.specs.declared.node.Node.{Node}
use Rattle.planner.specs.declared.node.Link.{Link}
use Rattle.planner.specs.declared.node.Progress.{Progress}
use Rattle.planner.specs.declared.task.Task.{Task as Held}

-- What a search is given: the problem that it searches, and a measure by its keys of a set of atoms and its count.
pub record Task (S : Type 0) : Type 0 where
  pub problem : Meaning S
  pub keys : List ℕ → List ℕ
  pub count : ℕ

abbrev pub task : {S : Type 0} → Meaning S → (List ℕ → List ℕ) → ℕ → Task S
task P keys count = record { problem = P; keys = keys; count = count }

-- the same, as the kernel holds it
abbrev pub given : {D M S : Type 0} {model : Model D S} {measure : Measure M} → Held D M S model measure → Task S
given {model = model} {measure = measure} t = task (model.meaning t.model.now) (measure.keys t.measure.now) t.count

-- What a search holds between two calls: the nodes and marks, how many states are expanded and kept, and the
-- link that met a target, once one did. Numbers from `expanded` below `kept` wait; the first of them is the next
-- to be expanded.
pub record Snapshot (S : Type 0) : Type 0 where
  pub nodes : List (Node S)
  pub marks : List ℕ
  pub expanded : ℕ
  pub kept : ℕ
  pub met : Option Link

-- nodes, marks and progress, together
abbrev pub snap : {S : Type 0} → List (Node S) → List ℕ → Progress → Snapshot S
snap nodes marks p = record { nodes = nodes; marks = marks; expanded = p.expanded; kept = p.kept; met = p.met }

abbrev pub node : {S : Type 0} → S → ℕ → ℕ → Node S
node s e a = record { state = s; parent = e; action = a }

abbrev pub link : ℕ → ℕ → Link
link e a = record { parent = e; action = a }

-- the state of number i; past the nodes, s
abbrev pub state_at : {S : Type 0} → S → List (Node S) → ℕ → S
state_at s nodes i = (slice_index_or nodes i (node s 0 0)).state

-- the search goes on: no target is met yet, and a state waits
abbrev pub goes_on : Option Link → ℕ → ℕ → Bool
goes_on met expanded kept = not (is_some met) && nat_lt expanded kept

module _ {S : Type 0} (Q : Task S) where
  -- the keys of a state
  abbrev pub keys_of : S → List ℕ
  keys_of s = Q.keys (Q.problem.truths s)

  -- t, reached by action a from the number under expansion, is kept under the next number and its keys are marked
  abbrev pub keep : Snapshot S → ℕ → S → Snapshot S
  keep g a t = record {
    nodes = slice_set g.nodes g.kept (node t g.expanded a);
    marks = marked (keys_of t) g.marks;
    expanded = g.expanded;
    kept = g.kept + 1;
    met = g.met;
  }

  -- action a led from the number under expansion to a target
  abbrev pub meet : Snapshot S → ℕ → Snapshot S
  meet g a = record {
    nodes = g.nodes;
    marks = g.marks;
    expanded = g.expanded;
    kept = g.kept;
    met = Some (link g.expanded a);
  }

  -- t was reached by action a: a target is met; else a novel state is kept, if there is a place; else it is dropped
  abbrev pub arrive : Snapshot S → ℕ → S → Snapshot S
  arrive g a t =
      cond (Q.problem.target t) (meet g a)
      (cond (novel (keys_of t) g.marks && nat_lt g.kept Q.count) (keep g a t) g)

  -- action a is tried in the state s of the number under expansion
  abbrev pub tried : S → Snapshot S → ℕ → Snapshot S
  tried s g a = cond (Q.problem.applies s a) (arrive g a (Q.problem.next s a)) g

  -- the d actions from a on are tried in rising order, until a target is met
  unfoldable pub tried_from : S → Snapshot S → ℕ → ℕ → Snapshot S
  tried_from s g a zero = g
  tried_from s g a (suc d) = cond (is_some (tried s g a).met) (tried s g a) (tried_from s (tried s g a) (a + 1) d)

  abbrev pub one_more_expanded : Snapshot S → Snapshot S
  one_more_expanded g = record {
    nodes = g.nodes;
    marks = g.marks;
    expanded = g.expanded + 1;
    kept = g.kept;
    met = g.met;
  }

  -- the lowest waiting number is expanded
  abbrev pub expand_next : Snapshot S → Snapshot S
  expand_next g =
      one_more_expanded (tried_from (state_at Q.problem.start g.nodes g.expanded) g 0 Q.problem.actions)

  -- at most n states are expanded
  unfoldable pub advanced : ℕ → Snapshot S → Snapshot S
  advanced zero g = g
  advanced (suc n) g = cond (goes_on g.met g.expanded g.kept) (advanced n (expand_next g)) g

  -- the start is kept as number 0, its keys alone are marked, and it waits
  abbrev pub begun : List (Node S) → List ℕ → Snapshot S
  begun nodes marks = record {
    nodes = slice_set nodes 0 (node Q.problem.start 0 0);
    marks = marked (keys_of Q.problem.start) (replicate Q.count 0 ++ drop Q.count marks);
    expanded = 0;
    kept = 1;
    met = None;
  }
