-- What each call on a run replies and leaves, for all arguments and all contents of the memory. Assumes nothing.
use Rattle.std.specs.Prelude.{ℕ, ◌+◌, min, Bool, true, false, cond, not, ◌&&◌, List, [], ◌++◌, length, take, drop, is_some, Some, None, Ok, Err, Option, Result, ◌==◌, nat_lt}
use Rattle.domain.specs.Model.{Meaning}
use Rattle.domain.specs.declared.refusal.Refusal.{Refusal}
use Rattle.domain.specs.declared.refusal.Refusal.TheVariants.{AtTarget, SearchOpen, ManySearches, FewPlaces, ForeignClaim, PlanFull, BrokenWay}
use Rattle.sketch.specs.Subproblem.{subproblem}
use Rattle.planner.specs.Search.{Snapshot}
use Rattle.planner.specs.Stepwise.{UnderWay, started, lacks, worked_on, moved_on}
use Rattle.planner.specs.Way.{actions_of, way_holds, end_of}
use Rattle.planner.specs.Whole.{outcome_of}
use Rattle.planner.specs.declared.node.Node.{Node}
use Rattle.planner.specs.declared.node.Outcome.{Outcome}
use Rattle.planner.specs.declared.node.Outcome.TheVariants.{Found, Exhausted, Open}
use Rattle.planner.specs.declared.node.Way.{Way}
use Rattle.runs.specs.Run.{View}
use Rattle.runs.specs.declared.claim.Phase.{Phase}
use Rattle.runs.specs.declared.claim.Phase.TheVariants.{Working, Met, Ended}
use Rattle.runs.specs.declared.claim.Refused.{Refused}
use Rattle.runs.specs.declared.claim.Progressed.{Progressed}
use Rattle.runs.specs.declared.claim.Progressed.TheVariants.{Open as Opened, Found as Finds, Exhausted as Exhausts}
use Rattle.runs.specs.declared.claim.Work.{Work}

-- what a call leaves: with a fault what was there before
abbrev pub unless : {X : Type 0} → Option Refusal → X → X → X
unless (Some e) before after = before
unless None before after = after

-- what a call replies, and what it replies to a claim, which a refusal hands back
abbrev pub told : {X : Type 0} → Option Refusal → X → Result X Refusal
told (Some e) x = Err e
told None x = Ok x

abbrev pub handed : {X C : Type 0} → Option Refusal → C → X → Result X (Refused C)
handed (Some e) c x = Err (record { refusal = e; claim = c })
handed None c x = Ok x

-- a reply, with the claim that is handed back where it is a refusal
abbrev pub handed_back : {X C : Type 0} → Result X Refusal → C → Result X (Refused C)
handed_back (Ok x) c = Ok x
handed_back (Err e) c = Err (record { refusal = e; claim = c })

-- a ticket is for a search that goes on, a find for one that found a way, a stub for one that is exhausted
abbrev pub phase_of : Outcome → Phase
phase_of Open = Working
phase_of (Found w) = Met
phase_of Exhausted = Ended

abbrev pub same_phase : Phase → Phase → Bool
same_phase Working Working = true
same_phase Working Met = false
same_phase Working Ended = false
same_phase Met Working = false
same_phase Met Met = true
same_phase Met Ended = false
same_phase Ended Working = false
same_phase Ended Met = false
same_phase Ended Ended = true

-- a claim of this kind and number is of the open search: one is open, and the kind and the number are the run's latest
abbrev pub claims : {M : Type 0} → Option (UnderWay M) → ℕ → Phase → ℕ → Bool
claims None latest kind number = false
claims (Some u) latest kind number = number == latest && same_phase kind (phase_of u.outcome)

-- fewer places for states or marks than the open search has keys
abbrev pub few_for : {M : Type 0} → Option (UnderWay M) → ℕ → ℕ → Option Refusal
few_for None places marks = None
few_for (Some u) places marks = cond (lacks u.count places marks) (Some FewPlaces) None

-- what is open, once it stands as g
abbrev pub moved : {M S : Type 0} → Option (UnderWay M) → Snapshot S → Option (UnderWay M)
moved None g = None
moved (Some u) g = Some (moved_on u g)

-- the search of P that is open, and its memory, after at most n more expansions
abbrev pub worked_open : {M S : Type 0} → Meaning S → (M → List ℕ → List ℕ) → ℕ → Option (UnderWay M) → List (Node S) → List ℕ → Snapshot S
worked_open P keys n None nodes marks = record { nodes = nodes; marks = marks; expanded = 0; kept = 0; met = None }
worked_open P keys n (Some u) nodes marks = worked_on P keys n u nodes marks

-- the claim that work gives back
abbrev pub given : Outcome → ℕ → Progressed
given Open number = Opened number
given (Found w) number = Finds number w.length
given Exhausted number = Exhausts number

-- how many states the open search has expanded
abbrev pub spent : {M : Type 0} → Option (UnderWay M) → ℕ
spent None = 0
spent (Some u) = u.expanded

-- how many keys the measure of the open search has
abbrev pub key_count : {M : Type 0} → Option (UnderWay M) → ℕ
key_count None = 0
key_count (Some u) = u.count

-- the way that a search found
abbrev pub way_in : Outcome → Option Way
way_in Open = None
way_in (Found w) = Some w
way_in Exhausted = None

-- the way that the open search found
abbrev pub found_way : {M : Type 0} → Option (UnderWay M) → Option Way
found_way None = None
found_way (Some u) = way_in u.outcome

-- the actions of a way, and how many the search said they are
abbrev pub way_actions : {S : Type 0} → List (Node S) → Option Way → List ℕ
way_actions nodes None = []
way_actions nodes (Some w) = actions_of nodes w

abbrev pub way_length : Option Way → ℕ
way_length None = 0
way_length (Some w) = w.length

-- a list that has a segment from its place n on, and is else as it was
abbrev pub placed : List ℕ → ℕ → List ℕ → List ℕ
placed plan n segment = take n plan ++ (segment ++ drop (n + length segment) plan)

module _ {S M : Type 0} (v : View S M) where
  -- the problem that is searched: the subproblem at the current state
  abbrev pub subgoal : Meaning S
  subgoal = subproblem v.problem v.sketch v.current

  -- the run with another open search
  abbrev pub searching : Option (UnderWay M) → View S M
  searching o = record {
    problem = v.problem;
    sketch = v.sketch;
    current = v.current;
    effort = v.effort;
    length = v.length;
    searches = v.searches;
    opened = o;
  }

  -- Begin is refused while a search is open, after 65,535 searches, at a target of the model, and with fewer places for
  -- states or marks than keys, in this order.
  abbrev pub begin_fault : ℕ → ℕ → ℕ → Option Refusal
  begin_fault n places marks =
      cond (is_some v.opened) (Some SearchOpen)
      (cond (not (nat_lt v.searches 65535)) (Some ManySearches)
      (cond (v.problem.target v.current) (Some AtTarget)
      (cond (lacks n places marks) (Some FewPlaces) None)))

  -- a search by the measure m of n keys is open, under the next number
  abbrev pub begun_run : M → ℕ → View S M
  begun_run m n = record {
    problem = v.problem;
    sketch = v.sketch;
    current = v.current;
    effort = v.effort;
    length = v.length;
    searches = v.searches + 1;
    opened = Some (started m n);
  }

  abbrev pub begun_ticket : ℕ
  begun_ticket = v.searches + 1

  -- Work is refused by a claim that is no ticket of the open search, and with fewer places for states or marks than keys,
  -- in this order.
  abbrev pub work_fault : ℕ → ℕ → ℕ → Option Refusal
  work_fault number places marks =
      cond (claims v.opened v.searches Working number) (few_for v.opened places marks) (Some ForeignClaim)

  -- the search and its memory after at most n more expansions; without an open search the memory stays
  abbrev pub worked : (M → List ℕ → List ℕ) → ℕ → List (Node S) → List ℕ → Snapshot S
  worked keys n nodes marks = worked_open subgoal keys n v.opened nodes marks

  abbrev pub worked_run : Snapshot S → View S M
  worked_run g = searching (moved v.opened g)

  -- a ticket, a find with the length of the way, or a stub, and the counts of the whole search
  abbrev pub worked_reply : ℕ → Snapshot S → Work
  worked_reply number g = record {
    claim = given (outcome_of g.nodes g.met g.expanded g.kept) number;
    expanded = g.expanded;
    kept = g.kept;
  }

  -- A claim is spent: the open search ends, and its expansions belong to the effort.
  abbrev pub closed_run : View S M
  closed_run = record {
    problem = v.problem;
    sketch = v.sketch;
    current = v.current;
    effort = v.effort + spent v.opened;
    length = v.length;
    searches = v.searches;
    opened = None;
  }

  -- Abandon is refused by a claim that is not of the open search.
  abbrev pub abandon_fault : Phase → ℕ → Option Refusal
  abandon_fault kind number = cond (claims v.opened v.searches kind number) None (Some ForeignClaim)

  -- A way is not adopted with fewer places for states than keys, where the plan list has too few free places, or where the
  -- way has another length, has a link not to a lower number, does not run or ends at no target, in this order. Places of
  -- the list past 4,096 stay unused.
  abbrev pub segment_fault : Way → ℕ → List (Node S) → ℕ → Option Refusal
  segment_fault w count nodes places =
      cond (nat_lt (length nodes) count) (Some FewPlaces)
      (cond (nat_lt (min places 4096) (v.length + w.length)) (Some PlanFull)
      (cond (way_holds subgoal nodes w) None (Some BrokenWay)))

  abbrev pub adopt_by : Option Way → ℕ → List (Node S) → ℕ → Option Refusal
  adopt_by None count nodes places = Some ForeignClaim
  adopt_by (Some w) count nodes places = segment_fault w count nodes places

  -- Adopt is refused by a claim that is no find of the open search, and else where its way is not adopted.
  abbrev pub adopt_fault : ℕ → List (Node S) → ℕ → Option Refusal
  adopt_fault number nodes places =
      cond (claims v.opened v.searches Met number) (adopt_by (found_way v.opened) (key_count v.opened) nodes places) (Some ForeignClaim)

  -- the run once a segment of n steps is adopted: its end is current, and the search is closed
  abbrev pub adopted_run : List ℕ → ℕ → View S M
  adopted_run segment n = record {
    problem = v.problem;
    sketch = v.sketch;
    current = end_of v.problem v.current segment;
    effort = v.effort + spent v.opened;
    length = v.length + n;
    searches = v.searches;
    opened = None;
  }
