-- What stands after every list of calls on a run. Assumes nothing.
use Rattle.std.specs.Prelude.{◌≡◌, ℕ, ◌<◌, ◌≤◌, Bool, List, [], ◌∷◌, map, length, take, Some, sum, ◌≢◌, slice_index_or}
use Rattle.std.specs.List.{AllByRecursion}
use Rattle.domain.specs.Model.{Meaning}
use Rattle.sketch.specs.Sketch.{valuation}
use Rattle.sketch.specs.Subproblem.{subproblem}
use Rattle.sketch.specs.declared.sketch.Sketch.{Sketch}
use Rattle.planner.specs.Search.{Task, task}
use Rattle.planner.specs.Stepwise.{UnderWay}
use Rattle.planner.specs.Width.{Leads, Target, Admissible}
use Rattle.runs.specs.Run.{View}
use Rattle.runs.specs.History.{Segment, Told, Drained, Lent, Log, steps, Given}

-- the list that the newest adoption left
abbrev pub plan_list : List Lent → List ℕ
plan_list [] = []
plan_list (x ∷ xs) = x.after

-- the run alone wrote its plan list: each adoption was lent what the one before it left
abbrev pub Alone : List Lent → Type 0
Alone [] = Unit {0}
Alone (x ∷ []) = Unit {0}
Alone (x ∷ (y ∷ ys)) = (x.before ≡ y.after) × Alone (y ∷ ys)

module _ {S M : Type 0} (keys : M → List ℕ → List ℕ) (total : M → ℕ) (P : Meaning S) (k : Sketch) where
  -- what a search from s on by the measure m is given: the subproblem at s, and the measure's keys and count
  abbrev pub search_task : S → M → Task S
  search_task s m = task (subproblem P k s) (keys m) (total m)

  -- no set of keys is admissible
  abbrev pub Excluded : Drained S M → Type 0
  Excluded d = (T : ℕ → Bool) → Admissible (search_task d.origin d.measure) T → ⊥

  -- The segment has the length that work replied; and if its search's measure has an admissible set of keys for its
  -- subproblem, no way to a target of that subproblem is shorter.
  abbrev pub ShortestSegment : Segment S M → Type 0
  ShortestSegment g =
      (length g.actions ≡ g.replied)
      × ((T : ℕ → Bool) → Admissible (search_task g.start g.measure) T
      → (ys : List ℕ) (t : S) → Leads (subproblem P k g.start) g.start ys t → Target (search_task g.start g.measure) t
      → g.replied ≤ length ys)

  -- no more states are kept than the measure has keys
  abbrev pub WithinKeys : Told M → Type 0
  WithinKeys t = t.kept ≤ total t.measure

  -- the starts of the segments, in their order
  abbrev pub start_of : List (Segment S M) → ℕ → S
  start_of gs i = slice_index_or (map (λ g. g.start) gs) i P.start

  -- no two segments have starts that agree in every feature
  abbrev pub StartsApart : List (Segment S M) → Type 0
  StartsApart gs =
      (i j : ℕ) → i < j → j < length gs
      → valuation k (P.truths (start_of gs i)) ≢ valuation k (P.truths (start_of gs j))

-- of a run that stands as v and an observer's log
pub record Findings {S M : Type 0} (keys : M → List ℕ → List ℕ) (total : M → ℕ) (v : View S M) (l : Log S M) : Type 0 where
  -- exclusion: a search that work called exhausted has no admissible set of keys
  pub exclusion : AllByRecursion (Excluded keys total v.problem v.sketch) l.exhausted
  -- shortest: of every adopted segment
  pub shortest : AllByRecursion (ShortestSegment keys total v.problem v.sketch) l.segments
  -- kept: the open search keeps no more states than its measure has keys, and no reply of work says more
  pub keeping : (u : UnderWay M) → v.opened ≡ Some u → u.kept ≤ total u.measure
  pub kept : AllByRecursion (WithinKeys keys total v.problem v.sketch) l.replies
  -- distinct starts
  pub distinct : StartsApart keys total v.problem v.sketch l.segments
  -- plan: the steps of the segments lead from the model's start to the state that the run tells, and it tells their number;
  pub leads : Leads v.problem v.problem.start (steps l.segments) v.current
  pub long : v.length ≡ length (steps l.segments)
  -- and where the run alone wrote its plan list, they are what the list begins with
  pub plan : Alone l.lists → take v.length (plan_list l.lists) ≡ steps l.segments
  -- effort: the expanded states of all ended searches
  pub effort : v.effort ≡ sum l.ended

-- after every list of calls on a run that stands as `first`
abbrev pub Always : {S M : Type 0} → (M → List ℕ → List ℕ) → (M → ℕ) → View S M → Type 0
Always {S} {M} keys total first = (v : View S M) (l : Log S M) → Given keys total first v l → Findings keys total v l
