-- What holds of a run and an observer's log after every list of calls, and that it says what was found. Assumes nothing.
use Rattle.std.proofs.Common.{◌≡◌, ℕ, suc, ◌<◌, ◌≤◌, true, false, ◌⊎◌, List, length, take, Some, None, sum, Option, refl, subst, arith}
use Rattle.std.specs.List.{AllByRecursion}
use Rattle.domain.specs.Model.{Meaning, Lawful, Rising}
use Rattle.sketch.specs.Sketch.{accepts_step}
use Rattle.sketch.specs.Subproblem.{subproblem, subproblem_lawful}
use Rattle.sketch.specs.declared.sketch.Sketch.{Sketch}
use Rattle.sketch.proofs.States.{states_apart}
use Rattle.planner.specs.Stepwise.{UnderWay, resumed}
use Rattle.planner.specs.Whole.{outcome_of}
use Rattle.planner.specs.Width.{Leads}
use Rattle.planner.specs.declared.node.Outcome.TheVariants.{Found}
use Rattle.planner.specs.declared.node.Way.{Way}
use Rattle.planner.proofs.Between.{Between}
use Rattle.planner.proofs.Findings.{between_findings}
use Rattle.planner.proofs.Expanding.{Fair}
use Rattle.planner.proofs.Lawful.{fair}
use Rattle.runs.specs.Findings.{plan_list, Alone, search_task, Excluded, ShortestSegment, WithinKeys, start_of, Findings}
use Rattle.runs.specs.History.{Watch, Log, steps, reached}
use Rattle.runs.specs.Run.{View}
use Rattle.runs.proofs.Ways.{leads_end}

-- no state is a subgoal of itself
pub no_standstill : (k : Sketch) (truths : List ℕ) → accepts_step k truths truths ≡ true → ⊥
no_standstill k truths h = states_apart k (λ _. truths) 1 (λ _ _. h) 0 1 (omega arith) (omega arith) refl

module _ {S M : Type 0} (keys : M → List ℕ → List ℕ) (total : M → ℕ)
    (below : (m : M) (atoms : List ℕ) → Rising atoms → AllByRecursion (λ q. q < total m) (keys m atoms))
    (some : (m : M) (atoms : List ℕ) → Rising atoms → 1 ≤ length (keys m atoms)) where
  -- the laws of the model and of the measure, as a search from s on uses them
  pub fair_search : (P : Meaning S) (k : Sketch) (s : S) (m : M) → Lawful P → Fair (search_task keys total P k s m)
  fair_search P k s m lawful = fair (subproblem P k s) (subproblem_lawful P k s lawful) (keys m) (total m) (below m) (some m)

  -- the open search, from s on, stands as the observer has noted, and holds what a search holds between two advances
  pub record Hunting (P : Meaning S) (k : Sketch) (s : S) (lawful : Lawful P) (u : UnderWay M) (w : Watch S M) : Type 0 where
    pub measure : u.measure ≡ w.measure
    pub count : u.count ≡ total u.measure
    pub expanded : u.expanded ≡ w.expanded
    pub outcome : u.outcome ≡ outcome_of w.nodes u.met u.expanded u.kept
    pub replied : (x : Way) → u.outcome ≡ Found x → w.replied ≡ x.length
    pub between : Between (search_task keys total P k s u.measure) (fair_search P k s u.measure lawful) (resumed u w.nodes w.marks)
    pub off_target : P.target s ≡ false

  -- a search is open exactly when the observer has noted one
  abbrev pub Watching : (P : Meaning S) (k : Sketch) (s : S) → Lawful P → Option (UnderWay M) → Option (Watch S M) → Type 0
  Watching P k s lawful None None = Unit {0}
  Watching P k s lawful None (Some w) = ⊥
  Watching P k s lawful (Some u) None = ⊥
  Watching P k s lawful (Some u) (Some w) = Hunting P k s lawful u w

  pub record Standing (v : View S M) (l : Log S M) : Type 0 where
    pub lawful : Lawful v.problem
    pub watching : Watching v.problem v.sketch v.current lawful v.opened l.watch
    -- each start but the first is a subgoal of the one before it,
    pub linked : (i : ℕ) → suc i < length l.segments
        → accepts_step v.sketch (v.problem.truths (start_of keys total v.problem v.sketch l.segments i))
        (v.problem.truths (start_of keys total v.problem v.sketch l.segments (suc i)))
        ≡ true
    -- and the current state of the last one, or a target of the model
    pub last : (n : ℕ) → length l.segments ≡ suc n
        → (v.problem.target v.current ≡ true)
        ⊎ (accepts_step v.sketch (v.problem.truths (start_of keys total v.problem v.sketch l.segments n)) (v.problem.truths v.current) ≡ true)
    pub exclusion : AllByRecursion (Excluded keys total v.problem v.sketch) l.exhausted
    pub shortest : AllByRecursion (ShortestSegment keys total v.problem v.sketch) l.segments
    pub kept : AllByRecursion (WithinKeys keys total v.problem v.sketch) l.replies
    pub leads : Leads v.problem v.problem.start (steps l.segments) v.current
    pub long : v.length ≡ length (steps l.segments)
    pub plan : Alone l.lists → take v.length (plan_list l.lists) ≡ steps l.segments
    pub effort : v.effort ≡ sum l.ended

  -- the current state is where the segments lead
  pub current_reached : (v : View S M) (l : Log S M) → Standing v l → v.current ≡ reached v.problem l
  current_reached v l X = leads_end v.problem (steps l.segments) v.problem.start v.current X.leads

  -- while a search is open, the observer has noted one, and it stands as noted
  pub hunted : (v : View S M) (l : Log S M) (X : Standing v l) (u : UnderWay M) → v.opened ≡ Some u
      → (w : Watch S M) × ((l.watch ≡ Some w) × Hunting v.problem v.sketch v.current X.lawful u w)
  hunted v l X u is = go l.watch refl (subst (λ o. Watching v.problem v.sketch v.current X.lawful o l.watch) is X.watching)
    where
      go : (x : Option (Watch S M)) → l.watch ≡ x → Watching v.problem v.sketch v.current X.lawful (Some u) x
          → (w : Watch S M) × ((l.watch ≡ Some w) × Hunting v.problem v.sketch v.current X.lawful u w)
      go None noted W = absurd W
      go (Some w) noted W = (w, (noted, W))

  -- an open search keeps to its keys
  open_keeps : (v : View S M) (l : Log S M) (X : Standing v l) (u : UnderWay M) → v.opened ≡ Some u → u.kept ≤ total u.measure
  open_keeps v l X u is =
      let h = hunted v l X u is in
      (between_findings (search_task keys total v.problem v.sketch v.current u.measure)
      (fair_search v.problem v.sketch v.current u.measure X.lawful) (resumed u h.0.nodes h.0.marks) h.1.1.between).kept

  -- Each start is a subgoal of the one before it by a rule of an accepted sketch, so no two agree in every feature.
  pub found_out : (v : View S M) (l : Log S M) → Standing v l → Findings keys total v l
  found_out v l X = record {
    exclusion = X.exclusion;
    shortest = X.shortest;
    keeping = open_keeps v l X;
    kept = X.kept;
    distinct = λ i j lt inside same.
        states_apart v.sketch (λ n. v.problem.truths (start_of keys total v.problem v.sketch l.segments n)) j
        (λ n h. X.linked n (omega arith)) i j lt (omega arith) same;
    leads = X.leads;
    long = X.long;
    plan = X.plan;
    effort = X.effort;
  }
