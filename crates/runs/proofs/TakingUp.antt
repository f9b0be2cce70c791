-- Adopt keeps what holds of a run and its log: the segment is the way that the search found. Assumes nothing.
use Rattle.std.proofs.Common.{◌≡◌, ℕ, suc, ◌+◌, ◌<◌, ◌≤◌, Bool, true, eqb, ltb, ◌⊎◌, List, [], ◌∷◌, ◌++◌, map, length, get_or, take, drop, Some, None, Option, sym, refl, ap, ◌∙◌, subst, ap₂, inl, inr, ⊎_elim, append_assoc, arith, length-append}
use Rattle.std.specs.List.{AllByRecursion}
use Rattle.std.proofs.ByRecursion.{All-push}
use Rattle.std.proofs.lemmas.List.{length_push, length-map, get_or_push, get_or_append_left, map_push, take_all, take_at, length-take-le}
use Rattle.std.proofs.lemmas.Bool.{and_parts, or_cases, cases_lt, both_ways}
use Rattle.domain.specs.Model.{Meaning, Rising}
use Rattle.domain.specs.declared.refusal.Refusal.{Refusal}
use Rattle.sketch.specs.Sketch.{accepts_step}
use Rattle.sketch.specs.Subproblem.{subproblem}
use Rattle.planner.specs.Findings.{Findings}
use Rattle.planner.specs.Stepwise.{UnderWay, resumed}
use Rattle.planner.specs.Way.{actions_of, way_holds, root, runs_to_target, end_of}
use Rattle.planner.specs.Whole.{reply_of}
use Rattle.planner.specs.Width.{Leads, Target, Admissible}
use Rattle.planner.specs.declared.node.Node.{Node}
use Rattle.planner.specs.declared.node.Outcome.{Outcome}
use Rattle.planner.specs.declared.node.Outcome.TheVariants.{Found, Exhausted, Open}
use Rattle.planner.specs.declared.node.Way.{Way}
use Rattle.planner.proofs.Findings.{between_findings}
use Rattle.runs.specs.Calls.{unless, handed, placed, way_in, found_way, way_actions, way_length, spent, subgoal, adopt_fault, adopted_run}
use Rattle.runs.specs.Findings.{plan_list, Alone, search_task, ShortestSegment, start_of}
use Rattle.runs.specs.History.{Segment, Watch, Lent, Log, steps, reached, note_adopt, note_segment, SameStates, adopt_leaves, adopt_notes}
use Rattle.runs.specs.Run.{View}
use Rattle.runs.specs.declared.claim.Phase.TheVariants.{Met}
use Rattle.runs.proofs.Adopting.{Adoptable, adoptable, holds_long, read_back}
use Rattle.runs.proofs.Beginning.{effort_more, open_claimed}
use Rattle.runs.proofs.Standing.{fair_search, Hunting, Standing, hunted, current_reached}
use Rattle.runs.proofs.Ways.{runs_below, leads_append, steps_push}

-- a way that was found is the outcome
found_is : (o : Outcome) (x : Way) → way_in o ≡ Some x → o ≡ Found x
found_is Open x h = let z : ◌≡◌ {A = ℕ} 0 1 = cc in absurd (omega arith)
found_is (Found y) x h = cc
found_is Exhausted x h = let z : ◌≡◌ {A = ℕ} 0 1 = cc in absurd (omega arith)

-- a way that holds runs to a target
holds_runs : {S : Type 0} (P : Meaning S) (nodes : List (Node S)) (x : Way) → way_holds P nodes x ≡ true → runs_to_target P P.start (actions_of nodes x) ≡ true
holds_runs P nodes x h =
    let links = (and_parts (ltb x.parent (length nodes)) _ h).1 in
    let rest = (and_parts (eqb (root nodes x.parent x.parent) 0) _ links).1 in
    (and_parts (eqb (length (actions_of nodes x)) x.length) _ rest).1

-- the list that is lent begins with the steps so far
list_before : (used : ℕ) (so_far : List ℕ) (x : Lent) (lists : List Lent) → used ≡ length so_far → (Alone lists → take used (plan_list lists) ≡ so_far)
    → Alone (x ∷ lists) → take used x.before ≡ so_far
list_before used so_far x [] long plan alone =
    let none : so_far ≡ [] = sym (plan tt) ∙ take_all used [] (omega arith) in
    let zero : used ≡ 0 = long ∙ ap length none in
    ap (λ n. take n x.before) zero ∙ sym none
list_before used so_far x (y ∷ ys) long plan alone = ap (take used) alone.0 ∙ plan alone.1

-- a list with a segment placed at a begins with what it began with and the segment
front_placed : (plan segment : List ℕ) (a n : ℕ) → length segment ≡ n → a ≤ length plan → take (a + n) (placed plan a segment) ≡ take a plan ++ segment
front_placed plan segment a n long inside =
    ap (take (a + n)) (sym (append_assoc (take a plan) segment _))
    ∙ take_at (take a plan ++ segment) _ (a + n) (length-append (take a plan) segment ∙ ap₂ (λ x y. x + y) (length-take-le a plan inside) long)

module _ {S M : Type 0} (keys : M → List ℕ → List ℕ) (total : M → ℕ)
    (below : (m : M) (atoms : List ℕ) → Rising atoms → AllByRecursion (λ q. q < total m) (keys m atoms))
    (some : (m : M) (atoms : List ℕ) → Rising atoms → 1 ≤ length (keys m atoms)) where
  -- u is the open search, w what was noted of it, and nothing speaks against adopting the way that it found
  module _ (v : View S M) (l : Log S M) (X : Standing keys total below some v l) (number : ℕ) (u : UnderWay M) (is : v.opened ≡ Some u) (w : Watch S M)
      (H : Hunting keys total below some v.problem v.sketch v.current X.lawful u w) (nodes : List (Node S)) (plan : List ℕ)
      (same_nodes : nodes ≡ w.nodes) (A : Adoptable v number nodes (length plan)) where
    abbrev P : Meaning S
    P = v.problem

    abbrev segment : List ℕ
    segment = way_actions nodes (found_way v.opened)

    abbrev n : ℕ
    n = way_length (found_way v.opened)

    abbrev end : S
    end = end_of P v.current segment

    segment_is : segment ≡ actions_of nodes A.way
    segment_is = ap (way_actions nodes) A.found

    n_is : n ≡ A.way.length
    n_is = ap way_length A.found

    segment_long : length segment ≡ n
    segment_long = ap length segment_is ∙ holds_long (subgoal v) nodes A.way A.holds ∙ sym n_is

    -- the segment is a way to a target of the subproblem
    runs : Leads P v.current segment end × ((subproblem P v.sketch v.current).target end ≡ true)
    runs =
        subst (λ xs. Leads P v.current xs (end_of P v.current xs) × ((subproblem P v.sketch v.current).target (end_of P v.current xs) ≡ true))
        (sym segment_is)
        (runs_below P v.sketch v.current (actions_of nodes A.way) v.current (holds_runs (subgoal v) nodes A.way A.holds))

    outcome_is : u.outcome ≡ Found A.way
    outcome_is = found_is u.outcome A.way (sym (ap found_way is) ∙ A.found)

    inside : v.length ≤ length plan
    inside = let r = A.room in omega arith

    abbrev list : List ℕ
    list = placed plan v.length segment

    abbrev noted : Segment S M
    noted = record {
      start = reached P l;
      actions = take n (drop (length (steps l.segments)) list);
      measure = w.measure;
      replied = w.replied;
    }

    noted_is : noted.actions ≡ segment
    noted_is = ap (λ a. take n (drop a list)) (sym X.long) ∙ read_back plan segment v.length n (sym segment_long) inside

    steps_are : steps (l.segments ++ (noted ∷ [])) ≡ steps l.segments ++ segment
    steps_are = steps_push l.segments noted ∙ ap (λ xs. steps l.segments ++ xs) noted_is

    here : v.current ≡ reached P l
    here = current_reached keys total below some v l X

    -- what the search said of the way
    said : Findings (search_task keys total P v.sketch v.current u.measure) w.nodes (reply_of (resumed u w.nodes w.marks))
    said =
        between_findings (search_task keys total P v.sketch v.current u.measure)
        (fair_search keys total below some P v.sketch v.current u.measure X.lawful) (resumed u w.nodes w.marks) H.between

    -- no way from s on, by the measure m, is shorter than work replied
    abbrev LeastFrom : S → M → Type 0
    LeastFrom s m =
        (T : ℕ → Bool) → Admissible (search_task keys total P v.sketch s m) T
        → (ys : List ℕ) (t : S) → Leads (subproblem P v.sketch s) s ys t → Target (search_task keys total P v.sketch s m) t
        → w.replied ≤ length ys

    least : LeastFrom v.current u.measure
    least T adm ys t leads target =
        subst (λ r. r ≤ length ys) (sym (H.replied A.way outcome_is)) (said.shortest A.way (sym H.outcome ∙ outcome_is) T adm ys t leads target)

    segment_shortest : ShortestSegment keys total P v.sketch noted
    segment_shortest = (
      ap length noted_is ∙ segment_long ∙ n_is ∙ sym (H.replied A.way outcome_is),
      subst (λ s. LeastFrom s w.measure) here (subst (LeastFrom v.current) H.measure least),
    )

    -- the starts with one segment more
    abbrev starts : ℕ → S
    starts = start_of keys total P v.sketch (l.segments ++ (noted ∷ []))

    start_before : (i : ℕ) → i < length l.segments → starts i ≡ start_of keys total P v.sketch l.segments i
    start_before i h =
        ap (λ xs. get_or xs i P.start) (map_push (λ g. g.start) l.segments noted)
        ∙ get_or_append_left (map (λ g. g.start) l.segments) _ P.start i (let e = length-map l.segments (λ g. g.start) in omega arith)

    start_last : (i : ℕ) → i ≡ length l.segments → starts i ≡ v.current
    start_last i e =
        ap (λ xs. get_or xs i P.start) (map_push (λ g. g.start) l.segments noted)
        ∙ get_or_push (map (λ g. g.start) l.segments) (reached P l) P.start i (length-map l.segments (λ g. g.start) ∙ sym e) ∙ sym here

    abbrev Step : S → S → Type 0
    Step s t = accepts_step v.sketch (P.truths s) (P.truths t) ≡ true

    still_linked : (i : ℕ) → suc i < length (l.segments ++ (noted ∷ [])) → Step (starts i) (starts (suc i))
    still_linked i h =
        let more = length_push l.segments noted in
        let low : i < length l.segments = omega arith in
        ⊎_elim
        (λ lt. subst (λ s. Step s (starts (suc i))) (sym (start_before i low)) (subst (Step (start_of keys total P v.sketch l.segments i)) (sym (start_before (suc i) lt)) (X.linked i lt)))
        (λ le.
        let top : suc i ≡ length l.segments = omega arith in
        subst (λ s. Step s (starts (suc i))) (sym (start_before i low))
        (subst (Step (start_of keys total P v.sketch l.segments i)) (sym (start_last (suc i) top))
        (⊎_elim (λ bad. absurd (both_ways (P.target v.current) H.off_target bad)) (λ good. good) (X.last i (sym top)))))
        (cases_lt (suc i) (length l.segments))

    last_step : (i : ℕ) → length (l.segments ++ (noted ∷ [])) ≡ suc i → (P.target end ≡ true) ⊎ Step (starts i) end
    last_step i h =
        let more = length_push l.segments noted in
        let top : i ≡ length l.segments = omega arith in
        ⊎_elim inl (λ step. inr (subst (λ s. Step s end) (sym (start_last i top)) step))
        (or_cases (P.target end) (accepts_step v.sketch (P.truths v.current) (P.truths end)) runs.1)

    adopted_stands : Standing keys total below some (adopted_run v segment n) (note_segment (Some w) P l n plan list)
    adopted_stands = record {
      lawful = X.lawful;
      watching = tt;
      linked = still_linked;
      last = last_step;
      exclusion = X.exclusion;
      shortest = All-push (ShortestSegment keys total P v.sketch) l.segments noted X.shortest segment_shortest;
      kept = X.kept;
      leads = subst (λ xs. Leads P P.start xs end) (sym steps_are)
          (leads_append P (steps l.segments) segment P.start v.current end X.leads runs.0);
      long = ap₂ (λ a b. a + b) X.long (sym segment_long) ∙ sym (ap length steps_are ∙ length-append (steps l.segments) segment);
      plan = λ alone.
          front_placed plan segment v.length n segment_long inside
          ∙ ap (λ xs. xs ++ segment) (list_before v.length (steps l.segments) (record { before = plan; after = list }) l.lists X.long X.plan alone)
          ∙ sym steps_are;
      effort = effort_more v.effort (spent v.opened) w.expanded l.ended X.effort (ap spent is ∙ H.expanded);
    }

  pub adopt_step : (v : View S M) (l : Log S M) → Standing keys total below some v l → (c : ℕ) (nodes : List (Node S)) (plan : List ℕ)
      → SameStates l (adopt_fault v c nodes (length plan)) nodes
      → Standing keys total below some (adopt_leaves keys total v l c nodes plan) (adopt_notes keys total v l c nodes plan)
  adopt_step v l X c nodes plan states = go (adopt_fault v c nodes (length plan)) refl states
    where
      taking : Adoptable v c nodes (length plan) → (u : UnderWay M) → v.opened ≡ Some u → ((w : Watch S M) → l.watch ≡ Some w → nodes ≡ w.nodes)
          → Standing keys total below some (adopted_run v (way_actions nodes (found_way v.opened)) (way_length (found_way v.opened)))
          (note_segment l.watch v.problem l (way_length (found_way v.opened)) plan (placed plan v.length (way_actions nodes (found_way v.opened))))
      taking A u is ns =
          let h = hunted keys total below some v l X u is in
          subst
          (λ x. Standing keys total below some (adopted_run v (way_actions nodes (found_way v.opened)) (way_length (found_way v.opened)))
          (note_segment x v.problem l (way_length (found_way v.opened)) plan (placed plan v.length (way_actions nodes (found_way v.opened)))))
          (sym h.1.0) (adopted_stands v l X c u is h.0 h.1.1 nodes plan (ns h.0 h.1.0) A)

      go : (f : Option Refusal) → adopt_fault v c nodes (length plan) ≡ f → SameStates l f nodes
          → Standing keys total below some (unless f v (adopted_run v (way_actions nodes (found_way v.opened)) (way_length (found_way v.opened))))
          (note_adopt v.problem l (handed f c (way_length (found_way v.opened))) plan
          (unless f plan (placed plan v.length (way_actions nodes (found_way v.opened)))))
      go (Some e) is ns = X
      go None is ns =
          let A = adoptable v c nodes (length plan) is in
          let o = open_claimed v.opened v.searches c Met A.latest in
          taking A o.0 o.1 (ns refl)
