-- Work keeps what holds of a run and its log: every advance keeps what a search holds. Assumes nothing.
use Rattle.std.proofs.Common.{◌≡◌, ℕ, ◌<◌, ◌≤◌, Bool, true, false, cond, List, ◌++◌, length, Some, None, Option, sym, refl, ap, ◌∙◌, subst, ap₂}
use Rattle.std.specs.List.{AllByRecursion}
use Rattle.domain.specs.Model.{Rising}
use Rattle.domain.specs.declared.refusal.Refusal.{Refusal}
use Rattle.domain.specs.declared.refusal.Refusal.TheVariants.{ForeignClaim}
use Rattle.planner.specs.Findings.{Findings}
use Rattle.planner.specs.Search.{Snapshot, task, advanced}
use Rattle.planner.specs.Stepwise.{UnderWay, resumed, worked_on, moved_on}
use Rattle.planner.specs.Whole.{outcome_of, reply_of}
use Rattle.planner.specs.declared.node.Node.{Node}
use Rattle.planner.specs.declared.node.Outcome.{Outcome}
use Rattle.planner.specs.declared.node.Outcome.TheVariants.{Found, Exhausted, Open}
use Rattle.planner.proofs.Between.{Between, advance_keeps}
use Rattle.planner.proofs.Findings.{between_findings}
use Rattle.runs.specs.Calls.{unless, handed, claims, given, moved, worked_open, subgoal, searching, work_fault, worked, worked_run, worked_reply}
use Rattle.runs.specs.Findings.{search_task, Excluded}
use Rattle.runs.specs.History.{Watch, Log, drained, length_in, reached, note_work, note_reply, SameStates, SameMarks, work_leaves, work_notes}
use Rattle.runs.specs.Run.{View}
use Rattle.runs.specs.declared.claim.Phase.TheVariants.{Working}
use Rattle.runs.proofs.Beginning.{open_claimed}
use Rattle.runs.proofs.Replies.{no_refusal}
use Rattle.runs.proofs.Standing.{fair_search, Hunting, Standing, hunted, current_reached}

-- without a fault the ticket is of the open search
ticket_latest : (b : Bool) (rest : Option Refusal) → cond b rest (Some ForeignClaim) ≡ None → b ≡ true
ticket_latest true rest h = refl
ticket_latest false rest h = absurd (no_refusal ForeignClaim h)

module _ {S M : Type 0} (keys : M → List ℕ → List ℕ) (total : M → ℕ)
    (below : (m : M) (atoms : List ℕ) → Rising atoms → AllByRecursion (λ q. q < total m) (keys m atoms))
    (some : (m : M) (atoms : List ℕ) → Rising atoms → 1 ≤ length (keys m atoms)) where
  -- u is the open search and w what was noted of it; the memory that is lent is the one that was left
  module _ (v : View S M) (l : Log S M) (X : Standing keys total below some v l) (number n : ℕ) (u : UnderWay M) (w : Watch S M)
      (H : Hunting keys total below some v.problem v.sketch v.current X.lawful u w) (nodes : List (Node S)) (marks : List ℕ)
      (same_nodes : nodes ≡ w.nodes) (same_marks : marks ≡ w.marks) where
    -- the search after the work
    abbrev after : Snapshot S
    after = worked_on (subgoal v) keys n u nodes marks

    still : Between (search_task keys total v.problem v.sketch v.current u.measure)
        (fair_search keys total below some v.problem v.sketch v.current u.measure X.lawful) after
    still =
        let Q = search_task keys total v.problem v.sketch v.current u.measure in
        let F = fair_search keys total below some v.problem v.sketch v.current u.measure X.lawful in
        let by_count : after ≡ advanced Q n (resumed u nodes marks) = ap (λ c. advanced (task (subgoal v) (keys u.measure) c) n (resumed u nodes marks)) H.count in
        let by_memory : advanced Q n (resumed u nodes marks) ≡ advanced Q n (resumed u w.nodes w.marks) =
        ap₂ (λ xs ms. advanced Q n (resumed u xs ms)) same_nodes same_marks in
        subst (Between Q F) (sym (by_count ∙ by_memory)) (advance_keeps Q F n (resumed u w.nodes w.marks) H.between)

    said : Findings (search_task keys total v.problem v.sketch v.current u.measure) after.nodes (reply_of after)
    said =
        between_findings (search_task keys total v.problem v.sketch v.current u.measure)
        (fair_search keys total below some v.problem v.sketch v.current u.measure X.lawful) after still

    -- an exhausted search excludes every admissible set, where it began and by its measure as the observer has them
    excluded : (o : Outcome) → outcome_of after.nodes after.met after.expanded after.kept ≡ o
        → AllByRecursion (Excluded keys total v.problem v.sketch) (drained (given o number) (reached v.problem l) w.measure ++ l.exhausted)
    excluded Open is = X.exclusion
    excluded (Found x) is = X.exclusion
    excluded Exhausted is = (
      subst (λ s. Excluded keys total v.problem v.sketch (record { origin = s; measure = w.measure }))
          (current_reached keys total below some v l X)
          (subst (λ m. Excluded keys total v.problem v.sketch (record { origin = v.current; measure = m })) H.measure (said.exclusion is)),
      X.exclusion,
    )

    worked_on_stands : Standing keys total below some (searching v (Some (moved_on u after)))
        (note_reply (Some w) v.problem l (worked_reply v number after) after.nodes after.marks)
    worked_on_stands = record {
      lawful = X.lawful;
      watching = record {
        measure = H.measure;
        count = H.count;
        expanded = refl;
        outcome = refl;
        replied = λ x e. ap (λ o. length_in (given o number)) e;
        between = still;
        off_target = H.off_target;
      };
      linked = X.linked;
      last = X.last;
      exclusion = excluded (outcome_of after.nodes after.met after.expanded after.kept) refl;
      shortest = X.shortest;
      kept = (subst (λ m. after.kept ≤ total m) H.measure said.kept, X.kept);
      leads = X.leads;
      long = X.long;
      plan = X.plan;
      effort = X.effort;
    }

  pub work_step : (v : View S M) (l : Log S M) → Standing keys total below some v l → (t n : ℕ) (nodes : List (Node S)) (marks : List ℕ)
      → SameStates l (work_fault v t (length nodes) (length marks)) nodes
      → SameMarks l (work_fault v t (length nodes) (length marks)) marks
      → Standing keys total below some (work_leaves keys total v l t n nodes marks) (work_notes keys total v l t n nodes marks)
  work_step v l X t n nodes marks states table = go (work_fault v t (length nodes) (length marks)) refl states table
    where
      working : (u : UnderWay M) → v.opened ≡ Some u → ((w : Watch S M) → l.watch ≡ Some w → nodes ≡ w.nodes)
          → ((w : Watch S M) → l.watch ≡ Some w → marks ≡ w.marks)
          → Standing keys total below some (worked_run v (worked v keys n nodes marks))
          (note_reply l.watch v.problem l (worked_reply v t (worked v keys n nodes marks)) (worked v keys n nodes marks).nodes (worked v keys n nodes marks).marks)
      working u is ns ms =
          let h = hunted keys total below some v l X u is in
          subst
          (λ o. Standing keys total below some (searching v (moved o (worked_open (subgoal v) keys n o nodes marks)))
          (note_reply l.watch v.problem l (worked_reply v t (worked_open (subgoal v) keys n o nodes marks))
          (worked_open (subgoal v) keys n o nodes marks).nodes (worked_open (subgoal v) keys n o nodes marks).marks))
          (sym is)
          (subst
          (λ x. Standing keys total below some (searching v (Some (moved_on u (worked_on (subgoal v) keys n u nodes marks))))
          (note_reply x v.problem l (worked_reply v t (worked_on (subgoal v) keys n u nodes marks))
          (worked_on (subgoal v) keys n u nodes marks).nodes (worked_on (subgoal v) keys n u nodes marks).marks))
          (sym h.1.0) (worked_on_stands v l X t n u h.0 h.1.1 nodes marks (ns h.0 h.1.0) (ms h.0 h.1.0)))

      go : (f : Option Refusal) → work_fault v t (length nodes) (length marks) ≡ f → SameStates l f nodes → SameMarks l f marks
          → Standing keys total below some (unless f v (worked_run v (worked v keys n nodes marks)))
          (note_work v.problem l (handed f t (worked_reply v t (worked v keys n nodes marks)))
          (unless f nodes (worked v keys n nodes marks).nodes) (unless f marks (worked v keys n nodes marks).marks))
      go (Some e) is ns ms = X
      go None is ns ms =
          let o = open_claimed v.opened v.searches t Working (ticket_latest (claims v.opened v.searches Working t) _ is) in
          working o.0 o.1 (ns refl) (ms refl)
