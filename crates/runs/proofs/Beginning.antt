-- Begin and abandon keep what holds of a run and its log. Assumes nothing.
use Rattle.std.proofs.Common.{◌≡◌, ℕ, ◌+◌, ◌<◌, ◌≤◌, Bool, true, false, cond, not, ltb, List, ◌∷◌, length, is_some, Some, None, sum, Option, sym, refl, ap, ◌∙◌, subst, ⊎_elim, arith}
use Rattle.std.specs.List.{AllByRecursion}
use Rattle.std.proofs.lemmas.List.Sums.{sum_by-cons}
use Rattle.std.proofs.lemmas.Bool.{or_from, or_parts, ltb-false, cases_Bool}
use Rattle.domain.specs.Model.{Meaning, Rising}
use Rattle.domain.specs.declared.refusal.Refusal.{Refusal}
use Rattle.domain.specs.declared.refusal.Refusal.TheVariants.{AtTarget, SearchOpen, ManySearches, FewPlaces, ForeignClaim}
use Rattle.sketch.specs.Sketch.{accepts_step}
use Rattle.sketch.specs.Subproblem.{subproblem}
use Rattle.sketch.specs.declared.sketch.Sketch.{Sketch}
use Rattle.planner.specs.Search.{task, begun}
use Rattle.planner.specs.Stepwise.{UnderWay}
use Rattle.planner.specs.declared.node.Node.{Node}
use Rattle.planner.proofs.Between.{begin_holds}
use Rattle.runs.specs.Calls.{unless, told, claims, spent, subgoal, begin_fault, begun_run, begun_ticket, closed_run}
use Rattle.runs.specs.Findings.{search_task}
use Rattle.runs.specs.History.{Watch, Log, note_begin, note_end, note_abandon, begin_leaves, begin_notes, abandon_leaves, abandon_notes}
use Rattle.runs.specs.Run.{View}
use Rattle.runs.specs.declared.claim.Phase.{Phase}
use Rattle.runs.proofs.Replies.{passed}
use Rattle.runs.proofs.Standing.{no_standstill, fair_search, Hunting, Standing, hunted}

not_some : {X : Type 0} (o : Option X) → is_some o ≡ false → o ≡ None
not_some None h = refl
not_some (Some x) h = let no : ◌≡◌ {A = Bool} true false = h in let z : ◌≡◌ {A = ℕ} 0 1 = cc in absurd (omega arith)

-- a claim of the open search says that one is open
pub open_claimed : {M : Type 0} (o : Option (UnderWay M)) (latest number : ℕ) (kind : Phase) → claims o latest kind number ≡ true
    → (u : UnderWay M) × (o ≡ Some u)
open_claimed None latest number kind h = let z : ◌≡◌ {A = ℕ} 0 1 = cc in absurd (omega arith)
open_claimed (Some u) latest number kind h = (u, refl)

-- the expansions of a search that ends join the sum
pub effort_more : (effort expanded noted : ℕ) (ended : List ℕ) → effort ≡ sum ended → expanded ≡ noted → effort + expanded ≡ sum (noted ∷ ended)
effort_more effort expanded noted ended e f = let more = sum_by-cons (λ (x : ℕ). x) noted ended in omega arith

module _ {S M : Type 0} (keys : M → List ℕ → List ℕ) (total : M → ℕ)
    (below : (m : M) (atoms : List ℕ) → Rising atoms → AllByRecursion (λ q. q < total m) (keys m atoms))
    (some : (m : M) (atoms : List ℕ) → Rising atoms → 1 ≤ length (keys m atoms)) where
  -- the start of a subproblem is none of its targets: no target of the model, and no subgoal of itself
  start_no_target : (P : Meaning S) (k : Sketch) (s : S) → P.target s ≡ false → (subproblem P k s).target s ≡ false
  start_no_target P k s off =
      or_from (P.target s) (accepts_step k (P.truths s) (P.truths s)) off
      (⊎_elim (λ h. absurd (no_standstill k (P.truths s) h)) (λ h. h) (cases_Bool (accepts_step k (P.truths s) (P.truths s))))

  pub begin_step : (v : View S M) (l : Log S M) → Standing keys total below some v l → (m : M) (nodes : List (Node S)) (marks : List ℕ)
      → Standing keys total below some (begin_leaves keys total v l m nodes marks) (begin_notes keys total v l m nodes marks)
  begin_step v l X m nodes marks = go (begin_fault v (total m) (length nodes) (length marks)) refl
    where
      go : (f : Option Refusal) → begin_fault v (total m) (length nodes) (length marks) ≡ f
          → Standing keys total below some (unless f v (begun_run v m (total m)))
          (note_begin l m (told f (begun_ticket v)) (unless f nodes (begun (task (subgoal v) (keys m) (total m)) nodes marks).nodes)
          (unless f marks (begun (task (subgoal v) (keys m) (total m)) nodes marks).marks))
      go (Some e) is = X
      go None is =
          let closed = passed (is_some v.opened) SearchOpen _ is in
          let few = passed (not (ltb v.searches 65535)) ManySearches _ closed.1 in
          let off = passed (v.problem.target v.current) AtTarget _ few.1 in
          let room = or_parts (ltb (length nodes) (total m)) (ltb (length marks) (total m)) (passed _ FewPlaces None off.1).0 in
          record {
            lawful = X.lawful;
            watching = record {
              measure = refl;
              count = refl;
              expanded = refl;
              outcome = refl;
              replied = λ x e. let z : ◌≡◌ {A = ℕ} 0 1 = cc in absurd (omega arith);
              between = begin_holds (search_task keys total v.problem v.sketch v.current m)
                  (fair_search keys total below some v.problem v.sketch v.current m X.lawful) nodes marks
                  (ltb-false _ _ room.0) (ltb-false _ _ room.1) (start_no_target v.problem v.sketch v.current off.0);
              off_target = off.0;
            };
            linked = X.linked;
            last = X.last;
            exclusion = X.exclusion;
            shortest = X.shortest;
            kept = X.kept;
            leads = X.leads;
            long = X.long;
            plan = X.plan;
            effort = X.effort;
          }

  pub abandon_step : (v : View S M) (l : Log S M) → Standing keys total below some v l → (kind : Phase) (number : ℕ)
      → Standing keys total below some (abandon_leaves keys total v l kind number) (abandon_notes keys total v l kind number)
  abandon_step v l X kind number = go (claims v.opened v.searches kind number) refl
    where
      closing : (u : UnderWay M) → v.opened ≡ Some u → (w : Watch S M) → Hunting keys total below some v.problem v.sketch v.current X.lawful u w
          → Standing keys total below some (closed_run v) (note_end (Some w) l)
      closing u is w H = record {
        lawful = X.lawful;
        watching = tt;
        linked = X.linked;
        last = X.last;
        exclusion = X.exclusion;
        shortest = X.shortest;
        kept = X.kept;
        leads = X.leads;
        long = X.long;
        plan = X.plan;
        effort = effort_more v.effort (spent v.opened) w.expanded l.ended X.effort (ap spent is ∙ H.expanded);
      }

      go : (b : Bool) → claims v.opened v.searches kind number ≡ b
          → Standing keys total below some (unless (cond b None (Some ForeignClaim)) v (closed_run v)) (note_abandon l (told (cond b None (Some ForeignClaim)) number))
      go true latest =
          let o = open_claimed v.opened v.searches number kind latest in
          let h = hunted keys total below some v l X o.0 o.1 in
          subst (λ x. Standing keys total below some (closed_run v) (note_end x l)) (sym h.1.0) (closing o.0 o.1 h.0 h.1.1)
      go false foreign = X
