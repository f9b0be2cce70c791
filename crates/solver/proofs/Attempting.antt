-- One search from its begin to the end of its claim, by what each call replies and leaves. Assumes nothing.
use Rattle.std.proofs.Common.{◌≡◌, ℕ, ◌+◌, ◌<◌, Bool, true, false, cond, not, ◌&&◌, eqb, ltb, List, length, is_some, Some, None, Ok, Err, Option, Result, sym, refl, ap, ◌∙◌, ap₂, add-zero, arith, subst}
use Rattle.std.proofs.lemmas.Bool.{eq-eqb, lt-ltb}
use Rattle.std.specs.Result.{MatchResult, IsErrAnd}
use Rattle.domain.specs.declared.refusal.Refusal.{Refusal}
use Rattle.domain.specs.declared.refusal.Refusal.TheVariants.{AtTarget, SearchOpen, ManySearches, FewPlaces, ForeignClaim}
use Rattle.novelty.specs.Tuples.{tuple_keys, tuple_count, tuples_fault}
use Rattle.novelty.specs.declared.tuples.Tuples.{Tuples}
use Rattle.planner.specs.Search.{Task, Snapshot, task, begun}
use Rattle.planner.specs.Stepwise.{UnderWay, started, moved_on, lacks}
use Rattle.planner.specs.Way.{way_to, end_of}
use Rattle.planner.specs.Whole.{outcome_of, at_end}
use Rattle.planner.specs.Widths.{first_fault}
use Rattle.planner.specs.declared.node.Link.{Link}
use Rattle.planner.specs.declared.node.Node.{Node}
use Rattle.planner.specs.declared.node.Outcome.{Outcome}
use Rattle.planner.specs.declared.node.Outcome.TheVariants.{Found, Exhausted, Open}
use Rattle.planner.specs.declared.node.Way.{Way}
use Rattle.runs.specs.Run.{View}
use Rattle.runs.specs.Calls.{unless, told, handed, same_phase, phase_of, given, placed, way_in, way_actions, way_length, subgoal, begin_fault, begun_run, begun_ticket, work_fault, worked, worked_run, worked_reply, adopt_by, segment_fault}
use Rattle.runs.specs.declared.claim.Phase.TheVariants.{Met}
use Rattle.runs.specs.declared.claim.Progressed.{Progressed}
use Rattle.runs.specs.declared.claim.Refused.{Refused}
use Rattle.runs.specs.declared.claim.Work.{Work}
use Rattle.runs.proofs.Replies.{passed}
use Rattle.solver.specs.Attempt.{steps_of, settle_fault, settled_length, settled_run, settled_plan, outcome_at, way_at, width_task, opening_fault, ended, way_refused, closing_fault, SearchedOut, run_after, plan_written, nodes_after, attempt_fault, plan_after, row, row_of}
use Rattle.solver.specs.declared.report.Row.{Row}

-- Where a refusal's claim is spent, by a step that keeps the refusal, what was handed is told.
pub spent_told : {X C : Type 0} (Q : Refused C → Refusal → Type 0) → ((e : Refused C) (d : Refusal) → Q e d → d ≡ e.refusal)
    → (f : Option Refusal) (c : C) (x : X) (r : Result X (Refused C)) (s : Result X Refusal) → r ≡ handed f c x
    → MatchResult r (λ y. s ≡ Ok y) (λ e. IsErrAnd s (Q e)) → s ≡ told f x
spent_told {X} {C} Q keeps f c x r s is h = by_fault f (subst (λ q. MatchResult q (λ y. s ≡ Ok y) (λ e. IsErrAnd s (Q e))) is h)
  where
    by_reply : (e : Refused C) (q : Result X Refusal) → IsErrAnd q (Q e) → q ≡ Err e.refusal
    by_reply e (Ok y) wrong = absurd wrong
    by_reply e (Err d) q = ap Err (keeps e d q)

    by_fault : (o : Option Refusal) → MatchResult (handed o c x) (λ y. s ≡ Ok y) (λ e. IsErrAnd s (Q e)) → s ≡ told o x
    by_fault (Some e) p = by_reply (record { refusal = e; claim = c }) s p
    by_fault None p = p

pub told_refused : {X : Type 0} (f : Option Refusal) (x : X) (e : Refusal) → told f x ≡ Err e → f ≡ Some e
told_refused (Some d) x e h = cc
told_refused None x e h = let no : ◌≡◌ {A = ℕ} 0 1 = cc in absurd (omega arith)

pub told_given : {X : Type 0} (f : Option Refusal) (x y : X) → told f x ≡ Ok y → (f ≡ None) × (y ≡ x)
told_given (Some d) x y h = let no : ◌≡◌ {A = ℕ} 0 1 = cc in absurd (omega arith)
told_given None x y h = (refl, cc)

pub not_both : {X : Type 0} (r : Result X Refusal) (e : Refusal) (x : X) → r ≡ Err e → r ≡ Ok x → ⊥
not_both r e x a b = let no : ◌≡◌ {A = ℕ} 0 1 = cc in omega arith

-- what a refused call leaves, where another call is refused by the same
pub refused_list : {X : Type 0} (f h : Option Refusal) (e : Refusal) (before a b after : X) → after ≡ unless f before a → f ≡ Some e → h ≡ Some e
    → after ≡ unless h before b
refused_list f h e before a b after is p q = is ∙ ap (λ x. unless x before a) p ∙ sym (ap (λ x. unless x before b) q)

-- a number's claim fits the number
own_number : (n : ℕ) → eqb n n ≡ true
own_number n = eq-eqb n n refl

pub cong4 : {A B C D X : Type 0} (F : A → B → C → D → X) {a a' : A} {b b' : B} {c c' : C} {d d' : D} → a ≡ a' → b ≡ b' → c ≡ c' → d ≡ d' → F a b c d ≡ F a' b' c' d'
cong4 F {a} {a'} {b} {b'} {c} {c'} {d} {d'} p q r s =
    ap (λ x. F x b c d) p ∙ ap (λ x. F a' x c d) q ∙ ap (λ x. F a' b' x d) r ∙ ap (λ x. F a' b' c' x) s

-- the keys of a measure of tuples
abbrev pub tuples : Tuples → List ℕ → List ℕ
tuples m = tuple_keys m.atoms m.width

-- m is the measure of the sets of at most k of N atoms
module _ {S : Type 0} (v : View S Tuples) (N k : ℕ) (m : Tuples) (atoms : m.atoms ≡ N) (width : m.width ≡ k) (sound : tuples_fault N k ≡ None)
    (nodes : List (Node S)) (marks : List ℕ) where
  abbrev n : ℕ
  n = tuple_count m.atoms m.width

  abbrev fault : Option Refusal
  fault = begin_fault v n (length nodes) (length marks)

  pub opening_is : fault ≡ opening_fault N k v (length nodes) (length marks)
  opening_is =
      ap₂ (λ a b. begin_fault v (tuple_count a b) (length nodes) (length marks)) atoms width
      ∙ ap (λ f. first_fault f (begin_fault v (tuple_count N k) (length nodes) (length marks))) (sym sound)

  abbrev Q : Task S
  Q = task (subgoal v) (tuples m) n

  task_is : Q ≡ width_task N k v
  task_is = ap₂ (λ a b. task (subgoal v) (tuple_keys a b) (tuple_count a b)) atoms width

  ended_is : at_end Q nodes marks ≡ ended N k v nodes marks
  ended_is = ap (λ T. at_end T nodes marks) task_is

  -- begin was not refused: w, t, states and table are what it left and replied
  module _ (free : fault ≡ None) (w : View S Tuples) (t : ℕ) (states : List (Node S)) (table : List ℕ) (budget : ℕ)
      (w_is : w ≡ unless fault v (begun_run v m n)) (t_is : t ≡ begun_ticket v) (states_are : states ≡ unless fault nodes (begun Q nodes marks).nodes)
      (table_is : table ≡ unless fault marks (begun Q nodes marks).marks) (all : budget ≡ n) (same_states : length states ≡ length nodes)
      (same_table : length table ≡ length marks) where
    pub opened : opening_fault N k v (length nodes) (length marks) ≡ None
    opened = sym opening_is ∙ free

    w_run : w ≡ begun_run v m n
    w_run = w_is ∙ ap (λ f. unless f v (begun_run v m n)) free

    states_begun : states ≡ (begun Q nodes marks).nodes
    states_begun = states_are ∙ ap (λ f. unless f nodes (begun Q nodes marks).nodes) free

    table_begun : table ≡ (begun Q nodes marks).marks
    table_begun = table_is ∙ ap (λ f. unless f marks (begun Q nodes marks).marks) free

    enough : lacks n (length nodes) (length marks) ≡ false
    enough =
        let a = passed (is_some v.opened) SearchOpen _ free in
        let b = passed (not (ltb v.searches 65535)) ManySearches _ a.1 in
        let c = passed (v.problem.target v.current) AtTarget _ b.1 in
        (passed (lacks n (length nodes) (length marks)) FewPlaces None c.1).0

    -- then work is not refused
    work_free : work_fault w t (length states) (length table) ≡ None
    work_free =
        cong4 (λ x a b c. work_fault x a b c) w_run t_is same_states same_table
        ∙ ap (λ b. cond (b && true) (cond (lacks n (length nodes) (length marks)) (Some FewPlaces) None) (Some ForeignClaim)) (own_number (v.searches + 1))
        ∙ ap (λ b. cond b (Some FewPlaces) None) enough

    -- and it ends the search
    worked_is : worked w (λ x. tuples x) budget states table ≡ ended N k v nodes marks
    worked_is = cong4 (λ x b y z. worked x (λ q. tuples q) b y z) w_run all states_begun table_begun ∙ ended_is

    pub search_reply : (s : Result Work Refusal)
        → s ≡ told (work_fault w t (length states) (length table)) (worked_reply w t (worked w (λ x. tuples x) budget states table))
        → s ≡ told (opening_fault N k v (length nodes) (length marks)) (worked_reply v (v.searches + 1) (ended N k v nodes marks))
    search_reply s is =
        is
        ∙ ap (λ f. told f (worked_reply w t (worked w (λ x. tuples x) budget states table))) work_free
        ∙ ap₂ (λ a g. Ok (worked_reply v a g)) t_is worked_is
        ∙ sym (ap (λ f. told f (worked_reply v (v.searches + 1) (ended N k v nodes marks))) opened)

    pub search_list : {X : Type 0} (part : Snapshot S → List X) (before after old : List X)
        → after ≡ unless (work_fault w t (length states) (length table)) before (part (worked w (λ x. tuples x) budget states table))
        → after ≡ unless (opening_fault N k v (length nodes) (length marks)) old (part (ended N k v nodes marks))
    search_list part before after old e =
        e ∙ ap (λ f. unless f before (part (worked w (λ x. tuples x) budget states table))) work_free ∙ ap part worked_is
        ∙ sym (ap (λ f. unless f old (part (ended N k v nodes marks))) opened)

    pub search_run : (next : View S Tuples)
        → next ≡ unless (work_fault w t (length states) (length table)) w (worked_run w (worked w (λ x. tuples x) budget states table))
        → SearchedOut N k v (ended N k v nodes marks) next
    search_run next e = record {
      under = moved_on (started m n) (ended N k v nodes marks);
      count = ap₂ tuple_count atoms width;
      expanded = refl;
      outcome = refl;
      is = e ∙ ap (λ f. unless f w (worked_run w (worked w (λ x. tuples x) budget states table))) work_free
          ∙ ap₂ (λ x g. worked_run x g) w_run worked_is;
    }

-- the run v with the search u open, under the next number
abbrev pub with_open : {S M : Type 0} → View S M → UnderWay M → View S M
with_open v u = record {
  problem = v.problem;
  sketch = v.sketch;
  current = v.current;
  effort = v.effort;
  length = v.length;
  searches = v.searches + 1;
  opened = Some u;
}

-- what comes of the open search u with this outcome
module _ {S M : Type 0} (N k : ℕ) (v : View S M) (u : UnderWay M) (count : u.count ≡ tuple_count N k) (nodes : List (Node S)) where
  abandoned : (o : Outcome) → u.outcome ≡ o
      → cond (eqb (v.searches + 1) (v.searches + 1) && same_phase (phase_of o) (phase_of u.outcome)) None (Some ForeignClaim) ≡ None
  abandoned o is =
      ap₂ (λ b x. cond (b && same_phase (phase_of o) (phase_of x)) None (Some ForeignClaim)) (own_number (v.searches + 1)) is ∙ same o
    where
      same : (x : Outcome) → cond (same_phase (phase_of x) (phase_of x)) None (Some ForeignClaim) ≡ None
      same Open = refl
      same (Found w) = refl
      same Exhausted = refl

  fault_by : (o : Outcome) → u.outcome ≡ o → (places : ℕ) → settle_fault (with_open v u) (given o (v.searches + 1)) nodes places ≡ way_refused N k v (way_in o) nodes places
  fault_by Open is places = abandoned Open is
  fault_by (Found w) is places =
      ap₂ (λ b x. cond (b && same_phase Met (phase_of x)) (adopt_by (with_open v u) (way_in x) u.count nodes places) (Some ForeignClaim)) (own_number (v.searches + 1)) is
      ∙ ap (λ c. segment_fault v w c nodes places) count
  fault_by Exhausted is places = abandoned Exhausted is

  length_by : (o : Outcome) → u.outcome ≡ o → settled_length (with_open v u) (given o (v.searches + 1)) ≡ steps_of (way_in o)
  length_by Open is = refl
  length_by (Found w) is = ap (λ x. Some (way_length (way_in x))) is
  length_by Exhausted is = refl

  abbrev stood : S → ℕ → ℕ → View S M
  stood s e l = record {
    problem = v.problem;
    sketch = v.sketch;
    current = s;
    effort = e;
    length = l;
    searches = v.searches + 1;
    opened = None;
  }

  run_by : (o : Outcome) → u.outcome ≡ o
      → settled_run (with_open v u) (given o (v.searches + 1)) nodes
      ≡ stood (end_of v.problem v.current (way_actions nodes (way_in o))) (v.effort + u.expanded) (v.length + way_length (way_in o))
  run_by Open is = ap (stood v.current (v.effort + u.expanded)) (sym (add-zero v.length))
  run_by (Found w) is =
      ap (λ x. stood (end_of v.problem v.current (way_actions nodes (way_in x))) (v.effort + u.expanded) (v.length + way_length (way_in x))) is
  run_by Exhausted is = ap (stood v.current (v.effort + u.expanded)) (sym (add-zero v.length))

  written : Option Way → List ℕ → List ℕ
  written None plan = plan
  written (Some w) plan = placed plan v.length (way_actions nodes (Some w))

  plan_by : (o : Outcome) → u.outcome ≡ o → (plan : List ℕ) → settled_plan (with_open v u) (given o (v.searches + 1)) nodes plan ≡ written (way_in o) plan
  unfolding written
  plan_by Open is plan = refl
  plan_by (Found w) is plan = ap (λ x. placed plan v.length (way_actions nodes (way_in x))) is
  plan_by Exhausted is plan = refl

-- a way that was found has a step at least
pub found_long : {S : Type 0} (nodes : List (Node S)) (met : Option Link) (expanded kept : ℕ)
    → ltb 0 (way_length (way_in (outcome_of nodes met expanded kept))) ≡ is_some (way_in (outcome_of nodes met expanded kept))
found_long nodes (Some l) expanded kept =
    let links = length (way_to nodes l.parent l.parent) in
    let some : 0 < links + 1 = omega arith in
    lt-ltb 0 (links + 1) some
found_long nodes None expanded kept = go (ltb expanded kept)
  where
    go : (b : Bool) → ltb 0 (way_length (way_in (cond b Open Exhausted))) ≡ is_some (way_in (cond b Open Exhausted))
    go true = refl
    go false = refl

-- The search has ended as g says and stands open in w, whose claim is spent in the states that it left.
module _ {S M : Type 0} (N k : ℕ) (v : View S M) (nodes : List (Node S)) (marks plan : List ℕ)
    (free : opening_fault N k v (length nodes) (length marks) ≡ None) (w : View S M) (X : SearchedOut N k v (ended N k v nodes marks) w)
    (claim : Progressed) (claim_is : claim ≡ given (outcome_at (ended N k v nodes marks)) (v.searches + 1))
    (states : List (Node S)) (states_are : states ≡ nodes_after N k v nodes marks) where
  abbrev g : Snapshot S
  g = ended N k v nodes marks

  states_end : states ≡ g.nodes
  states_end = states_are ∙ ap (λ f. unless f nodes g.nodes) free

  plan_same : plan ≡ plan
  plan_same = refl

  w_open : w ≡ with_open v X.under
  w_open = X.is

  fault_is : settle_fault w claim states (length plan) ≡ attempt_fault N k v nodes marks plan
  fault_is =
      cong4 (λ x c s n. settle_fault x c s n) w_open claim_is states_end refl
      ∙ fault_by N k v X.under X.count g.nodes (outcome_at g) X.outcome (length plan)
      ∙ sym (ap (λ f. first_fault f (closing_fault N k v g (length plan))) free)

  pub settle_refused : (r : Result (Option ℕ) Refusal) (e : Refusal) → r ≡ told (settle_fault w claim states (length plan)) (settled_length w claim) → r ≡ Err e
      → attempt_fault N k v nodes marks plan ≡ Some e
  settle_refused r e is err = sym fault_is ∙ told_refused _ (settled_length w claim) e (sym is ∙ err)

  pub settle_given : (r : Result (Option ℕ) Refusal) (n : Option ℕ) → r ≡ told (settle_fault w claim states (length plan)) (settled_length w claim) → r ≡ Ok n
      → (attempt_fault N k v nodes marks plan ≡ None) × (n ≡ steps_of (way_at g))
  settle_given r n is ok =
      let both = told_given (settle_fault w claim states (length plan)) (settled_length w claim) n (sym is ∙ ok) in (
        sym fault_is ∙ both.0,
        both.1 ∙ ap₂ (λ x c. settled_length x c) w_open claim_is ∙ length_by N k v X.under X.count g.nodes (outcome_at g) X.outcome,
      )

  pub settle_run : (after : View S M) → after ≡ unless (settle_fault w claim states (length plan)) w (settled_run w claim states)
      → attempt_fault N k v nodes marks plan ≡ None → after ≡ run_after N k v g
  settle_run after is none =
      is ∙ ap (λ f. unless f w (settled_run w claim states)) (fault_is ∙ none)
      ∙ cong4 (λ x c s ys. settled_run x c s) w_open claim_is states_end plan_same
      ∙ run_by N k v X.under X.count g.nodes (outcome_at g) X.outcome
      ∙ ap (λ n. record {
        problem = v.problem;
        sketch = v.sketch;
        current = end_of v.problem v.current (way_actions g.nodes (way_at g));
        effort = v.effort + n;
        length = v.length + way_length (way_at g);
        searches = v.searches + 1;
        opened = None;
      }) X.expanded

  pub settle_plan : (after : List ℕ) → after ≡ unless (settle_fault w claim states (length plan)) plan (settled_plan w claim states plan)
      → after ≡ plan_after N k v nodes marks plan
  unfolding written
  settle_plan after is =
      is
      ∙ ap₂ (λ f xs. unless f plan xs) fault_is
      (cong4 (λ x c s ys. settled_plan x c s ys) w_open claim_is states_end refl
      ∙ plan_by N k v X.under X.count g.nodes (outcome_at g) X.outcome plan ∙ same (way_at g))
    where
      same : (o : Option Way) → written N k v X.under X.count g.nodes o plan ≡ plan_written N k v nodes marks o plan
      same None = refl
      same (Some x) = refl

pub attempt_row : {S : Type 0} (g : Snapshot S) (number k : ℕ) (n : Option ℕ) (expanded kept : ℕ) → expanded ≡ g.expanded → kept ≡ g.kept
    → n ≡ steps_of (way_at g)
    → row number k expanded kept n ≡ row_of number k g
attempt_row g number k n expanded kept e q l = cong4 (λ a b c d. row d k a b c) e q l refl

-- a row's number, by any equal one
pub row_at : {S : Type 0} (g : Snapshot S) {m n k : ℕ} {row : Row} → row ≡ row_of m k g → m ≡ n → row ≡ row_of n k g
row_at {S} g {m} {n} {k} is same = is ∙ ap (λ i. row_of i k g) same

-- its row tells of a length where it found a way
pub row_found : {S : Type 0} (g : Snapshot S) (number k : ℕ) (row : Row) → row ≡ row_of number k g → is_some row.length ≡ is_some (way_at g)
row_found g number k row is = ap (λ r. is_some r.length) is ∙ same (way_at g)
  where
    same : (o : Option Way) → is_some (steps_of o) ≡ is_some o
    same None = refl
    same (Some w) = refl
