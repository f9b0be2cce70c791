-- What the solver answers says what a report says: by the searches that are left. Assumes nothing.
use Rattle.std.proofs.Common.{◌≡◌, ℕ, zero, suc, ◌+◌, ◌-◌, ◌<◌, ◌≤◌, min, Bool, true, false, cond, not, eqb, ltb, List, ◌++◌, length, take, set, is_some, Some, None, Ok, Err, Option, Result, sym, refl, ap, ◌∙◌, subst, ap₂, ⊎_elim, append_assoc, add-zero, arith, length-append, length-set}
use Rattle.std.proofs.lemmas.List.{get_or-set_same, get_or-set_other, take_at, length-take-le}
use Rattle.std.proofs.lemmas.Bool.{cases_eq, cases_Bool, or_from, or_parts, ltb-false, ltb-true, and_parts}
use Rattle.domain.specs.Model.{Meaning, Lawful, Rising}
use Rattle.domain.specs.declared.refusal.Refusal.{Refusal}
use Rattle.domain.specs.declared.refusal.Refusal.TheVariants.{AtTarget as TargetHere, ManySearches, FewPlaces, PlanFull, BrokenWay, Limit}
use Rattle.sketch.specs.Sketch.{accepts_step}
use Rattle.sketch.specs.Subproblem.{subproblem, subproblem_lawful}
use Rattle.sketch.specs.declared.sketch.Sketch.{Sketch}
use Rattle.novelty.specs.Tuples.{tuple_keys, tuple_count, tuples_fault}
use Rattle.novelty.specs.declared.tuples.Tuples.{Tuples}
use Rattle.novelty.specs.Keys.{keys_below}
use Rattle.planner.specs.Search.{Snapshot}
use Rattle.planner.specs.Way.{root, actions_of, way_holds, end_of, runs_to_target}
use Rattle.planner.specs.Widths.{first_fault, tuple_task}
use Rattle.planner.specs.Width.{Leads}
use Rattle.planner.specs.declared.node.Outcome.{Outcome}
use Rattle.planner.specs.declared.node.Outcome.TheVariants.{Found, Exhausted, Open}
use Rattle.planner.specs.declared.node.Node.{Node}
use Rattle.planner.specs.declared.node.Way.{Way}
use Rattle.planner.proofs.Expanding.{Fair}
use Rattle.planner.proofs.Findings.{whole_findings}
use Rattle.planner.proofs.Lawful.{fair}
use Rattle.planner.proofs.Searched.{ended_exhausted}
use Rattle.runs.specs.Calls.{unless, placed, way_in, way_length, way_actions}
use Rattle.runs.specs.Run.{View}
use Rattle.runs.proofs.Adopting.{holds_long}
use Rattle.runs.proofs.Replies.{passed, not_broken, no_refusal}
use Rattle.runs.proofs.Standing.{no_standstill}
use Rattle.runs.proofs.Ways.{leads_append, runs_below}
use Rattle.solver.specs.Attempt.{outcome_at, way_at, steps_of, row_of, way_refused, closing_fault, opening_fault, plan_written}
use Rattle.solver.specs.Reported.{unmade_row, row_at, StubRow, Stubs, Reported}
use Rattle.solver.specs.Solve.{Memory, Answer, answer, next_width, report, at_its_end, fault_at, found_at, view_after, memory_after, solve_from, solved}
use Rattle.solver.specs.declared.report.Ending.TheVariants.{AtTarget, ThirdStub}
use Rattle.solver.specs.declared.report.Report.{Report}
use Rattle.solver.specs.declared.report.Row.{Row}
use Rattle.solver.proofs.Solving.{ends_at_target, ends_without_row, ends_refused, ends_with_stub, goes_on_by}

-- both of two faults are none
first_none : (f h : Option Refusal) → first_fault f h ≡ None → (f ≡ None) × (h ≡ None)
first_none (Some e) h is = absurd (no_refusal e is)
first_none None h is = (refl, is)

-- a list with a segment placed at a begins with what it began with and the segment
front_placed : (plan segment : List ℕ) (a n : ℕ) → length segment ≡ n → a ≤ length plan → take (a + n) (placed plan a segment) ≡ take a plan ++ segment
front_placed plan segment a n long inside =
    ap (take (a + n)) (sym (append_assoc (take a plan) segment _))
    ∙ take_at (take a plan ++ segment) _ (a + n) (length-append (take a plan) segment ∙ ap₂ (λ x y. x + y) (length-take-le a plan inside) long)

holds_runs : {S : Type 0} (P : Meaning S) (nodes : List (Node S)) (x : Way) → way_holds P nodes x ≡ true → runs_to_target P P.start (actions_of nodes x) ≡ true
holds_runs P nodes x h =
    let links = (and_parts (ltb x.parent (length nodes)) _ h).1 in
    let rest = (and_parts (eqb (root nodes x.parent x.parent) 0) _ links).1 in
    (and_parts (eqb (length (actions_of nodes x)) x.length) _ rest).1

none_found : (o : Outcome) → is_some (way_in o) ≡ false → (w : Way) → o ≡ Found w → ⊥
none_found Open h w is = let z : ◌≡◌ {A = ℕ} 0 1 = cc in omega arith
none_found (Found x) h w is = let no : ◌≡◌ {A = Bool} true false = h in let z : ◌≡◌ {A = ℕ} 0 1 = cc in omega arith
none_found Exhausted h w is = let z : ◌≡◌ {A = ℕ} 0 1 = cc in omega arith

no_steps : (o : Option Way) → is_some o ≡ false → steps_of o ≡ None
no_steps None h = refl
no_steps (Some w) h = let no : ◌≡◌ {A = Bool} true false = h in let z : ◌≡◌ {A = ℕ} 0 1 = cc in absurd (omega arith)

some_key : (N k : ℕ) (atoms : List ℕ) → Rising atoms → 1 ≤ length (tuple_keys N k atoms)
unfolding tuple_keys
some_key N k atoms rising = omega arith

module _ {S : Type 0} (P : Meaning S) (sketch : Sketch) (lawful : Lawful P) where
  abbrev N : ℕ
  N = P.atoms

  -- a run between two searches
  abbrev at : S → ℕ → ℕ → ℕ → View S Tuples
  at s e l m = record { problem = P; sketch = sketch; current = s; effort = e; length = l; searches = m; opened = None }

  -- an answer that is a report says what a report says
  abbrev Good : Answer S → Type 0
  Good a = (told : Report) → a.reply ≡ Ok told → Reported P sketch told a.left.plan a.left.rows

  good_report : (r : Report) (mem : Memory S) → Reported P sketch r mem.plan mem.rows → Good (answer (Ok r) mem)
  good_report r mem R told is = let same : r ≡ told = cc in subst (λ x. Reported P sketch x mem.plan mem.rows) same R

  good_refusal : (e : Refusal) (mem : Memory S) → Good (answer (Err e) mem)
  good_refusal e mem told is = let no : ◌≡◌ {A = ℕ} 0 1 = cc in absurd (omega arith)

  -- before a search of width k with so many free rows
  pub record Sound (free k : ℕ) (s : S) (l m : ℕ) (plan : List ℕ) (rows : List Row) : Type 0 where
    pub leads : Leads P P.start (take l plan) s
    pub long : length (take l plan) ≡ l
    pub room : m + free ≡ length rows
    pub numbered : (i : ℕ) → i < m → (row_at rows i).number ≡ i + 1
    pub stubs : Stubs P sketch k s rows m

  -- one row more
  module _ (rows : List Row) (m : ℕ) (row : Row) (inside : m < length rows) where
    old_row : (i : ℕ) → i < m → row_at (set rows m row) i ≡ row_at rows i
    old_row i low = get_or-set_other rows m i row unmade_row (λ e. omega arith)

    new_row : (i : ℕ) → i ≡ m → row_at (set rows m row) i ≡ row
    new_row i e = ap (row_at (set rows m row)) e ∙ get_or-set_same rows m row unmade_row inside

    numbered_more : row.number ≡ m + 1 → ((i : ℕ) → i < m → (row_at rows i).number ≡ i + 1) → (i : ℕ) → i < m + 1 → (row_at (set rows m row) i).number ≡ i + 1
    numbered_more is before i lt =
        ⊎_elim (λ e. ap (λ r. r.number) (new_row i e) ∙ is ∙ ap (λ n. n + 1) (sym e))
        (λ ne. let low : i < m = omega arith in ap (λ r. r.number) (old_row i low) ∙ before i low) (cases_eq i m)

    stubs_more : (k : ℕ) (s : S) → Stubs P sketch k s rows m → StubRow P sketch s k row → Stubs P sketch (k + 1) s (set rows m row) (m + 1)
    stubs_more k s before here = (
      let le = before.0 in omega arith,
      λ w lt.
          let le = before.0 in
          let place : m + 1 - (k + 1) + w ≡ m - k + w = omega arith in
          ⊎_elim
          (λ e.
          let last : m + 1 - (k + 1) + w ≡ m = omega arith in
          subst (StubRow P sketch s w) (sym (new_row (m + 1 - (k + 1) + w) last)) (subst (λ x. StubRow P sketch s x row) (sym e) here))
          (λ ne.
          let less : w < k = omega arith in
          let low : m + 1 - (k + 1) + w < m = omega arith in
          subst (StubRow P sketch s w) (sym (old_row (m + 1 - (k + 1) + w) low ∙ ap (row_at rows) place)) (before.1 w less))
          (cases_eq w k),
    )

  -- one search of width k from s on that was not refused
  module _ (k : ℕ) (s : S) (e l m : ℕ) (mem : Memory S) (fine : fault_at N k (at s e l m) mem ≡ None) where
    abbrev g : Snapshot S
    g = at_its_end N k (at s e l m) mem

    faults : (opening_fault N k (at s e l m) (length mem.nodes) (length mem.marks) ≡ None) × (closing_fault N k (at s e l m) g (length mem.plan) ≡ None)
    faults = first_none _ _ fine

    plan_is : (memory_after N k (at s e l m) mem).plan ≡ plan_written N k (at s e l m) mem.nodes mem.marks (way_at g) mem.plan
    plan_is = ap (λ f. unless f mem.plan (plan_written N k (at s e l m) mem.nodes mem.marks (way_at g) mem.plan)) fine

    rows_are : (memory_after N k (at s e l m) mem).rows ≡ set mem.rows m (row_of (m + 1) k g)
    rows_are = ap (λ f. unless f mem.rows (set mem.rows m (row_of (m + 1) k g))) fine

    -- the steps with those of the way that was found
    steps_more : (o : Option Way) → way_refused N k (at s e l m) o g.nodes (length mem.plan) ≡ None
        → Leads P P.start (take l mem.plan) s → length (take l mem.plan) ≡ l
        → Leads P P.start (take (l + way_length o) (plan_written N k (at s e l m) mem.nodes mem.marks o mem.plan)) (end_of P s (way_actions g.nodes o))
        × (length (take (l + way_length o) (plan_written N k (at s e l m) mem.nodes mem.marks o mem.plan)) ≡ l + way_length o)
    steps_more None is leads long = (
      subst (λ n. Leads P P.start (take n mem.plan) s) (sym (add-zero l)) leads,
      subst (λ n. length (take n mem.plan) ≡ n) (sym (add-zero l)) long,
    )
    steps_more (Some w) is leads long =
        let states = passed (ltb (length g.nodes) (tuple_count N k)) FewPlaces _ is in
        let room = passed (ltb (min (length mem.plan) 4096) (l + w.length)) PlanFull _ states.1 in
        let fits = ltb-false _ _ room.0 in
        let holds = not_broken (way_holds (subproblem P sketch s) g.nodes w) BrokenWay room.1 in
        let many = holds_long (subproblem P sketch s) g.nodes w holds in
        let inside : l ≤ length mem.plan = omega arith in
        let front = front_placed mem.plan (actions_of g.nodes w) l w.length many inside in
        let runs = (runs_below P sketch s (actions_of g.nodes w) s (holds_runs (subproblem P sketch s) g.nodes w holds)).0 in (
          subst (λ xs. Leads P P.start xs (end_of P s (actions_of g.nodes w))) (sym front)
              (leads_append P (take l mem.plan) (actions_of g.nodes w) P.start s (end_of P s (actions_of g.nodes w)) leads runs),
          ap length front ∙ length-append (take l mem.plan) (actions_of g.nodes w) ∙ ap₂ (λ a b. a + b) long many,
        )

    -- a search without a find excludes
    module _ (missed : found_at N k (at s e l m) mem ≡ false) where
      fair_here : Fair (tuple_task (subproblem P sketch s) k)
      fair_here = fair (subproblem P sketch s) (subproblem_lawful P sketch s lawful) (tuple_keys N k) (tuple_count N k) (keys_below N k) (some_key N k)

      stub_here : StubRow P sketch s k (row_of (m + 1) k g)
      stub_here =
          let begun = (first_none (tuples_fault N k) _ faults.0).1 in
          let many = passed (not (ltb m 65535)) ManySearches _ begun in
          let off = passed (P.target s) TargetHere _ many.1 in
          let room = or_parts (ltb (length mem.nodes) (tuple_count N k)) (ltb (length mem.marks) (tuple_count N k)) (passed _ FewPlaces None off.1).0 in
          let apart : accepts_step sketch (P.truths s) (P.truths s) ≡ false =
          ⊎_elim (λ bad. absurd (no_standstill sketch (P.truths s) bad)) (λ good. good) (cases_Bool (accepts_step sketch (P.truths s) (P.truths s))) in
          let W = whole_findings (tuple_task (subproblem P sketch s) k) fair_here mem.nodes mem.marks (ltb-false _ _ room.0) (ltb-false _ _ room.1)
          (or_from (P.target s) (accepts_step sketch (P.truths s) (P.truths s)) off.0 apart) in
          (refl, no_steps (way_at g) missed, W.findings.exclusion (ended_exhausted (outcome_at g) (none_found (outcome_at g) missed) W.ends))

      -- nothing was found, so the run stands where it stood
      stays : end_of P s (way_actions g.nodes (way_at g)) ≡ s
      stays = go (way_at g) missed
        where
          go : (o : Option Way) → is_some o ≡ false → end_of P s (way_actions g.nodes o) ≡ s
          go None h = refl
          go (Some w) h = let no : ◌≡◌ {A = Bool} true false = h in let z : ◌≡◌ {A = ℕ} 0 1 = cc in absurd (omega arith)

    -- what holds before the next search, or of the report; k' is a width whose stubs stand
    module _ (free : ℕ) (X : Sound (suc free) k s l m mem.plan mem.rows) where
      inside : m < length mem.rows
      inside = let r = X.room in omega arith

      abbrev next : View S Tuples
      next = view_after N k (at s e l m) mem

      abbrev left : Memory S
      left = memory_after N k (at s e l m) mem

      steps_after : Leads P P.start (take next.length left.plan) next.current × (length (take next.length left.plan) ≡ next.length)
      steps_after =
          subst (λ xs. Leads P P.start (take next.length xs) next.current × (length (take next.length xs) ≡ next.length)) (sym plan_is)
          (steps_more (way_at g) faults.1 X.leads X.long)

      numbered_after : (i : ℕ) → i < m + 1 → (row_at left.rows i).number ≡ i + 1
      numbered_after =
          subst (λ rs. (i : ℕ) → i < m + 1 → (row_at rs i).number ≡ i + 1) (sym rows_are) (numbered_more mem.rows m (row_of (m + 1) k g) inside refl X.numbered)

      room_after : m + 1 + free ≡ length left.rows
      room_after = let r = X.room in let same = ap length rows_are ∙ length-set mem.rows m (row_of (m + 1) k g) in omega arith

      stubs_after : found_at N k (at s e l m) mem ≡ false → Stubs P sketch (k + 1) next.current left.rows (m + 1)
      stubs_after missed =
          subst (λ t. Stubs P sketch (k + 1) t left.rows (m + 1)) (sym (stays missed))
          (subst (λ rs. Stubs P sketch (k + 1) s rs (m + 1)) (sym rows_are) (stubs_more mem.rows m (row_of (m + 1) k g) inside k s X.stubs (stub_here missed)))

      -- the next search is of width j
      sound_after : (j : ℕ) → next_width (found_at N k (at s e l m) mem) k ≡ Some j
          → Sound free j next.current next.length (m + 1) left.plan left.rows
      sound_after j is = record {
        leads = steps_after.0;
        long = steps_after.1;
        room = room_after;
        numbered = numbered_after;
        stubs = by_find (found_at N k (at s e l m) mem) refl is;
      }
        where
          by_less : (b : Bool) → found_at N k (at s e l m) mem ≡ false → cond b (Some (k + 1)) None ≡ Some j → Stubs P sketch j next.current left.rows (m + 1)
          by_less true missed h = let same : k + 1 ≡ j = cc in subst (λ n. Stubs P sketch n next.current left.rows (m + 1)) same (stubs_after missed)
          by_less false missed h = let no : ◌≡◌ {A = ℕ} 0 1 = cc in absurd (omega arith)

          by_find : (b : Bool) → found_at N k (at s e l m) mem ≡ b → next_width b k ≡ Some j → Stubs P sketch j next.current left.rows (m + 1)
          by_find true found h =
              let same : ◌≡◌ {A = ℕ} 0 j = cc in
              subst (λ n. Stubs P sketch n next.current left.rows (m + 1)) same (omega arith, λ w lt. absurd (omega arith))
          by_find false missed h = by_less (ltb k 2) missed h

      -- or it was the third stub
      third_after : k ≤ 2 → next_width (found_at N k (at s e l m) mem) k ≡ None → Reported P sketch (report next ThirdStub) left.plan left.rows
      third_after narrow is = record {
        end = next.current;
        leads = steps_after.0;
        long = steps_after.1;
        ends = by_find (found_at N k (at s e l m) mem) refl is;
        written = let r = room_after in omega arith;
        numbered = numbered_after;
      }
        where
          by_less : (b : Bool) → ltb k 2 ≡ b → found_at N k (at s e l m) mem ≡ false → cond b (Some (k + 1)) None ≡ None → Stubs P sketch 3 next.current left.rows (m + 1)
          by_less true low missed h = let no : ◌≡◌ {A = ℕ} 0 1 = cc in absurd (omega arith)
          by_less false high missed h =
              let wide = ltb-false k 2 high in
              let same : k + 1 ≡ 3 = omega arith in
              subst (λ n. Stubs P sketch n next.current left.rows (m + 1)) same (stubs_after missed)

          by_find : (b : Bool) → found_at N k (at s e l m) mem ≡ b → next_width b k ≡ None → Stubs P sketch 3 next.current left.rows (m + 1)
          by_find true found h = let no : ◌≡◌ {A = ℕ} 0 1 = cc in absurd (omega arith)
          by_find false missed h = by_less (ltb k 2) refl missed h

  -- at a target
  target_report : (free k : ℕ) (s : S) (e l m : ℕ) (mem : Memory S) → Sound free k s l m mem.plan mem.rows → P.target s ≡ true
      → Reported P sketch (report (at s e l m) AtTarget) mem.plan mem.rows
  target_report free k s e l m mem X on = record {
    end = s;
    leads = X.leads;
    long = X.long;
    ends = on;
    written = let r = X.room in omega arith;
    numbered = X.numbered;
  }

  narrow_next : (b : Bool) (k j : ℕ) → next_width b k ≡ Some j → j ≤ 2
  narrow_next true k j h = let same : ◌≡◌ {A = ℕ} 0 j = cc in omega arith
  narrow_next false k j h = go (ltb k 2) refl h
    where
      go : (b : Bool) → ltb k 2 ≡ b → cond b (Some (k + 1)) None ≡ Some j → j ≤ 2
      go true low is = let same : k + 1 ≡ j = cc in let lt = ltb-true k 2 low in omega arith
      go false high is = let no : ◌≡◌ {A = ℕ} 0 1 = cc in absurd (omega arith)

  -- one search more, where what comes after it is good
  module _ (free k : ℕ) (s : S) (e l m : ℕ) (mem : Memory S) (narrow : k ≤ 2) (X : Sound (suc free) k s l m mem.plan mem.rows) (off : P.target s ≡ false)
      (later : (j : ℕ) → j ≤ 2
      → Sound free j (view_after N k (at s e l m) mem).current (view_after N k (at s e l m) mem).length (m + 1) (memory_after N k (at s e l m) mem).plan
      (memory_after N k (at s e l m) mem).rows
      → Good (solve_from N free j (view_after N k (at s e l m) mem) (memory_after N k (at s e l m) mem))) where
    by_next : fault_at N k (at s e l m) mem ≡ None → (o : Option ℕ) → next_width (found_at N k (at s e l m) mem) k ≡ o
        → Good (solve_from N (suc free) k (at s e l m) mem)
    by_next fine None is =
        subst Good (sym (ends_with_stub N k (at s e l m) mem off (suc free) free refl fine is))
        (good_report (report (view_after N k (at s e l m) mem) ThirdStub) (memory_after N k (at s e l m) mem) (third_after k s e l m mem fine free X narrow is))
    by_next fine (Some j) is =
        subst Good (sym (goes_on_by N k (at s e l m) mem off (suc free) free refl fine j is))
        (later j (narrow_next (found_at N k (at s e l m) mem) k j is) (sound_after k s e l m mem fine free X j is))

    by_fault : (f : Option Refusal) → fault_at N k (at s e l m) mem ≡ f → Good (solve_from N (suc free) k (at s e l m) mem)
    by_fault (Some x) is =
        subst Good (sym (ends_refused N k (at s e l m) mem off (suc free) free refl x is)) (good_refusal x (memory_after N k (at s e l m) mem))
    by_fault None is = by_next is (next_width (found_at N k (at s e l m) mem) k) refl

  pub good : (free k : ℕ) (s : S) (e l m : ℕ) (mem : Memory S) → k ≤ 2 → Sound free k s l m mem.plan mem.rows → Good (solve_from N free k (at s e l m) mem)
  good zero k s e l m mem narrow X =
      ⊎_elim
      (λ on. subst Good (sym (ends_at_target N k (at s e l m) mem 0 on)) (good_report (report (at s e l m) AtTarget) mem (target_report 0 k s e l m mem X on)))
      (λ off. subst Good (sym (ends_without_row N k (at s e l m) mem off)) (good_refusal (Limit m) mem)) (cases_Bool (P.target s))
  good (suc free) k s e l m mem narrow X =
      ⊎_elim
      (λ on.
      subst Good (sym (ends_at_target N k (at s e l m) mem (suc free) on)) (good_report (report (at s e l m) AtTarget) mem (target_report (suc free) k s e l m mem X on)))
      (λ off.
      by_fault free k s e l m mem narrow X off
      (λ j low Y.
      good free j (view_after N k (at s e l m) mem).current (view_after N k (at s e l m) mem).effort (view_after N k (at s e l m) mem).length (m + 1)
      (memory_after N k (at s e l m) mem) low Y)
      (fault_at N k (at s e l m) mem) refl)
      (cases_Bool (P.target s))

  -- from the start on
  pub good_solved : (mem : Memory S) → Good (solve_from N (length mem.rows) 0 (at P.start 0 0 0) mem)
  good_solved mem =
      good (length mem.rows) 0 P.start 0 0 0 mem (omega arith)
      (record { leads = refl; long = refl; room = omega arith; numbered = λ i lt. absurd (omega arith); stubs = (omega arith, λ w lt. absurd (omega arith)) })

  -- what was replied and left, by the definition, says what a report says
  pub said : (mem : Memory S) {a : Answer S} → solved P sketch mem ≡ a → {r : Result Report Refusal} → r ≡ a.reply → {plan : List ℕ} → plan ≡ a.left.plan → {rows : List Row} → rows ≡ a.left.rows
      → (told : Report) → r ≡ Ok told → Reported P sketch told plan rows
  said mem {a} done {r} replied {plan} p {rows} q told ok =
      subst (λ xs. Reported P sketch told xs rows) (sym p)
      (subst (λ xs. Reported P sketch told a.left.plan xs) (sym q) (subst Good done (good_solved mem) told (sym replied ∙ ok)))
