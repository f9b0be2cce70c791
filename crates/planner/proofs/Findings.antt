-- What a search finds out, from what holds between its advances. Assumes nothing.
use Rattle.std.proofs.Common.{◌≡◌, ℕ, zero, suc, ◌<◌, ◌≤◌, Bool, true, false, cond, ltb, List, [], ◌∷◌, length, None, sym, refl, ap, ◌∙◌, subst, ⊎_elim, not-suc-le-zero, arith}
use Rattle.std.proofs.lemmas.List.{length_push}
use Rattle.std.proofs.lemmas.Bool.{cases_lt, lt-ltb, ltb-true, ltb-false, eq-eqb, le-ltb, cond-false, and_from, or_from}
use Rattle.domain.specs.Model.{Meaning}
use Rattle.planner.specs.Findings.{Findings, WholeFindings}
use Rattle.planner.specs.Search.{Task, Snapshot, link, keys_of, goes_on, tried_from, begun}
use Rattle.planner.specs.Way.{parent_of, way_to, root, actions_of, runs_to_target, way_holds}
use Rattle.planner.specs.Whole.{way_by, outcome_of, reply_of, Within, search_fault, after, at_end}
use Rattle.planner.specs.Width.{Leads, Target, Admissible}
use Rattle.planner.specs.declared.node.Node.{Node}
use Rattle.planner.specs.declared.node.Way.{Way}
use Rattle.planner.specs.declared.node.Reply.{Reply}
use Rattle.planner.specs.declared.node.Outcome.TheVariants.{Found, Exhausted, Open}
use Rattle.novelty.specs.Marks.{novel}
use Rattle.planner.proofs.Between.{Unmet, Met, Between, begins_expanding, advance_keeps, begin_holds}
use Rattle.planner.proofs.Chains.{Weighs, Recorded, none_admissible, target_heavier, leads_more}
use Rattle.planner.proofs.Expanding.{Fair, novel_place, try_all}
use Rattle.planner.proofs.Faithful.{state, Core, Done, leads_to_kept, deeper, kept_below_count}
use Rattle.planner.proofs.Links.{root_lower}
use Rattle.planner.proofs.Steps.{advanced_used}

-- the length of a way is a weight that every further action raises
pub length_weighs : Weighs length
length_weighs = record {
  lightest = λ xs. omega arith;
  rises = λ xs a. let e = length_push xs a in omega arith;
}

-- a way that leads to a target runs to it
pub leads_runs : {S : Type 0} (P : Meaning S) (xs : List ℕ) (s t : S) → Leads P s xs t → P.target t ≡ true → runs_to_target P s xs ≡ true
leads_runs P [] s t leads target = ap P.target leads ∙ target
leads_runs P (a ∷ xs) s t leads target = and_from _ _ leads.0 (leads_runs P xs (P.next s a) t leads.1 target)

module _ {S : Type 0} (Q : Task S) (F : Fair Q) where
  -- the links of a kept state lead back to the start
  root_below : {nodes : List (Node S)} {marks : List ℕ} {expanded kept : ℕ} → Core Q nodes marks expanded kept
      → (n i : ℕ) → i ≤ n → i < kept → root nodes i i ≡ 0
  unfolding root
  root_below C n zero le in' = refl
  root_below C zero (suc i) le in' = absurd (not-suc-le-zero le)
  root_below {nodes = nodes} C (suc n) (suc i) le in' =
      let lower = C.up (suc i) (omega arith) in' in
      root_lower nodes (suc i) lower ∙ root_below C n (parent_of nodes (suc i)) (omega arith) (omega arith)

  -- the memory as a record of kept states, of which those below n are closed
  recorded : {nodes : List (Node S)} {marks : List ℕ} {expanded kept : ℕ} (C : Core Q nodes marks expanded kept) (n : ℕ)
      → ((i : ℕ) → i < n → (b : ℕ) → Done Q nodes kept i b) → Recorded Q length length_weighs
  unfolding way_to
  recorded {nodes = nodes} {kept = kept} C n done = record {
    kept = kept;
    way_of = λ i. way_to nodes i i;
    state_of = state Q nodes;
    closed = λ i. ltb i n;
    some = C.some;
    first = refl;
    leads = leads_to_kept Q C;
    plain = C.plain;
    covered = λ i in' closed a app.
        let d = done i (ltb-true i n closed) a in (
          d.no_target app,
          λ k has.
              let at = d.covered app k has in
              let e = length_push (way_to nodes i i) a in
              let le = at.3 in
              (at.0, at.1, at.2, omega arith),
        );
  }

  -- no set is admissible once every kept state is expanded with no target met
  pub unmet_excludes : (g : Snapshot S) → Unmet Q F g → g.kept ≤ g.expanded → (T : ℕ → Bool) → Admissible Q T → ⊥
  unfolding recorded
  unmet_excludes g U none_waits T adm =
      none_admissible Q length length_weighs (recorded U.core g.expanded U.closed) T adm
      (λ j in'. lt-ltb j g.expanded (omega arith))

  module _ (g : Snapshot S) (M : Met Q F g) where
    -- the way that met the target
    abbrev pub found : Way
    found = way_by g.nodes (link M.last M.action)

    last_kept : M.last < g.kept
    last_kept = let a = M.is_last in let b = M.core.begins in omega arith

    pub met_leads : Leads Q.problem Q.problem.start (actions_of g.nodes found) (Q.problem.next (state Q g.nodes M.last) M.action)
    met_leads =
        leads_more Q.problem (way_to g.nodes M.last M.last) M.action _ _ _ (leads_to_kept Q M.core M.last last_kept) M.applies refl

    pub met_long : length (actions_of g.nodes found) ≡ found.length
    met_long = length_push (way_to g.nodes M.last M.last) M.action

    pub met_holds : way_holds Q.problem g.nodes found ≡ true
    met_holds =
        let inside : M.last < length g.nodes = let a = last_kept in let b = M.core.places in let c = kept_below_count Q M.core in omega arith in
        and_from _ _ (lt-ltb _ _ inside)
        (and_from _ _ (eq-eqb _ _ (root_below M.core M.last M.last (omega arith) last_kept))
        (and_from _ _ (eq-eqb _ _ met_long) (leads_runs Q.problem (actions_of g.nodes found) _ _ met_leads M.target)))

    -- A shorter way to a target would be no longer than the way to any state that is not closed, since those are at
    -- least as deep as the state from which the target was met.
    pub met_shortest : (T : ℕ → Bool) → Admissible Q T → (ys : List ℕ) (t : S) → Leads Q.problem Q.problem.start ys t → Target Q t
        → found.length ≤ length ys
    unfolding recorded
    met_shortest T adm ys t leads target =
        ⊎_elim
        (λ shorter.
        absurd
        (target_heavier Q length length_weighs (recorded M.core M.last M.closed) T adm F.below ys t leads target
        (λ j in' open'.
        let late = ltb-false j M.last open' in
        let deep = deeper Q M.core M.last j late in' in
        omega arith)))
        (λ le. le) (cases_lt (length ys) found.length)

-- a search that met no target did not find one
none_found : (b : Bool) (w : Way) → cond b Open Exhausted ≡ Found w → ⊥
none_found true w e = let z : ◌≡◌ {A = ℕ} 0 1 = cc in omega arith
none_found false w e = let z : ◌≡◌ {A = ℕ} 0 1 = cc in omega arith

exhausted_only : (b : Bool) → cond b Open Exhausted ≡ Exhausted → b ≡ false
exhausted_only true e = let z : ◌≡◌ {A = ℕ} 0 1 = cc in absurd (omega arith)
exhausted_only false e = refl

open_only : (b : Bool) → cond b Open Exhausted ≡ Open → b ≡ true
open_only true e = refl
open_only false e = let z : ◌≡◌ {A = ℕ} 0 1 = cc in absurd (omega arith)

same_way : (v w : Way) → Found v ≡ Found w → v ≡ w
same_way v w e = cc

not_open : (w : Way) → Found w ≡ Open → ⊥
not_open w e = let z : ◌≡◌ {A = ℕ} 0 1 = cc in omega arith

not_exhausted : (w : Way) → Found w ≡ Exhausted → ⊥
not_exhausted w e = let z : ◌≡◌ {A = ℕ} 0 1 = cc in omega arith

module _ {S : Type 0} (Q : Task S) (F : Fair Q) (g : Snapshot S) where
  unmet_findings : Unmet Q F g → Findings Q g.nodes (reply_of g)
  unmet_findings U =
      let b = ltb g.expanded g.kept in
      let is : outcome_of g.nodes g.met g.expanded g.kept ≡ cond b Open Exhausted = ap (λ m. outcome_of g.nodes m g.expanded g.kept) U.unmet in
      record {
        exclusion = λ e. unmet_excludes Q F g U (ltb-false _ _ (exhausted_only b (sym is ∙ e)));
        runs = λ w e. absurd (none_found b w (sym is ∙ e));
        long = λ w e. absurd (none_found b w (sym is ∙ e));
        holds = λ w e. absurd (none_found b w (sym is ∙ e));
        shortest = λ w e. absurd (none_found b w (sym is ∙ e));
        kept = kept_below_count Q U.core;
        expanded = U.core.begins;
      }

  met_findings : Met Q F g → Findings Q g.nodes (reply_of g)
  met_findings M =
      let v = found Q F g M in
      let is : outcome_of g.nodes g.met g.expanded g.kept ≡ Found v = ap (λ m. outcome_of g.nodes m g.expanded g.kept) M.met in
      record {
        exclusion = λ e. absurd (not_exhausted v (sym is ∙ e));
        runs = λ w e.
            let end = Q.problem.next (state Q g.nodes M.last) M.action in
            (end, subst (λ x. Leads Q.problem Q.problem.start (actions_of g.nodes x) end) (same_way v w (sym is ∙ e)) (met_leads Q F g M), M.target);
        long = λ w e. subst (λ x. length (actions_of g.nodes x) ≡ x.length) (same_way v w (sym is ∙ e)) (met_long Q F g M);
        holds = λ w e. subst (λ x. way_holds Q.problem g.nodes x ≡ true) (same_way v w (sym is ∙ e)) (met_holds Q F g M);
        shortest = λ w e T adm ys t l tgt. subst (λ x. x.length ≤ length ys) (same_way v w (sym is ∙ e)) (met_shortest Q F g M T adm ys t l tgt);
        kept = kept_below_count Q M.core;
        expanded = M.core.begins;
      }

  -- what holds between advances, a reply may say
  pub between_findings : Between Q F g → Findings Q g.nodes (reply_of g)
  between_findings B = ⊎_elim unmet_findings met_findings B

  -- the link that met a target is from a kept number
  pub between_within : Between Q F g → Within (length g.nodes) g.met
  between_within B =
      ⊎_elim (λ U. subst (Within (length g.nodes)) (sym U.unmet) tt)
      (λ M.
      let a = M.is_last in
      let b = M.core.begins in
      let c = kept_below_count Q M.core in
      let d = M.core.places in
      let inside : M.last < length g.nodes = omega arith in
      subst (Within (length g.nodes)) (sym M.met) inside)
      B

  -- an open search has a state that waits
  pub open_waits : Between Q F g → (reply_of g).outcome ≡ Open → goes_on g.met g.expanded g.kept ≡ true
  open_waits B e =
      ⊎_elim
      (λ U.
      let is = ap (λ m. outcome_of g.nodes m g.expanded g.kept) U.unmet in
      subst (λ m. goes_on m g.expanded g.kept ≡ true) (sym U.unmet) (open_only (ltb g.expanded g.kept) (sym is ∙ e)))
      (λ M. absurd (not_open (found Q F g M) (sym (ap (λ m. outcome_of g.nodes m g.expanded g.kept) M.met) ∙ e))) B

  -- while a search goes on, a novel state finds a place, after any number of tries of the next number's actions
  pub between_place : Between Q F g → goes_on g.met g.expanded g.kept ≡ true → (d : ℕ) (t : S)
      → let h = tried_from Q (state Q g.nodes g.expanded) g 0 d in novel (keys_of Q t) h.marks ≡ true → h.kept < Q.count
  between_place B on d t new =
      ⊎_elim (λ going. novel_place Q F going.core t new) (λ stopped. novel_place Q F stopped.core t new)
      (try_all Q F d 0 (state Q g.nodes g.expanded) g (begins_expanding Q F g B on) refl)

-- a whole search that is not refused
module _ {S : Type 0} (Q : Task S) (F : Fair Q) (nodes : List (Node S)) (marks : List ℕ) (places : Q.count ≤ length nodes)
    (table : Q.count ≤ length marks) (no_target : Q.problem.target Q.problem.start ≡ false) where
  pub after_holds : (n : ℕ) → Between Q F (after Q nodes marks n)
  after_holds n = advance_keeps Q F n (begun Q nodes marks) (begin_holds Q F nodes marks places table no_target)

  pub whole_findings : WholeFindings Q nodes marks (at_end Q nodes marks).nodes (reply_of (at_end Q nodes marks))
  whole_findings = record {
    ends = λ e.
        let B = after_holds Q.count in
        let on = open_waits Q F (at_end Q nodes marks) B e in
        let used = advanced_used Q Q.count (begun Q nodes marks) on in
        let few = (between_findings Q F (at_end Q nodes marks) B).kept in
        let waits = (begins_expanding Q F (at_end Q nodes marks) B on).waits in
        omega arith;
    findings = between_findings Q F (at_end Q nodes marks) (after_holds Q.count);
    place = λ n d on t new. between_place Q F (after Q nodes marks n) (after_holds n) on d t new;
  }

  pub not_refused : search_fault Q nodes marks ≡ None
  not_refused =
      cond-false _ _ _ no_target
      ∙ cond-false _ _ _ (or_from _ _ (le-ltb (length nodes) Q.count places) (le-ltb (length marks) Q.count table))

  -- h is the search at its end
  module _ (h : Snapshot S) (is : h ≡ at_end Q nodes marks) where
    pub end_within : Within (length h.nodes) h.met
    end_within = subst (λ g. Within (length g.nodes) g.met) (sym is) (between_within Q F (at_end Q nodes marks) (after_holds Q.count))

    pub end_findings : (r : Reply) → r ≡ reply_of h → WholeFindings Q nodes marks h.nodes r
    end_findings r said =
        subst (λ x. WholeFindings Q nodes marks h.nodes x) (sym said)
        (subst (λ g. WholeFindings Q nodes marks g.nodes (reply_of g)) (sym is) whole_findings)
