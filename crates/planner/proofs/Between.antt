-- What holds between two advances of a search that alone writes its memory: beginning establishes it and every
-- advance keeps it. Assumes nothing.
use Rattle.std.proofs.Common.{◌≡◌, ℕ, zero, suc, ◌+◌, ◌<◌, ◌≤◌, true, false, not, ltb, ◌⊎◌, List, length, is_some, Some, None, sym, refl, ap, ◌∙◌, subst, inl, inr, ⊎_elim, arith}
use Rattle.std.proofs.lemmas.List.{length-set, get_or-set_same}
use Rattle.std.proofs.lemmas.Bool.{both_ways, cases_eq, cases_lt, cond_both, and_parts, ltb-true, not-true, not_from_false}
use Rattle.novelty.specs.Marks.{unmarked}
use Rattle.planner.specs.Search.{Task, Snapshot, node, link, keys_of, expand_next, one_more_expanded, goes_on, advanced, begun}
use Rattle.planner.specs.Width.{HasKey}
use Rattle.planner.specs.declared.node.Node.{Node}
use Rattle.planner.proofs.Chains.{among_below}
use Rattle.planner.proofs.Expanding.{Fair, Going, Stopped, try_all}
use Rattle.planner.proofs.Faithful.{state, Core, Done}
use Rattle.planner.proofs.Marking.{length_marked, length_cleared, cleared_unmarked, marked_all, marked_only, some_among}
use Rattle.planner.proofs.Steps.{some_count}
use Rattle.planner.proofs.Tally.{tally, tally_grows}

module _ {S : Type 0} (Q : Task S) (F : Fair Q) where
  -- no target is met yet: every action of every expanded number is done
  pub record Unmet (g : Snapshot S) : Type 0 where
    pub core : Core Q g.nodes g.marks g.expanded g.kept
    pub closed : (i : ℕ) → i < g.expanded → (b : ℕ) → Done Q g.nodes g.kept i b
    pub unmet : g.met ≡ None

  -- a target is met from the last expanded number; every action of the numbers before it is done
  pub record Met (g : Snapshot S) : Type 0 where
    pub core : Core Q g.nodes g.marks g.expanded g.kept
    pub last : ℕ
    pub is_last : g.expanded ≡ suc last
    pub closed : (i : ℕ) → i < last → (b : ℕ) → Done Q g.nodes g.kept i b
    pub action : ℕ
    pub met : g.met ≡ Some (link last action)
    pub applies : Q.problem.applies (state Q g.nodes last) action ≡ true
    pub target : Q.problem.target (Q.problem.next (state Q g.nodes last) action) ≡ true

  abbrev pub Between : Snapshot S → Type 0
  Between g = Unmet g ⊎ Met g

  -- the number under expansion is expanded
  counted_expanded : {nodes : List (Node S)} {marks : List ℕ} {expanded kept : ℕ} → Core Q nodes marks expanded kept → expanded < kept
      → Core Q nodes marks (expanded + 1) kept
  counted_expanded C waits = record {
    places = C.places;
    table = C.table;
    some = C.some;
    begins = omega arith;
    root = C.root;
    up = C.up;
    from = λ i pos in'. let le = C.from i pos in' in omega arith;
    order = C.order;
    step = C.step;
    plain = C.plain;
    held = C.held;
    marking = C.marking;
    counted = C.counted;
  }

  expanded_all : (h : Snapshot S) → Going Q F h (0 + Q.problem.actions) → Unmet (one_more_expanded Q h)
  expanded_all h G = record {
    core = counted_expanded G.core G.waits;
    closed = λ i lt b.
        ⊎_elim
        (λ e. subst (λ j. Done Q h.nodes h.kept j b) (sym e)
        (⊎_elim (λ low. G.tried_so_far b (omega arith))
        (λ high.
        let no_app = F.past (state Q h.nodes h.expanded) b high in
        record { no_target = λ app. absurd (both_ways _ no_app app); covered = λ app. absurd (both_ways _ no_app app) })
        (cases_lt b Q.problem.actions)))
        (λ ne. G.closed i (omega arith) b) (cases_eq i h.expanded);
    unmet = G.unmet;
  }

  expanded_to_target : (h : Snapshot S) → Stopped Q F h → Met (one_more_expanded Q h)
  expanded_to_target h X = record {
    core = counted_expanded X.core X.waits;
    last = h.expanded;
    is_last = omega arith;
    closed = X.closed;
    action = X.action;
    met = X.met;
    applies = X.applies;
    target = X.target;
  }

  -- a search that goes on begins to expand
  pub begins_expanding : (g : Snapshot S) → Between g → goes_on g.met g.expanded g.kept ≡ true → Going Q F g 0
  begins_expanding g B on =
      let parts = and_parts (not (is_some g.met)) (ltb g.expanded g.kept) on in
      ⊎_elim
      (λ U. record {
        core = U.core;
        waits = ltb-true _ _ parts.1;
        closed = U.closed;
        tried_so_far = λ b lt. absurd (omega arith);
        unmet = U.unmet;
      })
      (λ M. absurd (both_ways _ (not-true _ parts.0) (ap is_some M.met))) B

  pub expand_keeps : (g : Snapshot S) → Between g → goes_on g.met g.expanded g.kept ≡ true → Between (expand_next Q g)
  expand_keeps g B on =
      ⊎_elim (λ all. inl (expanded_all _ all)) (λ stop. inr (expanded_to_target _ stop))
      (try_all Q F Q.problem.actions 0 (state Q g.nodes g.expanded) g (begins_expanding g B on) refl)

  -- every advance keeps it
  pub advance_keeps : (n : ℕ) (g : Snapshot S) → Between g → Between (advanced Q n g)
  unfolding advanced
  advance_keeps zero g B = B
  advance_keeps (suc n) g B =
      cond_both (goes_on g.met g.expanded g.kept) (advanced Q n (expand_next Q g)) g Between
      (λ on. advance_keeps n (expand_next Q g) (expand_keeps g B on))
      (λ _. B)

  -- beginning establishes it
  module _ (nodes : List (Node S)) (marks : List ℕ) (places : Q.count ≤ length nodes) (table : Q.count ≤ length marks)
      (no_target : Q.problem.target Q.problem.start ≡ false) where
    -- the marks and the nodes at the beginning
    table_then : List ℕ
    table_then = (begun Q nodes marks).marks

    nodes_then : List (Node S)
    nodes_then = (begun Q nodes marks).nodes

    at_start : state Q nodes_then 0 ≡ Q.problem.start
    unfolding nodes_then
    at_start =
        let one = some_count Q.count (keys_of Q Q.problem.start) (F.some Q.problem.start) (F.below Q.problem.start) in
        let room : 0 < length nodes = omega arith in
        ap (λ x. x.state) (get_or-set_same nodes 0 (node Q.problem.start 0 0) _ room)

    -- a number below 1 is 0
    only_start : (R : ℕ → Type 0) → R 0 → (i : ℕ) → i < 1 → R i
    only_start R here i lt = let e : 0 ≡ i = omega arith in subst R e here

    one_marked : 1 ≤ tally (λ k. not (unmarked table_then k)) Q.count
    unfolding table_then
    one_marked =
        let k = some_among (keys_of Q Q.problem.start) (F.some Q.problem.start) in
        let more = tally_grows (λ _. false) (λ j. not (unmarked table_then j)) (λ j e. absurd (both_ways false refl e)) k.0 Q.count
        (among_below Q.count k.0 (keys_of Q Q.problem.start) (F.below Q.problem.start) k.1) refl
        (not_from_false _ (marked_all (keys_of Q Q.problem.start) _ k.0 k.1)) in
        omega arith

    begin_core : Core Q nodes_then table_then 0 1
    unfolding nodes_then table_then
    begin_core = record {
      places = subst (λ n. Q.count ≤ n) (sym (length-set nodes 0 (node Q.problem.start 0 0))) places;
      table = subst (λ n. Q.count ≤ n) (sym (length_marked (keys_of Q Q.problem.start) _ ∙ length_cleared Q.count marks table)) table;
      some = omega arith;
      begins = omega arith;
      root = at_start;
      up = λ i pos lt. absurd (omega arith);
      from = λ i pos lt. absurd (omega arith);
      order = λ i j pos early lt. absurd (omega arith);
      step = λ i pos lt. absurd (omega arith);
      plain = only_start (λ i. Q.problem.target (state Q nodes_then i) ≡ false) (ap Q.problem.target at_start ∙ no_target);
      held = λ k lt e.
          ⊎_elim (λ before. absurd (both_ways _ before (cleared_unmarked Q.count marks k lt)))
          (λ has. (0, omega arith, subst (λ s. HasKey Q k s) (sym at_start) has)) (marked_only (keys_of Q Q.problem.start) _ k e);
      marking = only_start (λ i. (k : ℕ) → HasKey Q k (state Q nodes_then i) → unmarked table_then k ≡ false)
          (λ k has. marked_all (keys_of Q Q.problem.start) _ k (subst (λ s. HasKey Q k s) at_start has));
      counted = one_marked;
    }

    pub begin_holds : Between (begun Q nodes marks)
    unfolding nodes_then table_then
    begin_holds = inl (record { core = begin_core; closed = λ i lt. absurd (omega arith); unmet = refl })
