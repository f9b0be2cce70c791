-- Keeping a novel state keeps what the memory says. Assumes nothing.
use Rattle.std.proofs.Common.{◌≡◌, ℕ, suc, ◌+◌, ◌<◌, ◌≤◌, true, false, not, ◌≢◌, List, map, length, get_or, set, sym, ap, ◌∙◌, subst, ⊎_elim, arith}
use mathlib.Core.Path.{subst₃}
use Rattle.std.specs.List.{AllByRecursion}
use Rattle.std.proofs.lemmas.List.{map-set, get_or-set_same, get_or-set_other, length-map, length-set}
use Rattle.std.proofs.lemmas.Bool.{cases_eq, not_from_true, not_from_false, not-true}
use Rattle.novelty.specs.Marks.{unmarked, novel, marked}
use Rattle.planner.specs.Search.{Task, node, keys_of}
use Rattle.planner.specs.Way.{parent_of, action_of}
use Rattle.planner.specs.Width.{HasKey}
use Rattle.planner.specs.declared.node.Node.{Node}
use Rattle.planner.proofs.Chains.{among_below}
use Rattle.planner.proofs.Faithful.{depth, state, Core, Done}
use Rattle.planner.proofs.Links.{way_to_agrees, length_way_lower}
use Rattle.planner.proofs.Marking.{length_marked, marked_keeps, marked_all, marked_only, novel_some}
use Rattle.planner.proofs.Tally.{tally, tally_grows}

-- a part of each node, in a list where one node was written
module _ {S : Type 0} (part : Node S → ℕ) (nodes : List (Node S)) (n : ℕ) (x : Node S) where
  part_old : (i : ℕ) → i ≢ n → get_or (map part (set nodes n x)) i 0 ≡ get_or (map part nodes) i 0
  part_old i other = ap (λ xs. get_or xs i 0) (map-set part nodes n x) ∙ get_or-set_other (map part nodes) n i (part x) 0 other

  part_new : n < length nodes → get_or (map part (set nodes n x)) n 0 ≡ part x
  part_new within =
      ap (λ xs. get_or xs n 0) (map-set part nodes n x)
      ∙ get_or-set_same (map part nodes) n (part x) 0 (subst (λ m. n < m) (sym (length-map nodes part)) within)

module _ {S : Type 0} (Q : Task S) {nodes : List (Node S)} {marks : List ℕ} {expanded kept : ℕ}
    (C : Core Q nodes marks expanded kept) (waits : expanded < kept) (a : ℕ) (t : S) (room : kept < Q.count) where
  -- the nodes with t kept under the next number
  abbrev pub grown : List (Node S)
  grown = set nodes kept (node t expanded a)

  within : kept < length nodes
  within = let p = C.places in omega arith

  pub state_old : (i : ℕ) → i < kept → state Q grown i ≡ state Q nodes i
  state_old i old = let other : i ≢ kept = omega arith in ap (λ x. x.state) (get_or-set_other nodes kept i (node t expanded a) _ other)

  pub state_new : state Q grown kept ≡ t
  state_new = ap (λ x. x.state) (get_or-set_same nodes kept (node t expanded a) _ within)

  parent_old : (i : ℕ) → i < kept → parent_of grown i ≡ parent_of nodes i
  parent_old i old = let other : i ≢ kept = omega arith in part_old (λ x. x.parent) nodes kept (node t expanded a) i other

  parent_new : parent_of grown kept ≡ expanded
  parent_new = part_new (λ x. x.parent) nodes kept (node t expanded a) within

  action_old : (i : ℕ) → i < kept → action_of grown i ≡ action_of nodes i
  action_old i old = let other : i ≢ kept = omega arith in part_old (λ x. x.action) nodes kept (node t expanded a) i other

  action_new : action_of grown kept ≡ a
  action_new = part_new (λ x. x.action) nodes kept (node t expanded a) within

  pub depth_old : (i : ℕ) → i < kept → depth grown i ≡ depth nodes i
  depth_old i old = ap length (way_to_agrees nodes grown kept parent_old action_old i i old)

  pub depth_new : depth grown kept ≡ suc (depth nodes expanded)
  depth_new =
      let lower : parent_of grown kept < kept = subst (λ p. p < kept) (sym parent_new) waits in
      length_way_lower grown kept lower ∙ ap (λ p. suc (depth grown p)) parent_new ∙ ap suc (depth_old expanded waits)

  -- what is said of each kept number is said of the old ones and of the new one
  each : (R : ℕ → Type 0) → ((i : ℕ) → i < kept → R i) → R kept → (i : ℕ) → i < kept + 1 → R i
  each R old new i in' =
      ⊎_elim (λ e. subst R (sym e) new) (λ ne. old i (omega arith)) (cases_eq i kept)

  -- an action done stays done
  pub done_kept : (i b : ℕ) → i < kept → Done Q nodes kept i b → Done Q grown (kept + 1) i b
  done_kept i b old done = record {
    no_target = λ app.
        subst (λ s. Q.problem.target (Q.problem.next s b) ≡ false) (sym (state_old i old))
        (done.no_target (subst (λ s. Q.problem.applies s b ≡ true) (state_old i old) app));
    covered = λ app k has.
        let at = done.covered (subst (λ s. Q.problem.applies s b ≡ true) (state_old i old) app) k
        (subst (λ s. HasKey Q k (Q.problem.next s b)) (state_old i old) has) in
        let before = depth_old at.0 at.1 in
        let here = depth_old i old in
        let near = at.3 in
        (at.0, (let lt = at.1 in omega arith), subst (λ s. HasKey Q k s) (sym (state_old at.0 at.1)) at.2, omega arith);
  }

  module _ (app : Q.problem.applies (state Q nodes expanded) a ≡ true) (is : Q.problem.next (state Q nodes expanded) a ≡ t)
      (no_target : Q.problem.target t ≡ false) (below : AllByRecursion (λ k. k < Q.count) (keys_of Q t)) (new : novel (keys_of Q t) marks ≡ true) where
    -- action b applies in s and leads to u
    abbrev Goes : S → ℕ → S → Type 0
    Goes s b u = (Q.problem.applies s b ≡ true) × (Q.problem.next s b ≡ u)

    more_marked : tally (λ k. not (unmarked marks k)) Q.count < tally (λ k. not (unmarked (marked (keys_of Q t) marks) k)) Q.count
    more_marked =
        let n = novel_some (keys_of Q t) marks new in
        tally_grows _ _ (λ k e. not_from_false _ (marked_keeps (keys_of Q t) marks k (not-true _ e))) n.0 Q.count
        (among_below Q.count n.0 (keys_of Q t) below n.1) (not_from_true _ n.2) (not_from_false _ (marked_all (keys_of Q t) marks n.0 n.1))

    pub keep_core : Core Q grown (marked (keys_of Q t) marks) expanded (kept + 1)
    keep_core = record {
      places = subst (λ n. Q.count ≤ n) (sym (length-set nodes kept (node t expanded a))) C.places;
      table = subst (λ n. Q.count ≤ n) (sym (length_marked (keys_of Q t) marks)) C.table;
      some = omega arith;
      begins = omega arith;
      root = state_old 0 C.some ∙ C.root;
      up = λ i pos in'. each (λ j. 0 < j → parent_of grown j < j)
          (λ j old p. subst (λ q. q < j) (sym (parent_old j old)) (C.up j p old)) (λ p. subst (λ q. q < kept) (sym parent_new) waits) i in' pos;
      from = λ i pos in'. each (λ j. 0 < j → parent_of grown j ≤ expanded)
          (λ j old p. subst (λ q. q ≤ expanded) (sym (parent_old j old)) (C.from j p old)) (λ p. let e = parent_new in omega arith) i in' pos;
      order = λ i j pos early in'. each (λ m. (l : ℕ) → 0 < l → l ≤ m → parent_of grown l ≤ parent_of grown m)
          (λ m old l p le.
          let x = parent_old m old in
          let y = parent_old l (omega arith) in
          let z = C.order l m p le old in omega arith)
          (λ l p le.
          let x = parent_new in
          ⊎_elim (λ e. let y = ap (parent_of grown) e in omega arith)
          (λ ne.
          let old : l < kept = omega arith in
          let y = parent_old l old in
          let z = C.from l p old in omega arith)
          (cases_eq l kept))
          j in' i pos early;
      step = λ i pos in'. each (λ j. 0 < j → Goes (state Q grown (parent_of grown j)) (action_of grown j) (state Q grown j))
          (λ j old p.
          let lower : parent_of nodes j < kept = let u = C.up j p old in omega arith in
          subst₃ Goes (sym (ap (state Q grown) (parent_old j old) ∙ state_old (parent_of nodes j) lower)) (sym (action_old j old)) (sym (state_old j old)) (C.step j p old))
          (λ p. subst₃ Goes (sym (ap (state Q grown) parent_new ∙ state_old expanded waits)) (sym action_new) (sym state_new) (app, is)) i in' pos;
      plain = λ i in'. each (λ j. Q.problem.target (state Q grown j) ≡ false)
          (λ j old. ap Q.problem.target (state_old j old) ∙ C.plain j old) (ap Q.problem.target state_new ∙ no_target) i in';
      held = λ k lt e. ⊎_elim
          (λ before. let h = C.held k lt before in
          (h.0, (let l = h.1 in omega arith), subst (λ s. HasKey Q k s) (sym (state_old h.0 h.1)) h.2))
          (λ has. (kept, omega arith, subst (λ s. HasKey Q k s) (sym state_new) has))
          (marked_only (keys_of Q t) marks k e);
      marking = λ i in'. each (λ j. (k : ℕ) → HasKey Q k (state Q grown j) → unmarked (marked (keys_of Q t) marks) k ≡ false)
          (λ j old k has. marked_keeps (keys_of Q t) marks k (C.marking j old k (subst (λ s. HasKey Q k s) (state_old j old) has)))
          (λ k has. marked_all (keys_of Q t) marks k (subst (λ s. HasKey Q k s) state_new has)) i in';
      counted = let a = C.counted in let b = more_marked in omega arith;
    }
