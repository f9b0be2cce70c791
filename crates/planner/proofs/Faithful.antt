-- What the memory of a search says as long as the search alone writes it. Assumes nothing.
use Rattle.std.proofs.Common.{◌≡◌, ℕ, zero, suc, ◌<◌, ◌≤◌, true, false, not, List, length, sym, refl, subst, not-suc-le-zero, arith}
use Rattle.std.proofs.lemmas.Bool.{not_from_true}
use Rattle.novelty.specs.Marks.{unmarked}
use Rattle.planner.specs.Search.{Task, state_at}
use Rattle.planner.specs.Way.{parent_of, action_of, way_to}
use Rattle.planner.specs.Width.{Leads, HasKey}
use Rattle.planner.specs.declared.node.Node.{Node}
use Rattle.planner.proofs.Chains.{leads_more}
use Rattle.planner.proofs.Links.{way_to_lower, length_way_lower}
use Rattle.planner.proofs.Tally.{tally, tally_le, tally_room}

-- the depth of a number: how many links lead from it back to the start
abbrev pub depth : {S : Type 0} → List (Node S) → ℕ → ℕ
depth nodes i = length (way_to nodes i i)

module _ {S : Type 0} (Q : Task S) where
  abbrev pub state : List (Node S) → ℕ → S
  state nodes i = state_at Q.problem.start nodes i

  -- The kept states and the marks. Each kept state but the start was reached from a lower number, by an action that
  -- applies there; those reached from lower numbers come first; a key is marked where a kept state has it, and
  -- nowhere else; no kept state is a target; there are at least as many marked keys as kept states.
  pub record Core (nodes : List (Node S)) (marks : List ℕ) (expanded kept : ℕ) : Type 0 where
    pub places : Q.count ≤ length nodes
    pub table : Q.count ≤ length marks
    pub some : 0 < kept
    pub begins : expanded ≤ kept
    pub root : state nodes 0 ≡ Q.problem.start
    pub up : (i : ℕ) → 0 < i → i < kept → parent_of nodes i < i
    pub from : (i : ℕ) → 0 < i → i < kept → parent_of nodes i ≤ expanded
    pub order : (i j : ℕ) → 0 < i → i ≤ j → j < kept → parent_of nodes i ≤ parent_of nodes j
    pub step : (i : ℕ) → 0 < i → i < kept
        → (Q.problem.applies (state nodes (parent_of nodes i)) (action_of nodes i) ≡ true)
        × (Q.problem.next (state nodes (parent_of nodes i)) (action_of nodes i) ≡ state nodes i)
    pub plain : (i : ℕ) → i < kept → Q.problem.target (state nodes i) ≡ false
    pub held : (k : ℕ) → k < Q.count → unmarked marks k ≡ false → (i : ℕ) × (i < kept) × HasKey Q k (state nodes i)
    pub marking : (i : ℕ) → i < kept → (k : ℕ) → HasKey Q k (state nodes i) → unmarked marks k ≡ false
    pub counted : kept ≤ tally (λ k. not (unmarked marks k)) Q.count

  -- action a was tried in number i: it led to no target, and each key of where it led is had by a kept state that is
  -- at most one deeper
  pub record Done (nodes : List (Node S)) (kept i a : ℕ) : Type 0 where
    pub no_target : Q.problem.applies (state nodes i) a ≡ true → Q.problem.target (Q.problem.next (state nodes i) a) ≡ false
    pub covered : Q.problem.applies (state nodes i) a ≡ true → (k : ℕ) → HasKey Q k (Q.problem.next (state nodes i) a)
        → (j : ℕ) × (j < kept) × HasKey Q k (state nodes j) × (depth nodes j ≤ suc (depth nodes i))

  module _ {nodes : List (Node S)} {marks : List ℕ} {expanded kept : ℕ} (C : Core nodes marks expanded kept) where
    -- the way to a kept state leads to it
    leads_below : (n i : ℕ) → i ≤ n → i < kept → Leads Q.problem Q.problem.start (way_to nodes i i) (state nodes i)
    unfolding way_to
    leads_below n zero le within = sym C.root
    leads_below zero (suc i) le within = absurd (not-suc-le-zero le)
    leads_below (suc n) (suc i) le within =
        let lower = C.up (suc i) (omega arith) within in
        let p = parent_of nodes (suc i) in
        let here = C.step (suc i) (omega arith) within in
        subst (λ xs. Leads Q.problem Q.problem.start xs (state nodes (suc i))) (sym (way_to_lower nodes (suc i) lower))
        (leads_more Q.problem (way_to nodes p p) (action_of nodes (suc i)) _ _ _ (leads_below n p (omega arith) (omega arith)) here.0 here.1)

    pub leads_to_kept : (i : ℕ) → i < kept → Leads Q.problem Q.problem.start (way_to nodes i i) (state nodes i)
    leads_to_kept i within = leads_below i i (omega arith) within

    depth_start : depth nodes 0 ≡ 0
    unfolding way_to
    depth_start = refl

    -- a state that was kept later is no less deep, since it was reached from no lower number
    deeper_below : (n i j : ℕ) → j ≤ n → i ≤ j → j < kept → depth nodes i ≤ depth nodes j
    deeper_below n zero j le early within = let e = depth_start in omega arith
    deeper_below n (suc i) zero le early within = absurd (not-suc-le-zero early)
    deeper_below zero (suc i) (suc j) le early within = absurd (not-suc-le-zero le)
    deeper_below (suc n) (suc i) (suc j) le early within =
        let a = length_way_lower nodes (suc i) (C.up (suc i) (omega arith) (omega arith)) in
        let b = length_way_lower nodes (suc j) (C.up (suc j) (omega arith) within) in
        let lower = C.up (suc j) (omega arith) within in
        let c = deeper_below n (parent_of nodes (suc i)) (parent_of nodes (suc j)) (omega arith) (C.order (suc i) (suc j) (omega arith) early within) (omega arith) in
        omega arith

    pub deeper : (i j : ℕ) → i ≤ j → j < kept → depth nodes i ≤ depth nodes j
    deeper i j early within = deeper_below j i j (omega arith) early within

    -- while number e is expanded no kept state is more than one deeper than e
    pub near : (j : ℕ) → j < kept → expanded < kept → depth nodes j ≤ suc (depth nodes expanded)
    near zero within waits = let e = depth_start in omega arith
    near (suc j) within waits =
        let a = length_way_lower nodes (suc j) (C.up (suc j) (omega arith) within) in
        let b = deeper (parent_of nodes (suc j)) expanded (C.from (suc j) (omega arith) within) waits in
        omega arith

    -- each kept state marked a key of its own, so no more are kept than there are keys
    pub kept_below_count : kept ≤ Q.count
    kept_below_count = let a = C.counted in let b = tally_le (λ k. not (unmarked marks k)) Q.count in omega arith

    -- a key that is not marked: a place is free
    pub place_free : (k : ℕ) → k < Q.count → unmarked marks k ≡ true → kept < Q.count
    place_free k within free =
        let a = C.counted in
        let b = tally_room (λ j. not (unmarked marks j)) k Q.count within (not_from_true (unmarked marks k) free) in
        omega arith
