-- Trying actions, expanding and advancing keep what the memory says. Assumes nothing.
use Rattle.std.proofs.Common.{◌≡◌, ℕ, zero, suc, ◌+◌, ◌<◌, ◌≤◌, Bool, true, false, cond, ◌&&◌, ltb, ◌⊎◌, List, length, is_some, Some, None, sym, refl, ap, ◌∙◌, subst, inl, inr, ⊎_elim, arith}
use Rattle.std.specs.List.{AllByRecursion}
use Rattle.std.proofs.lemmas.Bool.{both_ways, cases_eq, cases_Bool, cond_both, cond-true, cond-false, and_parts, and_cases, ltb-true, lt-ltb}
use Rattle.novelty.specs.Marks.{novel}
use Rattle.planner.specs.Search.{Task, Snapshot, keys_of, keep, meet, arrive, tried, tried_from, link}
use Rattle.planner.specs.Width.{HasKey}
use Rattle.planner.specs.declared.node.Node.{Node}
use Rattle.planner.proofs.Chains.{among_below}
use Rattle.planner.proofs.Faithful.{state, Core, Done, near, place_free}
use Rattle.planner.proofs.Keeping.{grown, state_old, state_new, depth_old, depth_new, done_kept, keep_core}
use Rattle.planner.proofs.Marking.{novel_some, novel_none}

-- what the laws of model and measure give: keys are below the count, each state has one, and no action past the
-- count of actions applies
pub record Fair {S : Type 0} (Q : Task S) : Type 0 where
  pub below : (s : S) → AllByRecursion (λ k. k < Q.count) (keys_of Q s)
  pub some : (s : S) → 1 ≤ length (keys_of Q s)
  pub past : (s : S) (a : ℕ) → Q.problem.actions ≤ a → Q.problem.applies s a ≡ false

module _ {S : Type 0} (Q : Task S) (F : Fair Q) where
  -- a novel state always finds a place: it has an unmarked key, and no more states are kept than keys are marked
  pub novel_place : {nodes : List (Node S)} {marks : List ℕ} {expanded kept : ℕ} → Core Q nodes marks expanded kept
      → (u : S) → novel (keys_of Q u) marks ≡ true → kept < Q.count
  novel_place {marks = marks} C u new =
      let n = novel_some (keys_of Q u) marks new in
      place_free Q C n.0 (among_below Q.count n.0 (keys_of Q u) (F.below u) n.1) n.2

  -- number `expanded` is under expansion, and the actions below a are tried
  pub record Going (g : Snapshot S) (a : ℕ) : Type 0 where
    pub core : Core Q g.nodes g.marks g.expanded g.kept
    pub waits : g.expanded < g.kept
    pub closed : (i : ℕ) → i < g.expanded → (b : ℕ) → Done Q g.nodes g.kept i b
    pub tried_so_far : (b : ℕ) → b < a → Done Q g.nodes g.kept g.expanded b
    pub unmet : g.met ≡ None

  -- an action led from the number under expansion to a target
  pub record Stopped (g : Snapshot S) : Type 0 where
    pub core : Core Q g.nodes g.marks g.expanded g.kept
    pub waits : g.expanded < g.kept
    pub closed : (i : ℕ) → i < g.expanded → (b : ℕ) → Done Q g.nodes g.kept i b
    pub action : ℕ
    pub met : g.met ≡ Some (link g.expanded action)
    pub applies : Q.problem.applies (state Q g.nodes g.expanded) action ≡ true
    pub target : Q.problem.target (Q.problem.next (state Q g.nodes g.expanded) action) ≡ true

  module _ (g : Snapshot S) (a : ℕ) (G : Going g a) where
    s : S
    s = state Q g.nodes g.expanded

    t : S
    unfolding s
    t = Q.problem.next s a

    -- one more action done leaves the rest as it is
    going : Done Q g.nodes g.kept g.expanded a → Going g (a + 1)
    going done = record {
      core = G.core;
      waits = G.waits;
      closed = G.closed;
      tried_so_far = λ b lt. ⊎_elim (λ e. subst (Done Q g.nodes g.kept g.expanded) (sym e) done) (λ ne. G.tried_so_far b (omega arith)) (cases_eq b a);
      unmet = G.unmet;
    }

    -- an action that does not apply is done
    idle : Q.problem.applies s a ≡ false → Done Q g.nodes g.kept g.expanded a
    unfolding s
    idle no_app = record {
      no_target = λ app. absurd (both_ways _ no_app app);
      covered = λ app. absurd (both_ways _ no_app app);
    }

    -- a state that is dropped has no key that is not had already
    dropped : Q.problem.target t ≡ false → (novel (keys_of Q t) g.marks && ltb g.kept Q.count) ≡ false → Done Q g.nodes g.kept g.expanded a
    unfolding s t
    dropped no_target drop =
        let old = ⊎_elim (λ e. e)
        (λ no_room. ⊎_elim (λ new. absurd (both_ways _ no_room (lt-ltb _ _ (novel_place G.core t new)))) (λ e. e) (cases_Bool (novel (keys_of Q t) g.marks)))
        (and_cases (novel (keys_of Q t) g.marks) (ltb g.kept Q.count) drop) in
        record {
          no_target = λ _. no_target;
          covered = λ _ k has.
              let at = G.core.held k (among_below Q.count k (keys_of Q t) (F.below t) has) (novel_none (keys_of Q t) g.marks old k has) in
              (at.0, at.1, at.2, near Q G.core at.0 at.1 G.waits);
        }

    -- a novel state is kept, and has each of its keys
    kept : Q.problem.applies s a ≡ true → Q.problem.target t ≡ false → novel (keys_of Q t) g.marks ≡ true → g.kept < Q.count
        → Going (keep Q g a t) (a + 1)
    unfolding s t
    kept app no_target new room =
        let C = G.core in
        let same = state_old Q C G.waits a t room g.expanded G.waits in
        record {
          core = keep_core Q C G.waits a t room app refl no_target (F.below t) new;
          waits = let w = G.waits in omega arith;
          closed = λ i lt b. done_kept Q C G.waits a t room i b (let w = G.waits in omega arith) (G.closed i lt b);
          tried_so_far = λ b lt.
              ⊎_elim
              (λ e. subst (Done Q (grown Q C G.waits a t room) (g.kept + 1) g.expanded) (sym e)
              (record {
                no_target = λ _. subst (λ u. Q.problem.target (Q.problem.next u a) ≡ false) (sym same) no_target;
                covered = λ _ k has.
                    let deep = depth_new Q C G.waits a t room in
                    let here = depth_old Q C G.waits a t room g.expanded G.waits in (
                      g.kept,
                      omega arith,
                      subst (λ u. HasKey Q k u) (sym (state_new Q C G.waits a t room)) (subst (λ u. HasKey Q k (Q.problem.next u a)) same has),
                      omega arith,
                    );
              }))
              (λ ne. done_kept Q C G.waits a t room g.expanded b G.waits (G.tried_so_far b (omega arith))) (cases_eq b a);
          unmet = G.unmet;
        }

    -- after a try: the expansion goes on, or a target stopped it; the state under expansion is as it was
    abbrev TriedTo : Snapshot S → Type 0
    TriedTo h = (Going h (a + 1) ⊎ Stopped h) × (state Q h.nodes h.expanded ≡ state Q g.nodes g.expanded)

    try_one : TriedTo (tried Q (state Q g.nodes g.expanded) g a)
    unfolding s t
    try_one =
        cond_both (Q.problem.applies s a) (arrive Q g a t) g TriedTo
        (λ app.
        cond_both (Q.problem.target t) (meet Q g a) (cond new (keep Q g a t) g) TriedTo
        (λ at_Target. (inr (record { core = G.core; waits = G.waits; closed = G.closed; action = a; met = refl; applies = app; target = at_Target }), refl))
        (λ no_target.
        cond_both new (keep Q g a t) g TriedTo
        (λ both.
        let parts = and_parts (novel (keys_of Q t) g.marks) (ltb g.kept Q.count) both in
        let room = ltb-true _ _ parts.1 in
        (inl (kept app no_target parts.0 room), state_old Q G.core G.waits a t room g.expanded G.waits))
        (λ drop. (inl (going (dropped no_target drop)), refl))))
        (λ no_app. (inl (going (idle no_app)), refl))
      where
        new : Bool
        new = novel (keys_of Q t) g.marks && ltb g.kept Q.count

  -- the d actions from a on
  pub try_all : (d a : ℕ) (u : S) (g : Snapshot S) → Going g a → state Q g.nodes g.expanded ≡ u
      → Going (tried_from Q u g a d) (a + d) ⊎ Stopped (tried_from Q u g a d)
  unfolding tried_from
  try_all zero a u g G is = inl (subst (Going g) (omega arith) G)
  try_all (suc d) a u g G is =
      let h = tried Q u g a in
      let one = subst (λ v. TriedTo g a G (tried Q v g a)) is (try_one g a G) in
      ⊎_elim
      (λ on.
      subst (λ v. Going v (a + suc d) ⊎ Stopped v) (sym (cond-false (is_some h.met) h _ (ap is_some on.unmet)))
      (⊎_elim (λ x. inl (subst (Going _) (omega arith) x)) inr (try_all d (a + 1) u h on (one.1 ∙ is))))
      (λ stop.
      inr (subst Stopped (sym (cond-true (is_some h.met) h _ (ap is_some stop.met))) stop))
      one.0
