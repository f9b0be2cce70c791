-- The numbers of a search keep to the count of keys, whatever the memory holds. Assumes nothing.
use Rattle.std.proofs.Common.{◌≡◌, ℕ, zero, suc, ◌<◌, ◌≤◌, true, not, ltb, List, is_some, Some, None, Option, sym, refl, subst, arith}
use Rattle.std.proofs.lemmas.Bool.{and_parts, cond_both, ltb-true, lt-ltb}
use Rattle.planner.specs.Search.{Task, Snapshot, snap, tried_from, expand_next, goes_on, advanced, state_at}
use Rattle.planner.specs.Stepwise.{Bounds, WayWithin, ReplyBounds}
use Rattle.planner.specs.Whole.{Within, linked, outcome_of, reply_by}
use Rattle.planner.specs.declared.node.Link.{Link}
use Rattle.planner.specs.declared.node.Node.{Node}
use Rattle.planner.specs.declared.node.Outcome.TheVariants.{Exhausted, Open}
use Rattle.planner.specs.declared.node.Progress.{Progress}
use Rattle.planner.specs.declared.node.Reply.{Reply}
use Rattle.planner.proofs.Steps.{after_try, after_tries, tried_from_expanded, tried_from_kept}

-- a test that a link is from a number below n, and the fact; a larger bound serves too
pub within_from : (n k : ℕ) (met : Option Link) → linked n met ≡ true → n ≤ k → Within k met
within_from n k (Some l) e le = let lt = ltb-true l.parent n e in omega arith
within_from n k None e le = tt

way_within : {S : Type 0} (n : ℕ) (nodes : List (Node S)) (met : Option Link) (expanded kept : ℕ) → linked n met ≡ true
    → WayWithin n (outcome_of nodes met expanded kept)
way_within n nodes (Some l) expanded kept e = ltb-true l.parent n e
way_within n nodes None expanded kept e = cond_both (ltb expanded kept) Open Exhausted (WayWithin n) (λ _. tt) (λ _. tt)

-- the reply keeps to what the progress keeps to
pub reply_bounds : {S : Type 0} (n : ℕ) (nodes : List (Node S)) (p : Progress) (r : Reply) → Bounds n p → r ≡ reply_by nodes p.met p.expanded p.kept
    → ReplyBounds n r
reply_bounds n nodes p r B e =
    subst (ReplyBounds n) (sym e)
    (record { kept = B.kept; expanded = B.expanded; way = way_within n nodes p.met p.expanded p.kept B.within })

module _ {S : Type 0} (Q : Task S) where
  -- what is expanded and kept, and the number that met a target, are within the count
  pub record Bounded (g : Snapshot S) : Type 0 where
    pub kept : g.kept ≤ Q.count
    pub expanded : g.expanded ≤ Q.count
    pub within : linked Q.count g.met ≡ true

  -- a target is met only from the number under expansion
  tried_linked : (s : S) (d : ℕ) (g : Snapshot S) (a : ℕ) → g.expanded < Q.count → linked Q.count g.met ≡ true
      → linked Q.count (tried_from Q s g a d).met ≡ true
  tried_linked s d g a lt e =
      (after_tries Q (λ h. (h.expanded ≡ g.expanded) × (linked Q.count h.met ≡ true)) s
      (λ h b r. after_try Q (λ k. (k.expanded ≡ g.expanded) × (linked Q.count k.met ≡ true)) s h b r
      (r.0, lt-ltb h.expanded Q.count (let x = r.0 in omega arith)) (λ _ _ _ _. r))
      d g a (refl, e)).1

  expand_bounded : (g : Snapshot S) → Bounded g → goes_on g.met g.expanded g.kept ≡ true → Bounded (expand_next Q g)
  expand_bounded g B on =
      let waits = ltb-true _ _ (and_parts (not (is_some g.met)) (ltb g.expanded g.kept) on).1 in
      let some = B.kept in
      let s = state_at Q.problem.start g.nodes g.expanded in
      let same = tried_from_expanded Q s Q.problem.actions g 0 in
      record {
        kept = tried_from_kept Q s Q.problem.actions g 0 B.kept;
        expanded = omega arith;
        within = tried_linked s Q.problem.actions g 0 (omega arith) B.within;
      }

  pub advanced_bounded : (n : ℕ) (g : Snapshot S) → Bounded g → Bounded (advanced Q n g)
  unfolding advanced
  advanced_bounded zero g B = B
  advanced_bounded (suc n) g B =
      cond_both (goes_on g.met g.expanded g.kept) (advanced Q n (expand_next Q g)) g Bounded
      (λ on. advanced_bounded n (expand_next Q g) (expand_bounded g B on)) (λ _. B)

  pub bounded_after : (n : ℕ) (g h : Snapshot S) → Bounded g → h ≡ advanced Q n g → Bounded h
  bounded_after n g h B e = subst Bounded (sym e) (advanced_bounded n g B)

  -- the progress keeps to the count over every advance
  pub bounds_after : (n : ℕ) (nodes nodes' : List (Node S)) (marks marks' : List ℕ) (p p' : Progress) → Bounds Q.count p
      → snap nodes' marks' p' ≡ advanced Q n (snap nodes marks p) → Bounds Q.count p'
  bounds_after n nodes nodes' marks marks' p p' B e =
      let before : Bounded (snap nodes marks p) = record { kept = B.kept; expanded = B.expanded; within = B.within } in
      let after = bounded_after n _ _ before e in
      record { some = B.some; few = B.few; kept = after.kept; expanded = after.expanded; within = after.within }
