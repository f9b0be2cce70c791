-- The way back by links, one link at a time. Assumes nothing.
use Rattle.std.proofs.Common.{◌≡◌, ℕ, zero, suc, ◌<◌, ◌≤◌, Bool, true, false, cond, ltb, List, [], ◌∷◌, ◌++◌, length, get_or, take, Some, None, sym, refl, ap, ◌∙◌, subst, ap₂, ⊎_elim, not-suc-le-zero, add-one, arith}
use Rattle.std.proofs.lemmas.List.{get_or-map, length_push, length-take-le, take-take, take_at}
use Rattle.std.proofs.lemmas.Bool.{cases_lt, ltb-true, ltb-false, lt-ltb, le-ltb, cond-true, cond-false}
use Rattle.planner.specs.Way.{parent_of, action_of, lower, way_to, root}
use Rattle.planner.specs.declared.node.Node.{Node}

module _ {S : Type 0} (nodes : List (Node S)) where
  -- any bound on the steps that is at least i gives the same: a link taken leads lower, so each step needs one less
  pub way_to_bound : (n k i : ℕ) → i ≤ n → i ≤ k → way_to nodes n i ≡ way_to nodes k i
  unfolding way_to
  way_to_bound zero zero i a b = refl
  way_to_bound zero (suc k) zero a b = refl
  way_to_bound zero (suc k) (suc i) a b = absurd (not-suc-le-zero a)
  way_to_bound (suc n) zero zero a b = refl
  way_to_bound (suc n) zero (suc i) a b = absurd (not-suc-le-zero b)
  way_to_bound (suc n) (suc k) zero a b = refl
  way_to_bound (suc n) (suc k) (suc i) a b =
      go (ltb (parent_of nodes (suc i)) (suc i)) refl
      (λ lower. let l = ltb-true (parent_of nodes (suc i)) (suc i) lower in
      way_to_bound n k (parent_of nodes (suc i)) (omega arith) (omega arith))
    where
      go : (t : Bool) → ltb (parent_of nodes (suc i)) (suc i) ≡ t
          → (ltb (parent_of nodes (suc i)) (suc i) ≡ true → way_to nodes n (parent_of nodes (suc i)) ≡ way_to nodes k (parent_of nodes (suc i)))
          → cond t (way_to nodes n (parent_of nodes (suc i)) ++ (action_of nodes (suc i) ∷ [])) []
          ≡ cond t (way_to nodes k (parent_of nodes (suc i)) ++ (action_of nodes (suc i) ∷ [])) []
      go true e same = ap (λ xs. xs ++ (action_of nodes (suc i) ∷ [])) (same e)
      go false e same = refl

  pub root_bound : (n k i : ℕ) → i ≤ n → i ≤ k → root nodes n i ≡ root nodes k i
  unfolding root
  root_bound zero zero i a b = refl
  root_bound zero (suc k) zero a b = refl
  root_bound zero (suc k) (suc i) a b = absurd (not-suc-le-zero a)
  root_bound (suc n) zero zero a b = refl
  root_bound (suc n) zero (suc i) a b = absurd (not-suc-le-zero b)
  root_bound (suc n) (suc k) zero a b = refl
  root_bound (suc n) (suc k) (suc i) a b =
      go (ltb (parent_of nodes (suc i)) (suc i)) refl
      (λ lower. let l = ltb-true (parent_of nodes (suc i)) (suc i) lower in
      root_bound n k (parent_of nodes (suc i)) (omega arith) (omega arith))
    where
      go : (t : Bool) → ltb (parent_of nodes (suc i)) (suc i) ≡ t
          → (ltb (parent_of nodes (suc i)) (suc i) ≡ true → root nodes n (parent_of nodes (suc i)) ≡ root nodes k (parent_of nodes (suc i)))
          → cond t (root nodes n (parent_of nodes (suc i))) (suc i) ≡ cond t (root nodes k (parent_of nodes (suc i))) (suc i)
      go true e same = same e
      go false e same = refl

  -- a link that is taken leads to its parent, which is lower,
  pub lower_some : (i p : ℕ) → lower nodes i ≡ Some p → (parent_of nodes i ≡ p) × (parent_of nodes i < i)
  lower_some i p taken = go (ltb (parent_of nodes i) i) refl taken
    where
      go : (t : Bool) → ltb (parent_of nodes i) i ≡ t → cond t (Some (parent_of nodes i)) None ≡ Some p
          → (parent_of nodes i ≡ p) × (parent_of nodes i < i)
      go true e is = (cc, ltb-true (parent_of nodes i) i e)
      go false e is = absurd cc

  -- and one that is not taken does not
  pub lower_none : (i : ℕ) → lower nodes i ≡ None → i ≤ parent_of nodes i
  lower_none i ends = go (ltb (parent_of nodes i) i) refl ends
    where
      go : (t : Bool) → ltb (parent_of nodes i) i ≡ t → cond t (Some (parent_of nodes i)) None ≡ None → i ≤ parent_of nodes i
      go true e is = absurd cc
      go false e is = ltb-false (parent_of nodes i) i e

  -- a link to a lower number is taken
  pub way_to_lower : (i : ℕ) → parent_of nodes i < i
      → way_to nodes i i ≡ way_to nodes (parent_of nodes i) (parent_of nodes i) ++ (action_of nodes i ∷ [])
  unfolding way_to
  way_to_lower zero lower = absurd (not-suc-le-zero lower)
  way_to_lower (suc i) lower =
      cond-true (ltb (parent_of nodes (suc i)) (suc i)) _ [] (lt-ltb _ _ lower)
      ∙ ap (λ xs. xs ++ (action_of nodes (suc i) ∷ [])) (way_to_bound i (parent_of nodes (suc i)) (parent_of nodes (suc i)) (omega arith) (omega arith))

  -- 0, and a link that is not to a lower number, end the way
  pub way_to_end : (i : ℕ) → i ≤ parent_of nodes i → way_to nodes i i ≡ []
  unfolding way_to
  way_to_end zero past = refl
  way_to_end (suc i) past = cond-false (ltb (parent_of nodes (suc i)) (suc i)) _ [] (le-ltb _ _ past)

  pub root_lower : (i : ℕ) → parent_of nodes i < i → root nodes i i ≡ root nodes (parent_of nodes i) (parent_of nodes i)
  unfolding root
  root_lower zero lower = absurd (not-suc-le-zero lower)
  root_lower (suc i) lower =
      cond-true (ltb (parent_of nodes (suc i)) (suc i)) _ (suc i) (lt-ltb _ _ lower)
      ∙ root_bound i (parent_of nodes (suc i)) (parent_of nodes (suc i)) (omega arith) (omega arith)

  pub root_end : (i : ℕ) → i ≤ parent_of nodes i → root nodes i i ≡ i
  unfolding root
  root_end zero past = refl
  root_end (suc i) past = cond-false (ltb (parent_of nodes (suc i)) (suc i)) _ (suc i) (le-ltb _ _ past)

  -- what is read of a node within the list
  pub parent_read : (i : ℕ) (x : Node S) → i < length nodes → (get_or nodes i x).parent ≡ parent_of nodes i
  parent_read i x within = sym (get_or-map (λ n. n.parent) nodes i x 0 within)

  pub action_read : (i : ℕ) (x : Node S) → i < length nodes → (get_or nodes i x).action ≡ action_of nodes i
  action_read i x within = sym (get_or-map (λ n. n.action) nodes i x 0 within)

  -- one link more of those counted
  pub length_way_lower : (i : ℕ) → parent_of nodes i < i
      → length (way_to nodes i i) ≡ suc (length (way_to nodes (parent_of nodes i) (parent_of nodes i)))
  length_way_lower i lower =
      ap length (way_to_lower i lower) ∙ length_push (way_to nodes (parent_of nodes i) (parent_of nodes i)) (action_of nodes i) ∙ add-one _

  -- a way that is not empty begins with a link to a lower number
  pub lower_from_some : (i : ℕ) → 0 < length (way_to nodes i i) → parent_of nodes i < i
  lower_from_some i some =
      ⊎_elim (λ lower. lower) (λ past. let none = ap length (way_to_end i past) in absurd (not-suc-le-zero (subst (λ n. 0 < n) none some)))
      (cases_lt (parent_of nodes i) i)

  -- one step back along the way xs: its first n + 1 actions are the way to i and one more, so its first n are the
  -- way to i, which ends with the link of i
  pub back_one : (xs : List ℕ) (n i x : ℕ) → n < length xs → 0 < n → take (suc n) xs ≡ way_to nodes i i ++ (x ∷ [])
      → (parent_of nodes i < i) × (take n xs ≡ way_to nodes (parent_of nodes i) (parent_of nodes i) ++ (action_of nodes i ∷ []))
  back_one xs n i x within some front =
      let long : length (way_to nodes i i) ≡ n = omega (arith, sym (length-take-le (suc n) xs within) ∙ ap length front ∙ length_push (way_to nodes i i) x) in
      let lower = lower_from_some i (subst (λ k. 0 < k) (sym long) some) in (
        lower,
        sym (take-take n (suc n) xs (omega arith)) ∙ ap (take n) front ∙ take_at (way_to nodes i i) (x ∷ []) n long ∙ way_to_lower i lower,
      )

-- nodes that agree below n give the same ways to numbers below n
pub way_to_agrees : {S : Type 0} (nodes other : List (Node S)) (n : ℕ)
    → ((i : ℕ) → i < n → parent_of other i ≡ parent_of nodes i) → ((i : ℕ) → i < n → action_of other i ≡ action_of nodes i)
    → (m i : ℕ) → i < n → way_to other m i ≡ way_to nodes m i
unfolding way_to
way_to_agrees nodes other n up by zero i within = refl
way_to_agrees nodes other n up by (suc m) zero within = refl
way_to_agrees nodes other n up by (suc m) (suc i) within =
    ap₂ (λ p a. cond (ltb p (suc i)) (way_to other m p ++ (a ∷ [])) []) (up (suc i) within) (by (suc i) within)
    ∙ go (ltb (parent_of nodes (suc i)) (suc i)) refl
    (λ lower. let l = ltb-true (parent_of nodes (suc i)) (suc i) lower in
    way_to_agrees nodes other n up by m (parent_of nodes (suc i)) (omega arith))
  where
    go : (t : Bool) → ltb (parent_of nodes (suc i)) (suc i) ≡ t
        → (ltb (parent_of nodes (suc i)) (suc i) ≡ true → way_to other m (parent_of nodes (suc i)) ≡ way_to nodes m (parent_of nodes (suc i)))
        → cond t (way_to other m (parent_of nodes (suc i)) ++ (action_of nodes (suc i) ∷ [])) []
        ≡ cond t (way_to nodes m (parent_of nodes (suc i)) ++ (action_of nodes (suc i) ∷ [])) []
    go true e same = ap (λ xs. xs ++ (action_of nodes (suc i) ∷ [])) (same e)
    go false e same = refl
