-- What one step of a search leaves: the lemmas that the loops of the kernel go by. Assumes nothing.
use Rattle.std.proofs.Common.{◌≡◌, ℕ, zero, suc, ◌+◌, ◌-◌, ◌<◌, ◌≤◌, Bool, true, false, cond, ◌&&◌, ltb, List, [], ◌∷◌, length, is_some, sym, refl, ap, ◌∙◌, not-suc-le-zero, arith}
use Rattle.std.specs.List.{AllByRecursion}
use Rattle.std.proofs.lemmas.Bool.{both_ways, cond_both, cond-true, cond-false, and_parts, ltb-true}
use Rattle.novelty.specs.Marks.{novel}
use Rattle.planner.specs.Search.{Task, Snapshot, keys_of, keep, meet, state_at, arrive, tried, tried_from, expand_next, goes_on, advanced}

-- keys below a count, at least one: the count is above 0
pub some_count : (n : ℕ) (ks : List ℕ) → 1 ≤ length ks → AllByRecursion (λ k. k < n) ks → 1 ≤ n
some_count n [] some below = absurd (not-suc-le-zero some)
some_count n (k ∷ ks) some below = let here = below.0 in omega arith

module _ {S : Type 0} (Q : Task S) where
  -- what holds of a snapshot at each of the four ends of a try holds after it
  pub after_try : (R : Snapshot S → Type 0) (s : S) (g : Snapshot S) (a : ℕ)
      → R g → R (meet Q g a)
      → (Q.problem.applies s a ≡ true → Q.problem.target (Q.problem.next s a) ≡ false → novel (keys_of Q (Q.problem.next s a)) g.marks ≡ true → g.kept < Q.count
      → R (keep Q g a (Q.problem.next s a)))
      → R (tried Q s g a)
  after_try R s g a same met kept =
      cond_both (Q.problem.applies s a) (arrive Q g a t) g R
      (λ app.
      cond_both (Q.problem.target t) (meet Q g a) (cond novelty (keep Q g a t) g) R (λ _. met)
      (λ no_target.
      cond_both novelty (keep Q g a t) g R
      (λ n. let h = and_parts (novel (keys_of Q t) g.marks) (ltb g.kept Q.count) n in
      kept app no_target h.0 (ltb-true g.kept Q.count h.1))
      (λ _. same)))
      (λ _. same)
    where
      t : S
      t = Q.problem.next s a

      novelty : Bool
      novelty = novel (keys_of Q t) g.marks && ltb g.kept Q.count

  pub tried_expanded : (s : S) (g : Snapshot S) (a : ℕ) → (tried Q s g a).expanded ≡ g.expanded
  tried_expanded s g a = after_try (λ h. h.expanded ≡ g.expanded) s g a refl refl (λ _ _ _ _. refl)

  pub tried_kept : (s : S) (g : Snapshot S) (a : ℕ) → g.kept ≤ Q.count → (tried Q s g a).kept ≤ Q.count
  tried_kept s g a few = after_try (λ h. h.kept ≤ Q.count) s g a few few (λ _ _ _ room. omega arith)

  -- what a try keeps, the actions from a on keep
  pub after_tries : (R : Snapshot S → Type 0) (s : S) → ((g : Snapshot S) (a : ℕ) → R g → R (tried Q s g a))
      → (d : ℕ) (g : Snapshot S) (a : ℕ) → R g → R (tried_from Q s g a d)
  unfolding tried_from
  after_tries R s step zero g a r = r
  after_tries R s step (suc d) g a r =
      cond_both (is_some (tried Q s g a).met) (tried Q s g a) (tried_from Q s (tried Q s g a) (a + 1) d) R
      (λ _. step g a r)
      (λ _. after_tries R s step d (tried Q s g a) (a + 1) (step g a r))

  pub tried_from_expanded : (s : S) (d : ℕ) (g : Snapshot S) (a : ℕ) → (tried_from Q s g a d).expanded ≡ g.expanded
  tried_from_expanded s d g a =
      after_tries (λ h. h.expanded ≡ g.expanded) s (λ h b e. tried_expanded s h b ∙ e) d g a refl

  pub tried_from_kept : (s : S) (d : ℕ) (g : Snapshot S) (a : ℕ) → g.kept ≤ Q.count → (tried_from Q s g a d).kept ≤ Q.count
  tried_from_kept s d g a few = after_tries (λ h. h.kept ≤ Q.count) s (λ h b e. tried_kept s h b e) d g a few

  -- h is what trying action a gives: a target met ends the tries below n, and else they go on from h
  module _ (s : S) (g h : Snapshot S) (a n : ℕ) (here : h ≡ tried Q s g a) (more : a < n) where
    one_more : n - a ≡ suc (n - (a + 1))
    one_more = omega arith

    turn : tried_from Q s g a (n - a) ≡ cond (is_some h.met) h (tried_from Q s h (a + 1) (n - (a + 1)))
    unfolding tried_from
    turn =
        ap (tried_from Q s g a) one_more
        ∙ ap (λ k. cond (is_some k.met) k (tried_from Q s k (a + 1) (n - (a + 1)))) (sym here)

    pub tries_end : is_some h.met ≡ true → h ≡ tried_from Q s g a (n - a)
    tries_end met = sym (turn ∙ cond-true (is_some h.met) h _ met)

    pub tries_go_on : is_some h.met ≡ false → tried_from Q s g a (n - a) ≡ tried_from Q s h (a + 1) (n - (a + 1))
    tries_go_on none = turn ∙ cond-false (is_some h.met) h _ none

  pub no_more_tries : (s : S) (g : Snapshot S) (a n : ℕ) → n ≤ a → tried_from Q s g a (n - a) ≡ g
  unfolding tried_from
  no_more_tries s g a n past = let e : n - a ≡ 0 = omega arith in ap (tried_from Q s g a) e

  pub expand_next_kept : (g : Snapshot S) → g.kept ≤ Q.count → (expand_next Q g).kept ≤ Q.count
  expand_next_kept g few = tried_from_kept _ Q.problem.actions g 0 few

  -- a search that does not go on stays as it is
  pub advanced_ended : (n : ℕ) (g : Snapshot S) → goes_on g.met g.expanded g.kept ≡ false → advanced Q n g ≡ g
  unfolding advanced
  advanced_ended zero g ended = refl
  advanced_ended (suc n) g ended = cond-false (goes_on g.met g.expanded g.kept) (advanced Q n (expand_next Q g)) g ended

  -- h is g with one more expanded, the a-th of n
  pub advanced_more : (g h : Snapshot S) (a n : ℕ) → goes_on g.met g.expanded g.kept ≡ true → h ≡ expand_next Q g → a < n
      → advanced Q (n - a) g ≡ advanced Q (n - (a + 1)) h
  unfolding advanced
  advanced_more g h a n on here more =
      let one : n - a ≡ suc (n - (a + 1)) = omega arith in
      ap (λ k. advanced Q k g) one
      ∙ cond-true (goes_on g.met g.expanded g.kept) (advanced Q (n - (a + 1)) (expand_next Q g)) g on
      ∙ ap (advanced Q (n - (a + 1))) (sym here)

  pub advanced_all : (g : Snapshot S) (a n : ℕ) → n ≤ a → advanced Q (n - a) g ≡ g
  unfolding advanced
  advanced_all g a n past = let e : n - a ≡ 0 = omega arith in ap (λ k. advanced Q k g) e

  -- a search that still goes on has expanded as many states as it was given
  pub advanced_used : (n : ℕ) (g : Snapshot S) → let h = advanced Q n g in goes_on h.met h.expanded h.kept ≡ true → h.expanded ≡ g.expanded + n
  unfolding advanced
  advanced_used zero g = λ on. omega arith
  advanced_used (suc n) g =
      cond_both (goes_on g.met g.expanded g.kept) (advanced Q n (expand_next Q g)) g
      (λ h. goes_on h.met h.expanded h.kept ≡ true → h.expanded ≡ g.expanded + suc n)
      (λ _ on.
      let e = advanced_used n (expand_next Q g) on in
      let f = tried_from_expanded (state_at Q.problem.start g.nodes g.expanded) Q.problem.actions g 0 in
      omega arith)
      (λ off on. absurd (both_ways _ off on))
