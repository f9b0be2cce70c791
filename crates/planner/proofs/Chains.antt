-- Chains of least ways to the keys of an admissible set, by any weight of ways that every further action raises.
-- Nothing here knows a search's memory: what is kept is given by its facts. Assumes nothing.
use Rattle.std.proofs.Common.{◌≡◌, ℕ, zero, suc, ◌+◌, ◌<◌, ◌≤◌, Bool, true, false, ◌||◌, eqb, ◌⊎◌, List, [], ◌∷◌, ◌++◌, sym, refl, ap, ◌∙◌, subst, inl, inr, ⊎_elim, not-suc-le-zero, arith}
use Rattle.std.specs.List.{AllByRecursion}
use Rattle.std.proofs.lemmas.Bool.{both_ways, cases_Bool, cases_eq, eqb-true, eq-eqb, or_cases, or_left, or_right}
use Rattle.domain.specs.Model.{Meaning}
use Rattle.planner.specs.Search.{Task, keys_of}
use Rattle.planner.proofs.Tally.{tally, tally_grows, tally_room}
use Rattle.planner.specs.Width.{Among, Leads, Least, HasKey, Target, Admits}

-- a weight of ways: the empty way is lightest, and every further action raises it
pub record Weighs (weight : List ℕ → ℕ) : Type 0 where
  pub lightest : (xs : List ℕ) → weight [] ≤ weight xs
  pub rises : (xs : List ℕ) (a : ℕ) → weight xs < weight (xs ++ (a ∷ []))

-- a way leads to one state
pub same_end : {S : Type 0} (P : Meaning S) (xs : List ℕ) (s t u : S) → Leads P s xs t → Leads P s xs u → t ≡ u
same_end P [] s t u l m = sym l ∙ m
same_end P (a ∷ xs) s t u l m = same_end P xs (P.next s a) t u l.1 m.1

-- a way with one more action: the way, and the action at its end
pub leads_last : {S : Type 0} (P : Meaning S) (xs : List ℕ) (a : ℕ) (s t u : S) → Leads P s xs t → Leads P s (xs ++ (a ∷ [])) u
    → (P.applies t a ≡ true) × (P.next t a ≡ u)
leads_last P [] a s t u l m =
    subst (λ x. (P.applies x a ≡ true) × (P.next x a ≡ u)) l m
leads_last P (b ∷ xs) a s t u l m = leads_last P xs a (P.next s b) t u l.1 m.1

pub leads_more : {S : Type 0} (P : Meaning S) (xs : List ℕ) (a : ℕ) (s t u : S) → Leads P s xs t → P.applies t a ≡ true → P.next t a ≡ u
    → Leads P s (xs ++ (a ∷ [])) u
leads_more P [] a s t u l app is = (ap (λ x. P.applies x a) l ∙ app, ap (λ x. P.next x a) l ∙ is)
leads_more P (b ∷ xs) a s t u l app is = (l.0, leads_more P xs a (P.next s b) t u l.1 app is)

-- a key of a list that is all below n is below n
pub among_below : (n k : ℕ) (ks : List ℕ) → AllByRecursion (λ x. x < n) ks → Among k ks → k < n
among_below n k [] all in' = absurd in'
among_below n k (x ∷ ks) all in' =
    ⊎_elim (λ here. subst (λ y. y < n) here all.0) (λ rest. among_below n k ks all.1 rest) in'

module _ {S : Type 0} (Q : Task S) (weight : List ℕ → ℕ) (W : Weighs weight) where
  -- xs is a least way to the key k of T
  pub record LinkOf (T : ℕ → Bool) (k : ℕ) (xs : List ℕ) : Type 0 where
    pub within : T k ≡ true
    pub way : Least Q.problem weight (HasKey Q k) xs

  -- A target is reached by p. No least way to a key of an admissible set weighs more than p: it would be lengthened
  -- again and again, never into a target, each time to a key not met before, and there are only so many keys.
  module _ (below : (s : S) → AllByRecursion (λ k. k < Q.count) (keys_of Q s)) (T : ℕ → Bool) (adm : Admits Q weight T)
      (p : List ℕ) (end : S) (leads : Leads Q.problem Q.problem.start p end) (target : Target Q end) where
    -- each key that f has was reached by a least way of weight at most w
    Used : (ℕ → Bool) → ℕ → Type 0
    Used f w = (k : ℕ) → f k ≡ true → (xs : List ℕ) × Least Q.problem weight (HasKey Q k) xs × (weight xs ≤ w)

    -- a least way heavier than all those used has a key that was not used
    fresh : (f : ℕ → Bool) (w k : ℕ) (xs : List ℕ) → Used f w → LinkOf T k xs → w < weight xs → f k ≡ false
    unfolding Used
    fresh f w k xs used link heavier =
        ⊎_elim
        (λ yes'.
        let u = used k yes' in
        let le = link.way.least u.0 u.1.end u.1.leads u.1.inside in
        absurd (omega (arith, u.2, le)))
        (λ e. e) (cases_Bool (f k))

    -- one more link, heavier than this one
    longer : (k : ℕ) (xs : List ℕ) → LinkOf T k xs → weight p ≤ weight xs
        → Least Q.problem weight (Target Q) xs ⊎ ((j : ℕ) × (ys : List ℕ) × LinkOf T j ys × (weight xs < weight ys))
    longer k xs link heavy =
        ⊎_elim inl
        (λ more.
        let a = more.0 in
        ⊎_elim (λ key. inr (key.0, xs ++ (a ∷ []), record { within = key.1; way = key.2 }, W.rises xs a))
        (λ end_of_lem.
        let le = end_of_lem.least p end leads target in
        let up = W.rises xs a in
        absurd (omega arith))
        more.1)
        (adm.goes k link.within xs link.way)

    -- the keys that f has, and k
    with_key : (ℕ → Bool) → ℕ → ℕ → Bool
    with_key f k j = eqb j k || f j

    used_more : (f : ℕ → Bool) (w k : ℕ) (xs : List ℕ) → Used f w → LinkOf T k xs → w < weight xs → Used (with_key f k) (weight xs)
    unfolding Used with_key
    used_more f w k xs used link heavier j in' =
        ⊎_elim
        (λ same. (xs, subst (λ i. Least Q.problem weight (HasKey Q i) xs) (sym (eqb-true j k same)) link.way, omega arith))
        (λ old. let u = used j old in (u.0, u.1, omega (arith, u.2)))
        (or_cases (eqb j k) (f j) in')

    -- a key is still unused, and once it is used the chain goes on to another
    one_more : (f : ℕ → Bool) (w k : ℕ) (xs : List ℕ) → Used f w → LinkOf T k xs → w < weight xs → weight p < weight xs
        → (tally f Q.count < Q.count) × (tally f Q.count < tally (with_key f k) Q.count)
        × ((j : ℕ) × (ys : List ℕ) × LinkOf T j ys × (weight xs < weight ys))
    unfolding with_key
    one_more f w k xs used link heavier beyond =
        let is_key = among_below Q.count k (keys_of Q link.way.end) (below link.way.end) link.way.inside in
        let unused = fresh f w k xs used link heavier in (
          tally_room f k Q.count is_key unused,
          tally_grows f (with_key f k) (λ j e. or_right (eqb j k) (f j) e) k Q.count is_key unused (or_left (eqb k k) (f k) (eq-eqb k k refl)),
          ⊎_elim (λ at_Target. let le = at_Target.least p end leads target in absurd (omega arith)) (λ l. l) (longer k xs link (omega arith)),
        )

    -- f has the keys used so far, and at most d are unused
    runs_out : (d : ℕ) (f : ℕ → Bool) (w k : ℕ) (xs : List ℕ) → Used f w → LinkOf T k xs → w < weight xs → weight p < weight xs
        → Q.count ≤ tally f Q.count + d → ⊥
    runs_out zero f w k xs used link heavier beyond few =
        let m = one_more f w k xs used link heavier beyond in omega (arith, m.0)
    runs_out (suc d) f w k xs used link heavier beyond few =
        let m = one_more f w k xs used link heavier beyond in
        let up = m.2.3 in
        runs_out d (with_key f k) (weight xs) m.2.0 m.2.1 (used_more f w k xs used link heavier) m.2.2 up (omega arith) (omega (arith, m.1))

    pub none_beyond : (k : ℕ) (xs : List ℕ) → LinkOf T k xs → weight p < weight xs → ⊥
    unfolding Used
    none_beyond k xs link heavier =
        runs_out Q.count (λ _. false) (weight p) k xs (λ j e. absurd (both_ways false refl e)) link heavier heavier (omega arith)

  -- What a search recorded: how many states it kept, the way to each, the state that it leads to, and which of
  -- them are closed, that is expanded with every action.
  pub record Recorded : Type 0 where
    pub kept : ℕ
    pub way_of : ℕ → List ℕ
    pub state_of : ℕ → S
    pub closed : ℕ → Bool
    pub some : 0 < kept
    pub first : way_of 0 ≡ []
    pub leads : (i : ℕ) → i < kept → Leads Q.problem Q.problem.start (way_of i) (state_of i)
    pub plain : (i : ℕ) → i < kept → Q.problem.target (state_of i) ≡ false
    -- of a closed state no successor is a target, and each key of a successor is had by a kept state, reached by
    -- a way that weighs no more
    pub covered : (i : ℕ) → i < kept → closed i ≡ true → (a : ℕ) → Q.problem.applies (state_of i) a ≡ true
        → (Q.problem.target (Q.problem.next (state_of i) a) ≡ false)
        × ((k : ℕ) → HasKey Q k (Q.problem.next (state_of i) a)
        → (j : ℕ) × (j < kept) × HasKey Q k (state_of j) × (weight (way_of j) ≤ weight (way_of i ++ (a ∷ []))))

  -- the heaviest way among the first n
  heaviest : (way_of : ℕ → List ℕ) (n : ℕ) → (b : ℕ) × ((j : ℕ) → j < n → weight (way_of j) ≤ b)
  heaviest way_of zero = (0, λ j h. absurd (not-suc-le-zero h))
  heaviest way_of (suc n) =
      let rest = heaviest way_of n in (
        rest.0 + weight (way_of n),
        λ j h.
            ⊎_elim (λ e. let same = ap (λ i. weight (way_of i)) e in omega arith) (λ ne. let le = rest.1 j (omega arith) in omega arith)
            (cases_eq j n),
      )

  module _ (R : Recorded) (T : ℕ → Bool) (adm : Admits Q weight T) where
    -- number j is kept, and its way is a least way to a key of T
    pub record Held (j : ℕ) : Type 0 where
      pub kept : j < R.kept
      pub key : ℕ
      pub link : LinkOf T key (R.way_of j)

    from_start : Held 0
    from_start = record {
      kept = R.some;
      key = adm.starts.0;
      link = record {
        within = adm.starts.1;
        way = record {
          end = Q.problem.start;
          leads = subst (λ xs. Leads Q.problem Q.problem.start xs Q.problem.start) (sym R.first) refl;
          inside = adm.starts.2;
          least = λ ys t l h. let e = ap weight R.first in let le = W.lightest ys in omega arith;
        };
      };
    }

    -- The chain goes on from a closed state: its way is lengthened to a least way to a key of T; that key is had by
    -- a kept state whose way weighs no more, and no less since that way was least.
    next_held : (j : ℕ) → Held j → R.closed j ≡ true → (i : ℕ) × Held i × (weight (R.way_of j) < weight (R.way_of i))
    next_held j held closed =
        ⊎_elim
        (λ at_Target. absurd (both_ways _ (R.plain j held.kept) (to_target (same_end Q.problem (R.way_of j) _ _ _ at_Target.leads (R.leads j held.kept)) at_Target.inside)))
        (λ more. ⊎_elim (to_key more.0) (λ tgt. absurd (past_target more.0 tgt)) more.1)
        (adm.goes held.key held.link.within (R.way_of j) held.link.way)
      where
        to_target : {s t : S} → s ≡ t → Target Q s → Target Q t
        to_target e h = subst (λ u. Q.problem.target u ≡ true) e h

        past_target : (a : ℕ) → Least Q.problem weight (Target Q) (R.way_of j ++ (a ∷ [])) → ⊥
        past_target a tgt =
            let last = leads_last Q.problem (R.way_of j) a _ _ _ (R.leads j held.kept) tgt.leads in
            both_ways _ (R.covered j held.kept closed a last.0).0 (to_target (sym last.1) tgt.inside)

        to_key : (a : ℕ) → ((k : ℕ) × (T k ≡ true) × Least Q.problem weight (HasKey Q k) (R.way_of j ++ (a ∷ [])))
            → (i : ℕ) × Held i × (weight (R.way_of j) < weight (R.way_of i))
        to_key a found =
            let k = found.0 in
            let way = found.2 in
            let last = leads_last Q.problem (R.way_of j) a _ _ _ (R.leads j held.kept) way.leads in
            let at = (R.covered j held.kept closed a last.0).1 k (subst (λ u. HasKey Q k u) (sym last.1) way.inside) in
            let no_less = way.least (R.way_of at.0) (R.state_of at.0) (R.leads at.0 at.1) at.2 in
            let up = W.rises (R.way_of j) a in
            let no_more = at.3 in (
              at.0,
              record {
                kept = at.1;
                key = k;
                link = record {
                  within = found.1;
                  way = record {
                    end = R.state_of at.0;
                    leads = R.leads at.0 at.1;
                    inside = at.2;
                    least = λ ys t l h. let le = way.least ys t l h in omega arith;
                  };
                };
              },
              omega arith,
            )

    -- if the chain only stops at states that are not closed, and those cannot be, it reaches ways of every weight
    reaches : ((j : ℕ) → Held j → R.closed j ≡ false → ⊥) → (m : ℕ) → (j : ℕ) × Held j × (m ≤ weight (R.way_of j))
    reaches stuck zero = (0, from_start, omega arith)
    reaches stuck (suc m) =
        let at = reaches stuck m in
        let closed = ⊎_elim (λ e. e) (λ e. absurd (stuck at.0 at.1 e)) (cases_Bool (R.closed at.0)) in
        let on = next_held at.0 at.1 closed in
        let far = at.2 in
        let up = on.2 in
        (on.0, on.1, omega arith)

    -- the chain stops at a state that is not closed: finitely many states are kept, so it cannot go on for ever
    pub chain_stops : ((j : ℕ) → Held j → R.closed j ≡ false → ⊥) → ⊥
    chain_stops stuck =
        let top = heaviest R.way_of R.kept in
        let at = reaches stuck (suc top.0) in
        let le = top.1 at.0 at.1.kept in
        let far = at.2 in
        omega arith

    -- if all kept states are closed, no set is admissible
    pub none_admissible : ((j : ℕ) → j < R.kept → R.closed j ≡ true) → ⊥
    none_admissible all = chain_stops (λ j held open'. both_ways _ open' (all j held.kept))

    -- a way into a target weighs more than some kept state that is not closed
    pub target_heavier : ((s : S) → AllByRecursion (λ k. k < Q.count) (keys_of Q s)) → (p : List ℕ) (t : S) → Leads Q.problem Q.problem.start p t → Target Q t
        → ((j : ℕ) → j < R.kept → R.closed j ≡ false → weight p ≤ weight (R.way_of j)) → ⊥
    target_heavier below p t leads target lighter =
        chain_stops
        (λ j held open'.
        let heavy = lighter j held.kept open' in
        ⊎_elim
        (λ at_Target.
        both_ways _ (R.plain j held.kept)
        (subst (λ u. Q.problem.target u ≡ true) (same_end Q.problem (R.way_of j) _ _ _ at_Target.leads (R.leads j held.kept)) at_Target.inside))
        (λ more.
        let up = more.3 in
        none_beyond below T adm p t leads target more.0 more.1 more.2 (omega arith))
        (longer below T adm p t leads target held.key (R.way_of j) held.link heavy))
