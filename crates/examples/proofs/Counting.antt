-- Every way of the counter has as many actions as the number that it leads to, so each is shortest. Assumes nothing.
use Rattle.std.proofs.Common.{◌≡◌, ℕ, ◌+◌, ◌<◌, ◌≤◌, true, eqb, ltb, ◌⊎◌, List, [], ◌∷◌, ◌++◌, length, sym, refl, ◌∙◌, subst, inl, inr, ⊎_elim, arith}
use Rattle.std.proofs.lemmas.Bool.{cond-true, and_parts, and_from, eqb-true, eq-eqb, ltb-true, lt-ltb, cases_lt}
use Rattle.planner.specs.Width.{Leads, Least}
use Rattle.planner.proofs.Chains.{leads_more}
use Rattle.examples.specs.Counter.{counter, CounterAdmissible}

-- a way from s ends as far above s as it has actions, and not above 3
counted : (xs : List ℕ) (s t : ℕ) → s ≤ 3 → Leads counter s xs t → (t ≡ s + length xs) × (t ≤ 3)
counted [] s t low leads = (omega (arith, leads), omega (arith, leads))
counted (a ∷ xs) s t low leads =
    let room = ltb-true s 3 (and_parts (eqb a 0) (ltb s 3) leads.0).1 in
    let rest = counted xs (s + 1) t (omega arith) (subst (λ n. Leads counter n xs t) (cond-true _ (s + 1) s leads.0) leads.1) in
    (omega (arith, rest.0), rest.1)

-- one more action leads one further
further : (xs : List ℕ) (t : ℕ) → Leads counter 0 xs t → t < 3 → Leads counter 0 (xs ++ (0 ∷ [])) (t + 1)
further xs t leads low =
    let applies = and_from (eqb 0 0) (ltb t 3) refl (lt-ltb t 3 low) in
    leads_more counter xs 0 0 t (t + 1) leads applies (cond-true _ (t + 1) t applies)

-- a way to t is a least way into every set that only t is in
least_to : (G : ℕ → Type 0) (xs : List ℕ) (t : ℕ) → Leads counter 0 xs t → G t → ((u : ℕ) → G u → u ≡ t) → Least counter length G xs
least_to G xs t leads inside only = record {
  end = t;
  leads = leads;
  inside = inside;
  least = λ ys u l g.
      let a = (counted xs 0 t (omega arith) leads).0 in
      let b = (counted ys 0 u (omega arith) l).0 in
      let c = only u g in
      omega arith;
}

pub counter_admissible : CounterAdmissible
counter_admissible = record {
  starts = (0, refl, inl refl);
  goes = λ k in' xs way.
      let t = way.end in
      let upper = (counted xs 0 t (omega arith) way.leads).1 in
      ⊎_elim
      (λ low.
      inr (0, inl (t + 1, refl, least_to (λ s. (s ≡ t + 1) ⊎ ⊥) (xs ++ (0 ∷ [])) (t + 1) (further xs t way.leads low) (inl refl) (λ u g. ⊎_elim (λ e. e) absurd g))))
      (λ high.
      let top : t ≡ 3 = omega arith in
      inl (least_to (λ s. eqb s 3 ≡ true) xs t way.leads (eq-eqb t 3 top) (λ u g. eqb-true u 3 g ∙ sym top)))
      (cases_lt t 3);
}
