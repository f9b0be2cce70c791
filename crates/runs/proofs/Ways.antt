-- Ways over a problem and over its subproblems, and where they lead. Assumes nothing.
use Rattle.std.proofs.Common.{◌≡◌, ℕ, true, List, [], ◌∷◌, ◌++◌, sym, refl, ap, ◌∙◌, subst, append_assoc}
use Rattle.std.proofs.lemmas.List.{append-nil}
use Rattle.std.proofs.lemmas.Bool.{and_parts}
use Rattle.domain.specs.Model.{Meaning}
use Rattle.sketch.specs.Subproblem.{subproblem}
use Rattle.sketch.specs.declared.sketch.Sketch.{Sketch}
use Rattle.planner.specs.Way.{runs_to_target, end_of}
use Rattle.planner.specs.Width.{Leads}
use Rattle.runs.specs.History.{Segment, steps}

module _ {S : Type 0} (P : Meaning S) where
  -- a way ends where its actions lead
  pub leads_end : (xs : List ℕ) (s t : S) → Leads P s xs t → t ≡ end_of P s xs
  leads_end [] s t l = sym l
  leads_end (a ∷ xs) s t l = leads_end xs (P.next s a) t l.1

  pub leads_append : (xs ys : List ℕ) (s t u : S) → Leads P s xs t → Leads P t ys u → Leads P s (xs ++ ys) u
  leads_append [] ys s t u l m = subst (λ r. Leads P r ys u) (sym l) m
  leads_append (a ∷ xs) ys s t u l m = (l.0, leads_append xs ys (P.next s a) t u l.1 m)

  -- a way in a subproblem is a way in the problem
  module _ (k : Sketch) (o : S) where
    pub runs_below : (xs : List ℕ) (s : S) → runs_to_target (subproblem P k o) s xs ≡ true
        → Leads P s xs (end_of P s xs) × ((subproblem P k o).target (end_of P s xs) ≡ true)
    runs_below [] s h = (refl, h)
    runs_below (a ∷ xs) s h =
        let parts = and_parts (P.applies s a) _ h in
        let rest = runs_below xs (P.next s a) parts.1 in
        ((parts.0, rest.0), rest.1)

-- one segment more
pub steps_push : {S M : Type 0} (gs : List (Segment S M)) (g : Segment S M) → steps (gs ++ (g ∷ [])) ≡ steps gs ++ g.actions
steps_push [] g = append-nil g.actions
steps_push (h ∷ gs) g = ap (λ xs. h.actions ++ xs) (steps_push gs g) ∙ sym (append_assoc h.actions (steps gs) g.actions)
