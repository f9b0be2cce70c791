-- What a reading without places says of the problem. Assumes nothing.
use Rattle.std.proofs.Common.{◌≡◌, ℕ, ◌≤◌, List, [], ◌++◌, length, take, drop, Some, None, Ok, Err, Result, sym, ap, ◌∙◌, subst}
use Rattle.domain.specs.declared.refusal.Refusal.{Refusal}
use Rattle.domain.specs.declared.strips.Action.{Action}
use Rattle.std.proofs.lemmas.List.{take_at, drop_at}
use Rattle.sketch.specs.Fault.{sketch_fault}
use Rattle.sketch.specs.Sketch.{features_of, rules_of}
use Rattle.sketch.specs.declared.sketch.Sketch.{Sketch as Accepted}
use Rattle.problem.specs.Form.{and_then, good_by}
use Rattle.problem.specs.Problem.{parsed, features_read, rules_read, of_problem, sieved, accepted, most_actions, blank_actions, text_problem, Read}
use Rattle.problem.specs.Text.{Reading, read_text}
use Rattle.problem.specs.declared.fault.LineFault.{LineFault}
use Rattle.problem.specs.declared.fault.ProblemFault.TheVariants.{Line, Sketch}
use Rattle.problem.specs.declared.reader.Reader.{Reader}
use Rattle.problem.proofs.Goods.{good_ok, good_err}
use Rattle.problem.proofs.Places.{shortened, text_taken}

module _ (limit : ℕ) (bs : List ℕ) where
  unplaced : read_text limit [] bs ≡ good_by (shortened 0) (read_text limit (blank_actions limit) bs)
  unplaced = text_taken 0 limit (blank_actions limit) bs

  pub placed_fault : (e : LineFault) → read_text limit [] bs ≡ Err e → read_text limit (blank_actions limit) bs ≡ Err e
  placed_fault e h = good_err (shortened 0) (read_text limit (blank_actions limit) bs) e (sym h ∙ unplaced)

  pub placed_good : (s : Reader) → read_text limit [] bs ≡ Ok (s, []) → (acts : List Action) × (read_text limit (blank_actions limit) bs ≡ Ok (s, acts))
  placed_good s h =
      let g = good_ok (shortened 0) (read_text limit (blank_actions limit) bs) (s, []) (sym h ∙ unplaced) in
      (g.0.1, g.1 ∙ ap (λ t. Ok (t.0, g.0.1)) (sym g.2))

module _ (places : ℕ) (bs : List ℕ) where
  abbrev whole : Result Reading LineFault
  whole = read_text (most_actions places) (blank_actions (most_actions places)) bs

  pub line_refused : (e : LineFault) → whole ≡ Err e → text_problem places bs ≡ Err (Line e)
  unfolding text_problem
  line_refused e h = ap (λ m. and_then (of_problem m) λ r. accepted (parsed r)) h

  pub sketch_refused : (s : Reader) (acts : List Action) (e : Refusal) → whole ≡ Ok (s, acts) → sketch_fault (features_read s) (rules_read s) ≡ Some e → text_problem places bs ≡ Err (Sketch e)
  unfolding text_problem
  sketch_refused s acts e h f = ap (λ m. and_then (of_problem m) λ r. accepted (parsed r)) h ∙ ap (λ o. sieved o (parsed (s, acts))) f

  pub problem_good : (s : Reader) (acts : List Action) → whole ≡ Ok (s, acts) → sketch_fault (features_read s) (rules_read s) ≡ None → text_problem places bs ≡ Ok (parsed (s, acts))
  unfolding text_problem
  problem_good s acts h f = ap (λ m. and_then (of_problem m) λ r. accepted (parsed r)) h ∙ ap (λ o. sieved o (parsed (s, acts))) f

  pub whole_at : (limit : ℕ) (m : Result Reading LineFault) → limit ≡ most_actions places → read_text limit (blank_actions limit) bs ≡ m → whole ≡ m
  whole_at limit m e h = subst (λ l. read_text l (blank_actions l) bs ≡ m) e h

-- the problem as it is held, and the places
pub read_good : (bs : List ℕ) (before front rest acts : List Action) (s : Reader) (sketch : Accepted) → whole (length before) bs ≡ Ok (s, acts)
    → sketch_fault (features_read s) (rules_read s) ≡ None → features_of sketch ≡ features_read s → rules_of sketch ≡ rules_read s
    → s.actions ≤ length before → front ≡ take s.actions acts → length front ≡ s.actions → rest ≡ drop s.actions before
    → Read (text_problem (length before) bs) before (front ++ rest)
    (Ok (record { atoms = s.atoms.count; start = s.atoms.start; goal = s.atoms.goal; action_count = s.actions; sketch = sketch }))
read_good bs before front rest acts s sketch good none fs rs few same long behind = (
  problem_good (length before) bs s acts good none
      ∙ (λ i. Ok (record { atoms = s.atoms.count; start = s.atoms.start; goal = s.atoms.goal; actions = first i; features = sym fs i; rules = sym rs i })),
  few,
  drop_at front rest s.actions long ∙ behind,
)
  where
    first : take s.actions acts ≡ take s.actions (front ++ rest)
    first = sym same ∙ sym (take_at front rest s.actions long)
