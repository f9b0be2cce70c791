-- The first faulty line decides. Assumes nothing.
use Rattle.std.proofs.Common.{◌≡◌, ℕ, ◌+◌, ◌<◌, ◌≤◌, Bool, true, false, cond, eqb, List, [], ◌∷◌, ◌++◌, length, Some, None, Ok, Err, Option, Result, sym, refl, ap, ◌∙◌, arith}
use Rattle.domain.specs.declared.refusal.Refusal.{Refusal}
use Rattle.sketch.specs.Fault.{sketch_fault}
use Rattle.problem.specs.Form.{and_then, good_by}
use Rattle.problem.specs.Laws.{line_of, LineNamed, FirstFaultDecides}
use Rattle.problem.specs.Lines.{fronted, cut, lines}
use Rattle.problem.specs.Problem.{Parsed, parsed, of_problem, sieved, accepted, most_actions, blank_actions, text_problem}
use Rattle.problem.specs.Reader.{Step, start_of, step}
use Rattle.problem.specs.Text.{Reading, placed, ended, read_lines, read_text}
use Rattle.problem.specs.declared.fault.LineFault.{LineFault}
use Rattle.problem.specs.declared.fault.LineFault.TheVariants.{Missing}
use Rattle.problem.specs.declared.fault.ProblemFault.TheVariants.{Line}
use Rattle.problem.specs.declared.reader.Wanted.{Wanted}
use Rattle.problem.specs.declared.reader.Wanted.TheVariants.{TheNames, Values, Nothing}
use Rattle.problem.proofs.Named.{At, at_step}
use Rattle.problem.proofs.Parsing.{line_refused}

-- what a line does to what is read behind it
abbrev onward : ℕ → Reading → List (List ℕ) → Result Step LineFault → Result Reading LineFault
onward n r ls m = and_then (good_by (λ t. (t.0, placed r.1 t.1)) m) λ next. read_lines (n + 1) next ls

ended_line : (w : Wanted) (n : ℕ) (r : Reading) (e : LineFault) → ended w n r ≡ Err e → line_of e ≡ n
ended_line (TheNames table) n r e h = let same : Missing n ≡ e = cc in sym (ap line_of same)
ended_line (Values table) n r e h = let same : Missing n ≡ e = cc in sym (ap line_of same)
ended_line Nothing n r e h = absurd (let z : ◌≡◌ {A = ℕ} 0 1 = cc in omega arith)

err_line : (n : ℕ) (r : Reading) (ls : List (List ℕ)) (e : LineFault) → read_lines n r ls ≡ Err e → (n ≤ line_of e) × (line_of e ≤ n + length ls)
unfolding read_lines
err_line n r [] e h = let here = ended_line r.0.wanted n r e h in (omega arith, omega arith)
err_line n r (l ∷ ls) e h = by_step (step r.0 n l) (at_step r.0 n l) h (λ next. err_line (n + 1) next ls e)
  where
    by_step : (m : Result Step LineFault) → At n m → onward n r ls m ≡ Err e
        → ((next : Reading) → read_lines (n + 1) next ls ≡ Err e → (n + 1 ≤ line_of e) × (line_of e ≤ n + 1 + length ls))
        → (n ≤ line_of e) × (line_of e ≤ n + length (l ∷ ls))
    by_step (Ok t) here g ih = let later = ih (t.0, placed r.1 t.1) g in (omega (arith, later.0), omega (arith, later.1))
    by_step (Err d) here g ih = let same : d ≡ e = cc in let at = sym (ap line_of same) ∙ here in (omega arith, omega arith)

-- what stands behind the faulty line does not matter
same_front : (n : ℕ) (r : Reading) (ls ms ks : List (List ℕ)) (e : LineFault) → read_lines n r (ls ++ ms) ≡ Err e → line_of e < n + length ls → read_lines n r (ls ++ ks) ≡ Err e
unfolding read_lines
same_front n r [] ms ks e h below = absurd (omega (arith, (err_line n r ms e h).0))
same_front n r (l ∷ ls) ms ks e h below = by_step (step r.0 n l) h (λ next g. same_front (n + 1) next ls ms ks e g (omega arith))
  where
    by_step : (m : Result Step LineFault) → onward n r (ls ++ ms) m ≡ Err e
        → ((next : Reading) → read_lines (n + 1) next (ls ++ ms) ≡ Err e → read_lines (n + 1) next (ls ++ ks) ≡ Err e)
        → onward n r (ls ++ ks) m ≡ Err e
    by_step (Ok t) g ih = ih (t.0, placed r.1 t.1) g
    by_step (Err d) g ih = g

-- whole lines in front
fronted_front : (b : ℕ) (l : List ℕ) (ls ms : List (List ℕ)) → fronted b ((l ∷ ls) ++ ms) ≡ fronted b (l ∷ ls) ++ ms
fronted_front b l ls ms = refl

some_line : (front a : List ℕ) → (l : List ℕ) × (ls : List (List ℕ)) × (lines (front ++ 10 ∷ a) ≡ l ∷ ls)
unfolding cut
some_line [] a = ([], lines a, refl)
some_line (b ∷ front) a = by_case (eqb b 10) (lines (front ++ 10 ∷ a))
  where
    by_case : (t : Bool) (ms : List (List ℕ)) → (l : List ℕ) × (ls : List (List ℕ)) × (cond t ([] ∷ ms) (fronted b ms) ≡ l ∷ ls)
    by_case true ms = ([], ms, refl)
    by_case false [] = (b ∷ [], [], refl)
    by_case false (m ∷ ms) = (b ∷ m, ms, refl)

pub lines_front : (front a : List ℕ) → lines (front ++ 10 ∷ a) ≡ lines (front ++ 10 ∷ []) ++ lines a
unfolding cut
lines_front [] a = refl
lines_front (b ∷ front) a = by_case (eqb b 10) (some_line front []).0 (some_line front []).1 (lines (front ++ 10 ∷ [])) (some_line front []).2 (lines_front front a)
  where
    by_case : (t : Bool) (l : List ℕ) (ls ks : List (List ℕ)) → ks ≡ l ∷ ls → lines (front ++ 10 ∷ a) ≡ ks ++ lines a
        → cond t ([] ∷ lines (front ++ 10 ∷ a)) (fronted b (lines (front ++ 10 ∷ a))) ≡ cond t ([] ∷ ks) (fronted b ks) ++ lines a
    by_case true l ls ks e ih = ap (λ ms. [] ∷ ms) ih
    by_case false l ls ks e ih =
        ap (fronted b) (ih ∙ ap (λ ms. ms ++ lines a) e) ∙ fronted_front b l ls (lines a) ∙ ap (λ ms. fronted b ms ++ lines a) (sym e)

-- a fault of a line comes from the lines
pub from_lines : (places : ℕ) (bs : List ℕ) (e : LineFault) → text_problem places bs ≡ Err (Line e) → read_text (most_actions places) (blank_actions (most_actions places)) bs ≡ Err e
unfolding text_problem
from_lines places bs e h = by_reading (read_text (most_actions places) (blank_actions (most_actions places)) bs) h
  where
    by_sieve : (o : Option Refusal) (p : Parsed) → sieved o p ≡ Err (Line e) → ⊥
    by_sieve None p g = let z : ◌≡◌ {A = ℕ} 0 1 = cc in omega arith
    by_sieve (Some refusal) p g = let z : ◌≡◌ {A = ℕ} 0 1 = cc in omega arith

    by_reading : (m : Result Reading LineFault) → and_then (of_problem m) (λ r. accepted (parsed r)) ≡ Err (Line e) → m ≡ Err e
    by_reading (Ok r) g = absurd (by_sieve (sketch_fault (parsed r).features (parsed r).rules) (parsed r) g)
    by_reading (Err d) g = let same : d ≡ e = cc in ap (λ x. Err x) same

pub line_named : LineNamed
unfolding read_text
line_named places bs e h =
    let limit = most_actions places in
    let bounds = err_line 1 (start_of limit, blank_actions limit) (lines bs) e (from_lines places bs e h) in
    (bounds.0, omega (arith, bounds.1))

pub first_fault_decides : FirstFaultDecides
unfolding read_text
first_fault_decides places front a b e h within =
    let limit = most_actions places in
    let whole = lines (front ++ 10 ∷ []) in
    let here : read_lines 1 (start_of limit, blank_actions limit) (whole ++ lines a) ≡ Err e =
    sym (ap (read_lines 1 (start_of limit, blank_actions limit)) (lines_front front a)) ∙ from_lines places (front ++ 10 ∷ a) e h in
    line_refused places (front ++ 10 ∷ b) e
    (ap (read_lines 1 (start_of limit, blank_actions limit)) (lines_front front b) ∙ same_front 1 (start_of limit, blank_actions limit) whole (lines a) (lines b) e here (omega arith))
