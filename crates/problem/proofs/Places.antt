-- The places for actions: those behind the first k change nothing at the first k, and none changes what else is read.
-- Assumes nothing.
use Rattle.std.proofs.Common.{◌≡◌, ℕ, zero, suc, ◌+◌, ◌<◌, ◌≤◌, List, [], ◌∷◌, length, take, set, replicate, Some, None, Ok, Err, Option, Result, sym, refl, ap, ◌∙◌, subst, ⊎_elim, arith}
use Rattle.std.proofs.lemmas.List.{length-take, get_or-take, set_past, take-replicate}
use Rattle.std.proofs.lemmas.Bool.{cases_lt}
use Rattle.domain.specs.Strips.{idle, action_at}
use Rattle.domain.specs.declared.strips.Action.{Action}
use Rattle.problem.specs.Form.{and_then, good_by}
use Rattle.problem.specs.Lines.{lines}
use Rattle.problem.specs.Problem.{blank_actions}
use Rattle.problem.specs.Reader.{Step, start_of, step}
use Rattle.problem.specs.Tables.{blank_action, with_role, action_added}
use Rattle.problem.specs.Text.{Reading, placed, ended, read_lines, read_text, Ends}
use Rattle.problem.specs.declared.fault.LineFault.{LineFault}
use Rattle.problem.specs.declared.reader.Reader.{Reader}
use Rattle.problem.specs.declared.reader.Wanted.{Wanted}
use Rattle.problem.specs.declared.reader.Wanted.TheVariants.{TheNames, Values, Nothing}
use Rattle.problem.specs.declared.tables.ActionRow.{ActionRow}

take_of_set : {X : Type 0} (k : ℕ) (l : List X) (i : ℕ) (a : X) → take k (set l i a) ≡ set (take k l) i a
take_of_set zero l i a = refl
take_of_set (suc k) [] i a = refl
take_of_set (suc k) (x ∷ l) zero a = refl
take_of_set (suc k) (x ∷ l) (suc i) a = ap (λ xs. x ∷ xs) (take_of_set k l i a)

-- a row written among the first k places, or behind them
added_taken : (k : ℕ) (acts : List Action) (row : ActionRow) → take k (action_added acts row) ≡ action_added (take k acts) row
added_taken k acts row =
    take_of_set k acts row.action (with_role (action_at acts row.action) row.role row.atom) ∙ ⊎_elim inside past (cases_lt row.action k)
  where
    given : Action → List Action
    given act = set (take k acts) row.action (with_role act row.role row.atom)

    inside : row.action < k → given (action_at acts row.action) ≡ given (action_at (take k acts) row.action)
    inside h = ap given (sym (get_or-take k acts row.action idle h))

    past : k ≤ row.action → given (action_at acts row.action) ≡ given (action_at (take k acts) row.action)
    past h =
        let far : length (take k acts) ≤ row.action = simp length-take (omega arith) in
        set_past (take k acts) row.action _ far ∙ sym (set_past (take k acts) row.action _ far)

placed_taken : (k : ℕ) (acts : List Action) (row : Option ActionRow) → placed (take k acts) row ≡ take k (placed acts row)
placed_taken k acts None = refl
placed_taken k acts (Some row) = sym (added_taken k acts row)

-- the first k places of what was read
abbrev pub shortened : ℕ → Reading → Reading
shortened k r = (r.0, take k r.1)

ended_taken : (k n : ℕ) (s : Reader) (acts : List Action) (w : Wanted) → ended w n (s, take k acts) ≡ good_by (shortened k) (ended w n (s, acts))
ended_taken k n s acts (TheNames table) = refl
ended_taken k n s acts (Values table) = refl
ended_taken k n s acts Nothing = refl

lines_taken : (k n : ℕ) (s : Reader) (acts : List Action) (ls : List (List ℕ)) → read_lines n (s, take k acts) ls ≡ good_by (shortened k) (read_lines n (s, acts) ls)
unfolding read_lines
lines_taken k n s acts [] = ended_taken k n s acts s.wanted
lines_taken k n s acts (l ∷ ls) = by_step (step s n l) (λ next row. lines_taken k (n + 1) next (placed acts row) ls)
  where
    by_step : (m : Result Step LineFault)
        → ((next : Reader) (row : Option ActionRow) → read_lines (n + 1) (next, take k (placed acts row)) ls ≡ good_by (shortened k) (read_lines (n + 1) (next, placed acts row) ls))
        → and_then (good_by (λ t. (t.0, placed (take k acts) t.1)) m) (λ r. read_lines (n + 1) r ls)
        ≡ good_by (shortened k) (and_then (good_by (λ t. (t.0, placed acts t.1)) m) (λ r. read_lines (n + 1) r ls))
    by_step (Err e) ih = refl
    by_step (Ok t) ih = ap (λ ps. read_lines (n + 1) (t.0, ps) ls) (placed_taken k acts t.1) ∙ ih t.0 t.1

pub text_taken : (k limit : ℕ) (acts : List Action) (bs : List ℕ) → read_text limit (take k acts) bs ≡ good_by (shortened k) (read_text limit acts bs)
unfolding read_text
text_taken k limit acts bs = lines_taken k 1 (start_of limit) acts (lines bs)

-- places that were cleared hold the first actions
pub ends_filled : (limit k : ℕ) (bs : List ℕ) (after : List Action) (r : Result Reader LineFault) → Ends (read_text limit (replicate k blank_action) bs) after r
    → (s : Reader) (acts : List Action) → k ≤ limit → read_text limit (blank_actions limit) bs ≡ Ok (s, acts) → after ≡ take k acts
ends_filled limit k bs after r h s acts few e = by_reply r (subst (λ m. Ends m after r) filled h)
  where
    filled : read_text limit (replicate k blank_action) bs ≡ Ok (s, take k acts)
    filled =
        ap (λ ps. read_text limit ps bs) (sym (take-replicate k limit blank_action few))
        ∙ text_taken k limit (blank_actions limit) bs ∙ ap (good_by (shortened k)) e

    by_reply : (q : Result Reader LineFault) → Ends (Ok (s, take k acts)) after q → after ≡ take k acts
    by_reply (Ok t) g =
        let same : ◌≡◌ {A = Reading} (t, after) (s, take k acts) = cc in
        ap (λ p. p.1) same
    by_reply (Err d) g = absurd (let z : ◌≡◌ {A = ℕ} 0 1 = cc in omega arith)
