-- What every line keeps holds in the end: the limit of the actions, and so their number is no larger. Assumes nothing.
use Rattle.std.proofs.Common.{◌≡◌, ℕ, ◌+◌, ◌≤◌, eqb, List, [], ◌∷◌, Ok, Err, Result, sym, refl, ap, ◌∙◌, subst, arith}
use Rattle.std.specs.Str.{bytes_eq}
use Rattle.domain.specs.declared.strips.Action.{Action}
use Rattle.problem.specs.Form.{and_then, good_by}
use Rattle.problem.specs.Lines.{lines}
use Rattle.problem.specs.Reader.{Step, names_of, closed, valued, start_of, step, step_by}
use Rattle.problem.specs.State.{Sound}
use Rattle.problem.specs.Text.{Reading, placed, ended, read_lines, read_text}
use Rattle.problem.specs.declared.fault.LineFault.{LineFault}
use Rattle.problem.specs.declared.fault.Table.{Table}
use Rattle.problem.specs.declared.fault.Table.TheVariants.{Atoms, Actions, Features, Rules}
use Rattle.problem.specs.declared.reader.Reader.{Reader}
use Rattle.problem.specs.declared.reader.Wanted.{Wanted}
use Rattle.problem.specs.declared.reader.Wanted.TheVariants.{TheNames, Values, Nothing}
use Rattle.problem.proofs.Inverse.{cond_ok, cond_on}
use Rattle.problem.proofs.Sounds.{atom_step, action_step, feature_step, rule_step, from_ok, sound_start, sound_step}

-- what every good line keeps holds in the end
ended_kept : (P : Reader → Type 0) (w : Wanted) (n : ℕ) (r k : Reading) → P r.0 → ended w n r ≡ Ok k → P k.0
ended_kept P (TheNames table) n r k h g = absurd (let z : ◌≡◌ {A = ℕ} 0 1 = cc in omega arith)
ended_kept P (Values table) n r k h g = absurd (let z : ◌≡◌ {A = ℕ} 0 1 = cc in omega arith)
ended_kept P Nothing n r k h g = let same : r ≡ k = cc in subst (λ t. P t.0) same h

pub lines_kept : (P : Reader → Type 0) → ((s : Reader) (n : ℕ) (l : List ℕ) (m : Step) → P s → step s n l ≡ Ok m → P m.0)
    → (n : ℕ) (r : Reading) (ls : List (List ℕ)) (k : Reading) → P r.0 → read_lines n r ls ≡ Ok k → P k.0
unfolding read_lines
lines_kept P keeps n r [] k h g = ended_kept P r.0.wanted n r k h g
lines_kept P keeps n r (l ∷ ls) k h g = by_step (step r.0 n l) (λ t e. keeps r.0 n l t h e) g (λ next. lines_kept P keeps (n + 1) next ls k)
  where
    by_step : (m : Result Step LineFault) → ((t : Step) → m ≡ Ok t → P t.0) → and_then (good_by (λ t. (t.0, placed r.1 t.1)) m) (λ next. read_lines (n + 1) next ls) ≡ Ok k
        → ((next : Reading) → P next.0 → read_lines (n + 1) next ls ≡ Ok k → P k.0) → P k.0
    by_step (Ok t) kept q ih = ih (t.0, placed r.1 t.1) (kept t refl) q
    by_step (Err d) kept q ih = absurd (let z : ◌≡◌ {A = ℕ} 0 1 = cc in omega arith)

limit_valued : (s : Reader) (table : Table) (n : ℕ) (l : List ℕ) (m : Step) → valued s table n l ≡ Ok m → m.0.limit ≡ s.limit
limit_valued s Atoms n l m g = sym (ap (λ t. t.limit) (from_ok _ m (atom_step s n l m g).next))
limit_valued s Actions n l m g = sym (ap (λ t. t.limit) (from_ok _ m (action_step s n l m g).next))
limit_valued s Features n l m g = sym (ap (λ t. t.limit) (from_ok _ m (feature_step s n l m g).next))
limit_valued s Rules n l m g = sym (ap (λ t. t.limit) (from_ok _ m (rule_step s n l m g).next))

limit_closed : (s : Reader) (table : Table) (n : ℕ) (m : Step) → closed s table n ≡ Ok m → m.0.limit ≡ s.limit
limit_closed s Atoms n m g = sym (ap (λ t. t.limit) (from_ok _ m (cond_on (eqb s.atoms.count 0) _ _ m g).1))
limit_closed s Actions n m g = sym (ap (λ t. t.limit) (from_ok _ m g))
limit_closed s Features n m g = sym (ap (λ t. t.limit) (from_ok _ m g))
limit_closed s Rules n m g = sym (ap (λ t. t.limit) (from_ok _ m g))

limit_by : (w : Wanted) (s : Reader) (n : ℕ) (l : List ℕ) (m : Step) → step_by w s n l ≡ Ok m → m.0.limit ≡ s.limit
limit_by (TheNames table) s n l m g = sym (ap (λ t. t.limit) (from_ok _ m (cond_ok (bytes_eq l (names_of table)) _ _ m g).1))
limit_by (Values table) s n [] m g = limit_closed s table n m g
limit_by (Values table) s n (b ∷ l) m g = limit_valued s table n (b ∷ l) m g
limit_by Nothing s n l m g = absurd (let z : ◌≡◌ {A = ℕ} 0 1 = cc in omega arith)

limit_step : (s : Reader) (n : ℕ) (l : List ℕ) (m : Step) → step s n l ≡ Ok m → m.0.limit ≡ s.limit
unfolding step
limit_step s n l m g = limit_by s.wanted s n l m g

pub few_read : (limit : ℕ) (acts : List Action) (bs : List ℕ) (s : Reader) (after : List Action) → limit ≤ 1024 → read_text limit acts bs ≡ Ok (s, after) → s.actions ≤ limit
unfolding read_text
few_read limit acts bs s after few h =
    let sound = lines_kept Sound sound_step 1 (start_of limit, acts) (lines bs) (s, after) (sound_start limit few) h in
    let same = lines_kept (λ r. r.limit ≡ limit) (λ r n l m e g. limit_step r n l m g ∙ e) 1 (start_of limit, acts) (lines bs) (s, after) refl h in
    omega (arith, sound.few_actions, same)
