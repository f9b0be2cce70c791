-- A good text is the one that is written from its rows. Assumes nothing.
use Rattle.std.proofs.Common.{◌≡◌, ℕ, ◌+◌, ◌<◌, Bool, true, false, cond, eqb, ◌⊎◌, List, [], ◌∷◌, ◌++◌, map, length, Ok, Err, Result, sym, refl, ap, ◌∙◌, subst, inl, inr, ⊎_elim, arith}
use Rattle.std.specs.List.{flat_map}
use Rattle.std.specs.Str.{bytes_eq}
use Rattle.std.proofs.lemmas.Slice.Eq.{bytes_eq-Decides}
use Rattle.std.proofs.lemmas.Bool.{eqb-true}
use Rattle.problem.specs.Form.{and_then, good_by}
use Rattle.problem.specs.Lines.{fronted, cut, lines}
use Rattle.problem.specs.Problem.{Parsed, parsed, of_problem, accepted, most_actions, blank_actions, text_problem}
use Rattle.problem.specs.Reader.{Step, names_of, after_table, start_of, closed, valued, step, step_by}
use Rattle.problem.specs.State.{Sound}
use Rattle.problem.specs.Text.{Reading, placed, ended, read_lines, read_text}
use Rattle.problem.specs.Written.{Sheet, numbers_text, lettered_text, twice_text, body, sheet_lines, WhollyAccounted}
use Rattle.problem.specs.declared.fault.LineFault.{LineFault}
use Rattle.problem.specs.declared.fault.Table.{Table}
use Rattle.problem.specs.declared.fault.Table.TheVariants.{Atoms, Actions, Features, Rules}
use Rattle.problem.specs.declared.reader.Reader.{Reader}
use Rattle.problem.specs.declared.reader.Wanted.{Wanted}
use Rattle.problem.specs.declared.reader.Wanted.TheVariants.{TheNames, Values, Nothing}
use Rattle.problem.proofs.Inverse.{cond_ok, cond_on}
use Rattle.problem.proofs.Sounds.{atom_step, action_step, feature_step, rule_step, from_ok, sound_start, sound_step}
use Rattle.problem.proofs.Spelled.{numbers_spelled, lettered_spelled, twice_spelled}

-- rows of a table and its empty line, and then what is to follow
abbrev RowsAhead : {X : Type 0} → (X → List ℕ) → (List (List ℕ) → Type 0) → List (List ℕ) → Type 0
RowsAhead {X} text Next ls = (rows : List X) × (behind : List (List ℕ)) × Next behind × (ls ≡ body text rows behind)

-- a line of names, and then what is to follow
abbrev NamesAhead : Table → (List (List ℕ) → Type 0) → List (List ℕ) → Type 0
NamesAhead table Next ls = (behind : List (List ℕ)) × Next behind × (ls ≡ names_of table ∷ behind)

abbrev RulesAhead : List (List ℕ) → Type 0
RulesAhead = RowsAhead twice_text (λ ls. ls ≡ [])

abbrev FeaturesAhead : List (List ℕ) → Type 0
FeaturesAhead = RowsAhead lettered_text (NamesAhead Rules RulesAhead)

abbrev ActionsAhead : List (List ℕ) → Type 0
ActionsAhead = RowsAhead lettered_text (NamesAhead Features FeaturesAhead)

abbrev AtomsAhead : List (List ℕ) → Type 0
AtomsAhead = RowsAhead numbers_text (NamesAhead Actions ActionsAhead)

-- the lines that are left of a good text, by what is wanted
abbrev Left : Wanted → List (List ℕ) → Type 0
Left (TheNames Atoms) ls = NamesAhead Atoms AtomsAhead ls
Left (TheNames Actions) ls = NamesAhead Actions ActionsAhead ls
Left (TheNames Features) ls = NamesAhead Features FeaturesAhead ls
Left (TheNames Rules) ls = NamesAhead Rules RulesAhead ls
Left (Values Atoms) ls = AtomsAhead ls
Left (Values Actions) ls = ActionsAhead ls
Left (Values Features) ls = FeaturesAhead ls
Left (Values Rules) ls = RulesAhead ls
Left Nothing ls = ls ≡ []

row_left : {X : Type 0} (text : X → List ℕ) (Next : List (List ℕ) → Type 0) (l : List ℕ) (ls : List (List ℕ)) (row : X) → l ≡ text row → RowsAhead text Next ls → RowsAhead text Next (l ∷ ls)
row_left text Next l ls row e h = (row ∷ h.0, h.1, h.2, λ i. e i ∷ h.3 i)

-- a line that opens a table
left_names : (table : Table) (l : List ℕ) (ls : List (List ℕ)) → l ≡ names_of table → Left (Values table) ls → Left (TheNames table) (l ∷ ls)
left_names Atoms l ls e h = (ls, h, ap (λ x. x ∷ ls) e)
left_names Actions l ls e h = (ls, h, ap (λ x. x ∷ ls) e)
left_names Features l ls e h = (ls, h, ap (λ x. x ∷ ls) e)
left_names Rules l ls e h = (ls, h, ap (λ x. x ∷ ls) e)

-- the empty line
left_end : (table : Table) (ls : List (List ℕ)) → Left (after_table table) ls → Left (Values table) ([] ∷ ls)
left_end Atoms ls h = ([], ls, h, refl)
left_end Actions ls h = ([], ls, h, refl)
left_end Features ls h = ([], ls, h, refl)
left_end Rules ls h = ([], ls, h, refl)

-- a line of values
left_row : (s : Reader) (table : Table) (n : ℕ) (l : List ℕ) (ls : List (List ℕ)) (m : Step) → Sound s → valued s table n l ≡ Ok m → Left (Values table) ls → Left (Values table) (l ∷ ls)
left_row s Atoms n l ls m h g left =
    let a = atom_step s n l m g in
    row_left numbers_text (NamesAhead Actions ActionsAhead) l ls a.columns
    (numbers_spelled n l a.columns a.form (omega (arith, a.line.number, a.line.few)) (omega (arith, a.line.start_small)) (omega (arith, a.line.goal_small))) left
left_row s Actions n l ls m h g left =
    let a = action_step s n l m g in
    row_left lettered_text (NamesAhead Features FeaturesAhead) l ls a.columns
    (lettered_spelled n l a.columns a.form (omega (arith, a.line.action_below, h.small_limit)) (omega (arith, a.line.atom_below, h.few_atoms))) left
left_row s Features n l ls m h g left =
    let a = feature_step s n l m g in
    row_left lettered_text (NamesAhead Rules RulesAhead) l ls a.columns
    (lettered_spelled n l a.columns a.form (omega (arith, a.line.feature_below)) (omega (arith, a.line.atom_below, h.few_atoms))) left
left_row s Rules n l ls m h g left =
    let a = rule_step s n l m g in
    row_left twice_text (λ ks. ks ≡ []) l ls a.columns
    (twice_spelled n l a.columns a.form (omega (arith, a.line.rule_below)) (omega (arith, a.line.feature_below, h.few_features))) left

-- what is wanted after a good line
pub valued_wanted : (s : Reader) (table : Table) (n : ℕ) (l : List ℕ) (m : Step) → valued s table n l ≡ Ok m → m.0.wanted ≡ s.wanted
valued_wanted s Atoms n l m g = sym (ap (λ t. t.wanted) (from_ok _ m (atom_step s n l m g).next))
valued_wanted s Actions n l m g = sym (ap (λ t. t.wanted) (from_ok _ m (action_step s n l m g).next))
valued_wanted s Features n l m g = sym (ap (λ t. t.wanted) (from_ok _ m (feature_step s n l m g).next))
valued_wanted s Rules n l m g = sym (ap (λ t. t.wanted) (from_ok _ m (rule_step s n l m g).next))

pub closed_wanted : (s : Reader) (table : Table) (n : ℕ) (m : Step) → closed s table n ≡ Ok m → m.0.wanted ≡ after_table table
closed_wanted s Atoms n m g = sym (ap (λ t. t.wanted) (from_ok _ m (cond_on (eqb s.atoms.count 0) _ _ m g).1))
closed_wanted s Actions n m g = sym (ap (λ t. t.wanted) (from_ok _ m g))
closed_wanted s Features n m g = sym (ap (λ t. t.wanted) (from_ok _ m g))
closed_wanted s Rules n m g = sym (ap (λ t. t.wanted) (from_ok _ m g))

-- a good line in front of what is left
left_more : (w : Wanted) (s : Reader) (n : ℕ) (l : List ℕ) (ls : List (List ℕ)) (m : Step) → s.wanted ≡ w → Sound s → step_by w s n l ≡ Ok m → Left m.0.wanted ls → Left w (l ∷ ls)
left_more (TheNames table) s n l ls m e h g left =
    let a = cond_ok (bytes_eq l (names_of table)) _ _ m g in
    left_names table l ls ((bytes_eq-Decides l (names_of table)).0 a.0) (subst (λ v. Left v ls) (sym (ap (λ t. t.wanted) (from_ok _ m a.1))) left)
left_more (Values table) s n [] ls m e h g left = left_end table ls (subst (λ v. Left v ls) (closed_wanted s table n m g) left)
left_more (Values table) s n (b ∷ l) ls m e h g left =
    left_row s table n (b ∷ l) ls m h g (subst (λ v. Left v ls) (valued_wanted s table n (b ∷ l) m g ∙ e) left)
left_more Nothing s n l ls m e h g left = absurd (let z : ◌≡◌ {A = ℕ} 0 1 = cc in omega arith)

ended_left : (w : Wanted) (n : ℕ) (r k : Reading) → ended w n r ≡ Ok k → Left w []
ended_left (TheNames table) n r k h = absurd (let z : ◌≡◌ {A = ℕ} 0 1 = cc in omega arith)
ended_left (Values table) n r k h = absurd (let z : ◌≡◌ {A = ℕ} 0 1 = cc in omega arith)
ended_left Nothing n r k h = refl

lines_left : (n : ℕ) (r : Reading) (ls : List (List ℕ)) (k : Reading) → Sound r.0 → read_lines n r ls ≡ Ok k → Left r.0.wanted ls
unfolding read_lines step
lines_left n r [] k h g = ended_left r.0.wanted n r k g
lines_left n r (l ∷ ls) k h g = by_step (step r.0 n l) refl g (λ next q. lines_left (n + 1) next ls k q)
  where
    by_step : (m : Result Step LineFault) → step r.0 n l ≡ m → and_then (good_by (λ t. (t.0, placed r.1 t.1)) m) (λ next. read_lines (n + 1) next ls) ≡ Ok k
        → ((next : Reading) → Sound next.0 → read_lines (n + 1) next ls ≡ Ok k → Left next.0.wanted ls)
        → Left r.0.wanted (l ∷ ls)
    by_step (Ok t) e q ih =
        left_more r.0.wanted r.0 n l ls t refl h e (ih (t.0, placed r.1 t.1) (sound_step r.0 n l t h e) q)
    by_step (Err d) e q ih = absurd (let z : ◌≡◌ {A = ℕ} 0 1 = cc in omega arith)

sheet_left : (ls : List (List ℕ)) → Left (TheNames Atoms) ls → (s : Sheet) × (ls ≡ sheet_lines s)
sheet_left ls h =
    let a = h.1 in
    let b = a.2 in
    let c = b.1 in
    let d = c.2 in
    let e = d.1 in
    let f = e.2 in
    let g = f.1 in (
      record { atoms = a.0; actions = c.0; features = e.0; rules = g.0 },
      h.2
          ∙ ap (λ ks. names_of Atoms ∷ ks) (a.3 ∙ ap (body numbers_text a.0) (b.2
          ∙ ap (λ ks. names_of Actions ∷ ks) (c.3 ∙ ap (body lettered_text c.0) (d.2
          ∙ ap (λ ks. names_of Features ∷ ks) (e.3 ∙ ap (body lettered_text e.0) (f.2
          ∙ ap (λ ks. names_of Rules ∷ ks) (g.3 ∙ ap (body twice_text g.0) g.2))))))),
    )

-- lines with their ends
abbrev ends : List (List ℕ) → List ℕ
ends ls = flat_map (λ l. l ++ 10 ∷ []) ls

-- the last line is not empty
abbrev Unended : List (List ℕ) → Type 0
Unended [] = ⊥
Unended (l ∷ []) = 0 < length l
Unended (l ∷ m ∷ ms) = Unended (m ∷ ms)

-- each line of a text ends with byte 10, but the last may lack it if it is not empty
lines_ends : (bs : List ℕ) → (ends (lines bs) ≡ bs) ⊎ ((ends (lines bs) ≡ bs ++ 10 ∷ []) × Unended (lines bs))
unfolding cut
lines_ends [] = inl refl
lines_ends (b ∷ bs) = by_case (eqb b 10) (eqb-true b 10) (lines bs) (lines_ends bs)
  where
    after_empty : (ks : List (List ℕ)) → Unended ks → Unended ([] ∷ ks)
    after_empty [] u = absurd u
    after_empty (k ∷ ks) u = u

    after_byte : (k : List ℕ) (ks : List (List ℕ)) → Unended (k ∷ ks) → Unended ((b ∷ k) ∷ ks)
    after_byte k [] u = omega arith
    after_byte k (m ∷ ks) u = u

    by_case : (t : Bool) → (t ≡ true → b ≡ 10) → (ks : List (List ℕ)) → (ends ks ≡ bs) ⊎ ((ends ks ≡ bs ++ 10 ∷ []) × Unended ks)
        → (ends (cond t ([] ∷ ks) (fronted b ks)) ≡ b ∷ bs) ⊎ ((ends (cond t ([] ∷ ks) (fronted b ks)) ≡ (b ∷ bs) ++ 10 ∷ []) × Unended (cond t ([] ∷ ks) (fronted b ks)))
    by_case true is ks (inl e) = inl (λ i. sym (is refl) i ∷ e i)
    by_case true is ks (inr e) = inr (λ i. sym (is refl) i ∷ e.0 i, after_empty ks e.1)
    by_case false is [] (inl e) = inr (λ i. b ∷ (e i ++ 10 ∷ []), omega arith)
    by_case false is [] (inr e) = absurd e.1
    by_case false is (k ∷ ks) (inl e) = inl (ap (λ cs. b ∷ cs) e)
    by_case false is (k ∷ ks) (inr e) = inr (ap (λ cs. b ∷ cs) e.0, after_byte k ks e.1)

unended_behind : (xs : List (List ℕ)) (y : List ℕ) (ys : List (List ℕ)) → Unended (xs ++ y ∷ ys) → Unended (y ∷ ys)
unended_behind [] y ys u = u
unended_behind (x ∷ []) y ys u = u
unended_behind (x ∷ w ∷ xs) y ys u = unended_behind (w ∷ xs) y ys u

sheet_ended : (s : Sheet) → Unended (sheet_lines s) → ⊥
sheet_ended s u =
    let a = unended_behind (names_of Atoms ∷ map numbers_text s.atoms) [] _ u in
    let b = unended_behind (names_of Actions ∷ map lettered_text s.actions) [] _ a in
    let c = unended_behind (names_of Features ∷ map lettered_text s.features) [] _ b in
    let d : 0 < 0 = unended_behind (names_of Rules ∷ map twice_text s.rules) [] [] c in
    omega arith

-- a good text is read to its end
pub good_reading : (places : ℕ) (bs : List ℕ) (p : Parsed) → text_problem places bs ≡ Ok p
    → (r : Reading) × (read_text (most_actions places) (blank_actions (most_actions places)) bs ≡ Ok r) × (accepted (parsed r) ≡ Ok p)
unfolding text_problem
good_reading places bs p h = by_reading (read_text (most_actions places) (blank_actions (most_actions places)) bs) h
  where
    by_reading : (m : Result Reading LineFault) → and_then (of_problem m) (λ r. accepted (parsed r)) ≡ Ok p → (r : Reading) × (m ≡ Ok r) × (accepted (parsed r) ≡ Ok p)
    by_reading (Ok r) g = (r, refl, g)
    by_reading (Err e) g = absurd (let z : ◌≡◌ {A = ℕ} 0 1 = cc in omega arith)

pub wholly_accounted : WhollyAccounted
unfolding read_text
wholly_accounted places bs p h =
    let limit = most_actions places in
    let good = good_reading places bs p h in
    let left = sheet_left (lines bs) (lines_left 1 (start_of limit, blank_actions limit) (lines bs) good.0 (sound_start limit (omega arith)) good.1) in (
      left.0,
      ⊎_elim (λ e. sym e ∙ ap ends left.1) (λ e. absurd (sheet_ended left.0 (subst Unended left.1 e.1))) (lines_ends bs),
    )
