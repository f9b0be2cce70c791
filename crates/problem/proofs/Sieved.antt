-- The rules of a good text name only its features, so that only the sieve can refuse them. Assumes nothing.
use Rattle.std.proofs.Common.{◌≡◌, ℕ, ◌<◌, ◌≤◌, Bool, true, false, cond, not, eqb, ltb, List, [], ◌∷◌, length, map, get_or, set, replicate, unwrap_or, Some, None, Ok, Err, Option, Result, sym, refl, ap, ◌∙◌, subst, ⊎_elim, arith, length-take}
use Rattle.std.specs.Str.{bytes_eq}
use Rattle.std.proofs.lemmas.List.{get_or-replicate, get_or_past, get_or-set_same, get_or-set_other, get_or-take, set_past}
use Rattle.std.proofs.lemmas.Bool.{cases_eq, cases_lt, lt-ltb, le-ltb, ltb-true, or_left, or_right, not_from_true}
use Rattle.domain.specs.declared.refusal.Refusal.{Refusal}
use Rattle.domain.specs.declared.refusal.Refusal.TheVariants.{Range, Limit, RulesLeft}
use Rattle.sketch.specs.Fault.{rule_fits, first_unfit, sketch_fault}
use Rattle.sketch.specs.Feature.{kinds_of}
use Rattle.sketch.specs.Rule.{blank, silent, idle, entry_at, rule_at}
use Rattle.sketch.specs.Sieve.{rules_left}
use Rattle.sketch.specs.declared.rule.Entry.{Entry}
use Rattle.sketch.specs.declared.rule.Rule.{Rule}
use Rattle.std.proofs.Math.ListN.{get_or-map}
use Rattle.std.proofs.lemmas.List.{length-map}
use Rattle.problem.specs.Tables.{feature_count, rule_count, rule_of, rules_with_blanks}
use Rattle.problem.proofs.Blanks.{feature_grows}
use Rattle.sketch.proofs.Bounded.{every_from, lowest_is}
use Rattle.problem.specs.Form.{and_then}
use Rattle.problem.specs.Laws.{SieveAlone}
use Rattle.problem.specs.Lines.{lines}
use Rattle.problem.specs.Problem.{Parsed, parsed, features_read, rules_read, of_problem, sieved, accepted, most_actions, blank_actions, text_problem}
use Rattle.problem.specs.Reader.{Step, names_of, closed, valued, step, step_by, start_of}
use Rattle.problem.specs.State.{Sound}
use Rattle.problem.specs.Text.{Reading, read_lines, read_text}
use Rattle.problem.specs.declared.fault.LineFault.{LineFault}
use Rattle.problem.specs.declared.fault.ProblemFault.TheVariants.{Sketch}
use Rattle.problem.specs.declared.fault.Table.{Table}
use Rattle.problem.specs.declared.fault.Table.TheVariants.{Atoms, Actions, Features, Rules}
use Rattle.problem.specs.declared.reader.Reader.{Reader}
use Rattle.problem.specs.declared.reader.Wanted.{Wanted}
use Rattle.problem.specs.declared.reader.Wanted.TheVariants.{TheNames, Values, Nothing}
use Rattle.problem.specs.declared.tables.RuleRow.{RuleRow}
use Rattle.problem.proofs.Inverse.{cond_ok, cond_on}
use Rattle.problem.proofs.Kept.{lines_kept}
use Rattle.problem.proofs.Shapes.{Shaped, shaped_start, shaped_step}
use Rattle.problem.proofs.Sounds.{atom_step, action_step, feature_step, rule_step, from_ok, sound_start, sound_step}

-- what a rule says of a feature
abbrev said : List (List (Option Entry)) → ℕ → ℕ → Option Entry
said es i f = get_or (get_or es i []) f None

-- no rule says anything of a number past the features
abbrev Quiet : Reader → Type 0
Quiet s = (i f : ℕ) → feature_count s.features ≤ f → said s.rules.entries i f ≡ None

quiet_start : (limit : ℕ) → Quiet (start_of limit)
quiet_start limit i f h =
    ⊎_elim (λ l. ap (λ es. get_or es f None) (get_or-replicate 16 i (replicate 8 None) [] l) ∙ unsaid)
    (λ l. ap (λ es. get_or es f None) (get_or_past (replicate 16 (replicate 8 None)) i [] l))
    (cases_lt i 16)
  where
    blanks : List (Option Entry)
    blanks = replicate 8 None

    unsaid : get_or blanks f None ≡ None
    unsaid = ⊎_elim (λ l. get_or-replicate 8 f None None l) (λ l. get_or_past blanks f None l) (cases_lt f 8)

-- an entry changes nothing at another feature
entry_kept : (es : List (List (Option Entry))) (row : RuleRow) (i f : ℕ) → row.feature < f
    → said (set es row.rule (set (get_or es row.rule []) row.feature (Some row.entry))) i f ≡ said es i f
entry_kept es row i f low = ⊎_elim same other (cases_eq i row.rule)
  where
    new : List (Option Entry)
    new = set (get_or es row.rule []) row.feature (Some row.entry)

    here : said (set es row.rule new) row.rule f ≡ said es row.rule f
    here =
        ⊎_elim
        (λ l. ap (λ r. get_or r f None) (get_or-set_same es row.rule new [] l) ∙ get_or-set_other (get_or es row.rule []) row.feature f (Some row.entry) None (λ e. omega arith))
        (λ l. ap (λ rs. said rs row.rule f) (set_past es row.rule new l))
        (cases_lt row.rule (length es))

    same : i ≡ row.rule → said (set es row.rule new) i f ≡ said es i f
    same e = subst (λ j. said (set es row.rule new) j f ≡ said es j f) (sym e) here

    other : (i ≡ row.rule → ⊥) → said (set es row.rule new) i f ≡ said es i f
    other d = ap (λ r. get_or r f None) (get_or-set_other es row.rule i new [] d)

quiet_valued : (s : Reader) (table : Table) (n : ℕ) (l : List ℕ) (m : Step) → Quiet s → valued s table n l ≡ Ok m → Quiet m.0
quiet_valued s Atoms n l m h g = subst Quiet (from_ok _ m (atom_step s n l m g).next) h
quiet_valued s Actions n l m h g = subst Quiet (from_ok _ m (action_step s n l m g).next) h
quiet_valued s Features n l m h g = subst Quiet (from_ok _ m (feature_step s n l m g).next) (λ i f low. h i f (omega (arith, low, feature_grows s.features (feature_step s n l m g).row)))
quiet_valued s Rules n l m h g =
    let a = rule_step s n l m g in
    let number : a.row.feature ≡ a.columns.1 = ap (λ r. r.feature) a.line.is in
    let below = a.line.feature_below in
    subst Quiet (from_ok _ m a.next) (λ i f low. entry_kept s.rules.entries a.row i f (omega (arith, number, below)) ∙ h i f low)

quiet_closed : (s : Reader) (table : Table) (n : ℕ) (m : Step) → Quiet s → closed s table n ≡ Ok m → Quiet m.0
quiet_closed s Atoms n m h g = subst Quiet (from_ok _ m (cond_on (eqb s.atoms.count 0) _ _ m g).1) h
quiet_closed s Actions n m h g = subst Quiet (from_ok _ m g) h
quiet_closed s Features n m h g = subst Quiet (from_ok _ m g) h
quiet_closed s Rules n m h g = subst Quiet (from_ok _ m g) h

quiet_by : (w : Wanted) (s : Reader) (n : ℕ) (l : List ℕ) (m : Step) → Quiet s → step_by w s n l ≡ Ok m → Quiet m.0
quiet_by (TheNames table) s n l m h g = subst Quiet (from_ok _ m (cond_ok (bytes_eq l (names_of table)) _ _ m g).1) h
quiet_by (Values table) s n [] m h g = quiet_closed s table n m h g
quiet_by (Values table) s n (b ∷ l) m h g = quiet_valued s table n (b ∷ l) m h g
quiet_by Nothing s n l m h g = absurd (let z : ◌≡◌ {A = ℕ} 0 1 = cc in omega arith)

quiet_step : (s : Reader) (n : ℕ) (l : List ℕ) (m : Step) → Quiet s → step s n l ≡ Ok m → Quiet m.0
unfolding step
quiet_step s n l m h g = quiet_by s.wanted s n l m h g

-- the entry of a rule
entry_said : (es : List (List (Option Entry))) (i f : ℕ) → entry_at (rule_at (map rule_of es) i) f ≡ unwrap_or (said es i f) blank
entry_said es i f = ap (λ r. entry_at r f) (get_or-map rule_of es i []) ∙ get_or-map (λ e. unwrap_or e blank) (get_or es i []) f None

-- such rules fit the features
all_fit : (s : Reader) → Sound s → Shaped s → Quiet s → first_unfit (length (features_read s)) (rules_read s) ≡ length (rules_read s)
unfolding first_unfit rule_fits
all_fit s sound shaped quiet = sym (lowest_is _ (length rs) (length rs) (omega arith) fits (λ h. absurd (omega arith)))
  where
    rs : List Rule
    rs = rules_read s

    count : length (features_read s) ≡ feature_count s.features
    count = simp (length-take, length-map) (omega (arith, sound.few_features, shaped.of_features.all))

    at : (i : ℕ) → i < length rs → rule_at rs i ≡ rule_at (rules_with_blanks s.rules) i
    at i h = get_or-take (rule_count s.rules) (rules_with_blanks s.rules) i idle (let l = length-take (rule_count s.rules) (rules_with_blanks s.rules) in omega arith)

    fits : (i : ℕ) → i < length rs → not (rule_fits (length (features_read s)) (rule_at rs i)) ≡ false
    fits i h =
        not_from_true _ (every_from _ 8 (λ f low.
        ⊎_elim (λ l. or_left (ltb f (length (features_read s))) _ (lt-ltb f (length (features_read s)) l))
        (λ l. or_right (ltb f (length (features_read s))) _ (ap (λ r. silent (entry_at r f)) (at i h) ∙ ap silent (entry_said s.rules.entries i f ∙ ap (λ o. unwrap_or o blank) (quiet i f (omega (arith, count))))))
        (cases_lt f (length (features_read s)))))

only_left : (s : Reader) → Sound s → Shaped s → Quiet s
    → sketch_fault (features_read s) (rules_read s)
    ≡ cond (ltb 0 (rules_left (kinds_of (features_read s)) (rules_read s))) (Some (RulesLeft (rules_left (kinds_of (features_read s)) (rules_read s)))) None
only_left s sound shaped quiet =
    let unfit = all_fit s sound shaped quiet in
    let a : ltb (first_unfit (length (features_read s)) (rules_read s)) (length (rules_read s)) ≡ false = le-ltb _ _ (omega arith) in
    let b : ltb 8 (length (features_read s)) ≡ false = le-ltb 8 _ (simp length-take (omega (arith, sound.few_features))) in
    let c : ltb 16 (length (rules_read s)) ≡ false = le-ltb 16 _ (simp length-take (omega (arith, sound.few_rules))) in
    λ i. cond (a i) (Some (Range (first_unfit (length (features_read s)) (rules_read s)))) (cond (b i) (Some (Limit 8)) (cond (c i) (Some (Limit 16)) (told (rules_left (kinds_of (features_read s)) (rules_read s)))))
  where
    told : ℕ → Option Refusal
    told k = cond (ltb 0 k) (Some (RulesLeft k)) None

left_told : (k : ℕ) (e : Refusal) → cond (ltb 0 k) (Some (RulesLeft k)) None ≡ Some e → (left : ℕ) × (1 ≤ left) × (e ≡ RulesLeft left)
left_told k e h = by_case (ltb 0 k) (ltb-true 0 k) h
  where
    by_case : (t : Bool) → (t ≡ true → 0 < k) → cond t (Some (RulesLeft k)) None ≡ Some e → (left : ℕ) × (1 ≤ left) × (e ≡ RulesLeft left)
    by_case true some g = (k, some refl, cc)
    by_case false some g = absurd (let z : ◌≡◌ {A = ℕ} 0 1 = cc in omega arith)

pub sieve_alone : SieveAlone
unfolding text_problem read_text
sieve_alone places bs e h = by_reading (read_lines 1 start (lines bs)) refl h
  where
    limit : ℕ
    limit = most_actions places

    start : Reading
    start = (start_of limit, blank_actions limit)

    by_sieve : (o : Option Refusal) (p : Parsed) → sieved o p ≡ Err (Sketch e) → o ≡ Some e
    by_sieve None p g = absurd (let z : ◌≡◌ {A = ℕ} 0 1 = cc in omega arith)
    by_sieve (Some refusal) p g = cc

    by_reading : (m : Result Reading LineFault) → read_lines 1 start (lines bs) ≡ m → and_then (of_problem m) (λ r. accepted (parsed r)) ≡ Err (Sketch e)
        → (left : ℕ) × (1 ≤ left) × (e ≡ RulesLeft left)
    by_reading (Ok r) is g =
        let sound = lines_kept Sound sound_step 1 start (lines bs) r (sound_start limit (omega arith)) is in
        let shaped = lines_kept Shaped shaped_step 1 start (lines bs) r (shaped_start limit) is in
        let quiet = lines_kept Quiet quiet_step 1 start (lines bs) r (quiet_start limit) is in
        left_told _ e (sym (only_left r.0 sound shaped quiet) ∙ by_sieve _ (parsed r) g)
    by_reading (Err d) is g = absurd (let z : ◌≡◌ {A = ℕ} 0 1 = cc in omega arith)
