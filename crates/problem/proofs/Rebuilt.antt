-- A good line is good at any other place where its table allows it. Assumes nothing.
use Rattle.std.proofs.Common.{◌≡◌, ℕ, false, cond, List, [], ◌∷◌, Some, None, Ok, Err, Option, Result, sym, refl, ap, ◌∙◌, arith}
use Rattle.std.proofs.lemmas.Bool.{lt-ltb}
use Rattle.sketch.specs.Entry.{condition_named, effect_named}
use Rattle.sketch.specs.Kind.{kind_named}
use Rattle.sketch.specs.declared.feature.Kind.{Kind}
use Rattle.sketch.specs.declared.rule.Entry.{Entry}
use Rattle.problem.specs.Form.{and_then, of_line, number_at, lettered, twice_lettered}
use Rattle.problem.specs.Lines.{fields, three, four, preceded}
use Rattle.problem.specs.Numeral.{digits_value, flaw_of, judged, numeral, letter}
use Rattle.problem.specs.Reader.{valued, after_action, after_feature, after_rule}
use Rattle.problem.specs.Rows.{meant, checked_action, second_kind, checked_feature, checked_entry, checked_rule, action_row, feature_row, rule_row}
use Rattle.problem.specs.Tables.{feature_count, other_kind, both_named}
use Rattle.problem.specs.declared.fault.LineFault.{LineFault}
use Rattle.problem.specs.declared.fault.LineFault.TheVariants.{SecondKind, NamedTwice, NoSuchAtom, NoSuchFeature, Full}
use Rattle.problem.specs.declared.fault.NumberFlaw.{NumberFlaw}
use Rattle.problem.specs.declared.fault.Table.TheVariants.{Actions, Features, Rules}
use Rattle.problem.specs.declared.reader.Reader.{Reader}
use Rattle.problem.specs.declared.tables.ActionRow.{ActionRow}
use Rattle.problem.specs.declared.tables.FeatureRow.{FeatureRow}
use Rattle.problem.specs.declared.tables.FeatureTable.{FeatureTable}
use Rattle.problem.specs.declared.tables.RuleRow.{RuleRow}
use Rattle.problem.specs.declared.tables.RuleTable.{RuleTable}
use Rattle.problem.proofs.Forms.{lettered_good, twice_lettered_good}
use Rattle.problem.proofs.Inverse.{then_ok, meant_ok, ActionLine, FeatureLine, RuleLine}

-- the number of the line does not matter to what is good
judged_at : (n k column v w : ℕ) (o : Option NumberFlaw) → of_line (judged n column v o) ≡ Ok w → judged k column v o ≡ Ok w
judged_at n k column v w None h = let same : v ≡ w = cc in ap (λ x. Ok x) same
judged_at n k column v w (Some flaw) h = absurd (let z : ◌≡◌ {A = ℕ} 0 1 = cc in omega arith)

number_again : (n k column : ℕ) (bs : List ℕ) (v : ℕ) → number_at n column bs ≡ Ok v → numeral k column bs ≡ Ok v
unfolding numeral
number_again n k column bs v h = judged_at n k column (digits_value bs) v (flaw_of bs) h

letter_again : (n k column : ℕ) (bs : List ℕ) (c : ℕ) → letter n column bs ≡ Ok c → letter k column bs ≡ Ok c
letter_again n k column [] c h = absurd (let z : ◌≡◌ {A = ℕ} 0 1 = cc in omega arith)
letter_again n k column (b ∷ []) c h = h
letter_again n k column (b ∷ d ∷ bs) c h = absurd (let z : ◌≡◌ {A = ℕ} 0 1 = cc in omega arith)

three_again : (n k : ℕ) (ps : List (List ℕ)) (t : List ℕ × List ℕ × List ℕ) → three n ps ≡ Ok t → three k ps ≡ Ok t
three_again n k [] t h = absurd (let z : ◌≡◌ {A = ℕ} 0 1 = cc in omega arith)
three_again n k (p ∷ []) t h = absurd (let z : ◌≡◌ {A = ℕ} 0 1 = cc in omega arith)
three_again n k (p ∷ q ∷ []) t h = absurd (let z : ◌≡◌ {A = ℕ} 0 1 = cc in omega arith)
three_again n k (p ∷ q ∷ r ∷ []) t h = h
three_again n k (p ∷ q ∷ r ∷ s ∷ ss) t h = absurd (let z : ◌≡◌ {A = ℕ} 0 1 = cc in omega arith)

four_again : (n k : ℕ) (ps : List (List ℕ)) (t : List ℕ × List ℕ × List ℕ × List ℕ) → four n ps ≡ Ok t → four k ps ≡ Ok t
four_again n k [] t h = absurd (let z : ◌≡◌ {A = ℕ} 0 1 = cc in omega arith)
four_again n k (p ∷ ps) t h = by_rest (three n ps) h (three_again n k ps)
  where
    by_rest : (r : Result (List ℕ × List ℕ × List ℕ) LineFault) → preceded p r ≡ Ok t → ((u : List ℕ × List ℕ × List ℕ) → r ≡ Ok u → three k ps ≡ Ok u) → preceded p (three k ps) ≡ Ok t
    by_rest (Ok u) g again = ap (preceded p) (again u refl) ∙ g
    by_rest (Err e) g again = absurd (let z : ◌≡◌ {A = ℕ} 0 1 = cc in omega arith)

pub lettered_again : (n k : ℕ) (bs : List ℕ) (t : ℕ × ℕ × ℕ) → lettered n bs ≡ Ok t → lettered k bs ≡ Ok t
unfolding lettered
lettered_again n k bs t h =
    let p = then_ok (three n (fields bs)) _ t h in
    let u = then_ok (number_at n 1 p.0.0) _ t p.2 in
    let v = then_ok (letter n 2 p.0.1) _ t u.2 in
    let w = then_ok (number_at n 3 p.0.2) _ t v.2 in
    lettered_good k bs p.0.0 p.0.1 p.0.2 u.0 v.0 w.0 (three_again n k (fields bs) p.0 p.1)
    (number_again n k 1 p.0.0 u.0 u.1) (letter_again n k 2 p.0.1 v.0 v.1) (number_again n k 3 p.0.2 w.0 w.1) ∙ w.2

pub twice_again : (n k : ℕ) (bs : List ℕ) (t : ℕ × ℕ × ℕ × ℕ) → twice_lettered n bs ≡ Ok t → twice_lettered k bs ≡ Ok t
unfolding twice_lettered
twice_again n k bs t h =
    let p = then_ok (four n (fields bs)) _ t h in
    let u = then_ok (number_at n 1 p.0.0) _ t p.2 in
    let v = then_ok (number_at n 2 p.0.1) _ t u.2 in
    let w = then_ok (letter n 3 p.0.2) _ t v.2 in
    let q = then_ok (letter n 4 p.0.3) _ t w.2 in
    twice_lettered_good k bs p.0.0 p.0.1 p.0.2 p.0.3 u.0 v.0 w.0 q.0 (four_again n k (fields bs) p.0 p.1)
    (number_again n k 1 p.0.0 u.0 u.1) (number_again n k 2 p.0.1 v.0 v.1) (letter_again n k 3 p.0.2 w.0 w.1) (letter_again n k 4 p.0.3 q.0 q.1) ∙ q.2

entry_again : (n k c d : ℕ) (e : Entry) → checked_entry n c d ≡ Ok e → checked_entry k c d ≡ Ok e
entry_again n k c d e h =
    let a = then_ok (meant n 3 (condition_named c)) _ e h in
    let b = then_ok (meant n 4 (effect_named d)) _ e a.2 in
    let when_is = meant_ok n 3 (condition_named c) a.0 a.1 in
    let then_is = meant_ok n 4 (effect_named d) b.0 b.1 in
    (λ i. and_then (meant k 3 (when_is i)) λ when. and_then (meant k 4 (then_is i)) λ then. Ok (record { when = when; then = then })) ∙ b.2

-- the same line in another state of its table
action_again : (atoms limit n k : ℕ) (t : ℕ × ℕ × ℕ) (row : ActionRow) → ActionLine atoms limit n t row → checked_action atoms limit k t ≡ Ok row
action_again atoms limit n k t row h =
    let a = lt-ltb t.2 atoms h.atom_below in
    let b = lt-ltb t.0 limit h.action_below in
    simp (h.role, a, b) (ap (λ x. Ok x) (sym h.is))

feature_again : (atoms : ℕ) (table other : FeatureTable) (n k : ℕ) (t : ℕ × ℕ × ℕ) (row : FeatureRow) → FeatureLine atoms table n t row → other_kind other t.0 row.kind ≡ false
    → checked_feature atoms other k t ≡ Ok row
feature_again atoms table other n k t row h free =
    let a = lt-ltb t.2 atoms h.atom_below in
    let b = lt-ltb t.0 8 h.feature_below in
    let first : second_kind other t.0 (kind_named t.1) ≡ false = ap (second_kind other t.0) h.kind ∙ free in
    (λ i. cond (first i) (Err (SecondKind k)) (and_then (meant k 2 (h.kind i)) λ kind. cond (a i) (cond (b i) (Ok (given kind)) (Err (Full k Features))) (Err (NoSuchAtom k))))
    ∙ ap (λ x. Ok x) (sym h.is)
  where
    given : Kind → FeatureRow
    given kind = record { feature = t.0; kind = kind; atom = t.2 }

rule_again : (features : ℕ) (table other : RuleTable) (n k : ℕ) (t : ℕ × ℕ × ℕ × ℕ) (row : RuleRow) → RuleLine features table n t row → both_named other t.0 t.1 ≡ false
    → checked_rule features other k t ≡ Ok row
rule_again features table other n k t row h free =
    let a = lt-ltb t.1 features h.feature_below in
    let b = lt-ltb t.0 16 h.rule_below in
    let e = entry_again n k t.2 t.3 row.entry h.entry in
    (λ i. cond (free i) (Err (NamedTwice k)) (cond (a i) (and_then (e i) λ entry. cond (b i) (Ok (given entry)) (Err (Full k Rules))) (Err (NoSuchFeature k))))
    ∙ ap (λ x. Ok x) (sym h.is)
  where
    given : Entry → RuleRow
    given entry = record { rule = t.0; feature = t.1; entry = entry }

pub action_there : (s : Reader) (n k : ℕ) (bs : List ℕ) (t : ℕ × ℕ × ℕ) (row : ActionRow) → lettered n bs ≡ Ok t → ActionLine s.atoms.count s.limit n t row → valued s Actions k bs ≡ after_action s row
unfolding action_row
action_there s n k bs t row form line =
    ap (λ r. and_then (and_then r (checked_action s.atoms.count s.limit k)) (after_action s)) (lettered_again n k bs t form)
    ∙ ap (λ r. and_then r (after_action s)) (action_again s.atoms.count s.limit n k t row line)

pub feature_there : (s : Reader) (table : FeatureTable) (n k : ℕ) (bs : List ℕ) (t : ℕ × ℕ × ℕ) (row : FeatureRow) → lettered n bs ≡ Ok t → FeatureLine s.atoms.count table n t row
    → other_kind s.features t.0 row.kind ≡ false → valued s Features k bs ≡ after_feature s row
unfolding feature_row
feature_there s table n k bs t row form line free =
    ap (λ r. and_then (and_then r (checked_feature s.atoms.count s.features k)) (after_feature s)) (lettered_again n k bs t form)
    ∙ ap (λ r. and_then r (after_feature s)) (feature_again s.atoms.count table s.features n k t row line free)

pub rule_there : (s : Reader) (table : RuleTable) (n k : ℕ) (bs : List ℕ) (t : ℕ × ℕ × ℕ × ℕ) (row : RuleRow) → twice_lettered n bs ≡ Ok t → RuleLine (feature_count s.features) table n t row
    → both_named s.rules t.0 t.1 ≡ false → valued s Rules k bs ≡ after_rule s row
unfolding rule_row
rule_there s table n k bs t row form line free =
    ap (λ r. and_then (and_then r (checked_rule (feature_count s.features) s.rules k)) (after_rule s)) (twice_again n k bs t form)
    ∙ ap (λ r. and_then r (after_rule s)) (rule_again (feature_count s.features) table s.rules n k t row line free)
