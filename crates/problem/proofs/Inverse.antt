-- What a good line says of its columns. Assumes nothing.
use Rattle.std.proofs.Common.{◌≡◌, ℕ, ◌<◌, Bool, true, false, cond, eqb, ltb, Some, None, Ok, Err, Option, Result, sym, refl, ap, ◌∙◌, arith}
use Rattle.std.proofs.lemmas.Bool.{ltb-true, eqb-true}
use Rattle.sketch.specs.Kind.{kind_named}
use Rattle.problem.specs.Form.{and_then}
use Rattle.problem.specs.Role.{role_named}
use Rattle.problem.specs.Rows.{truth, meant, checked_atom, checked_action, second_kind, checked_feature, checked_entry, checked_rule}
use Rattle.problem.specs.Tables.{other_kind, both_named}
use Rattle.problem.specs.declared.fault.LineFault.TheVariants.{Truth}
use Rattle.problem.specs.declared.tables.ActionRow.{ActionRow}
use Rattle.problem.specs.declared.tables.AtomRow.{AtomRow}
use Rattle.problem.specs.declared.tables.FeatureRow.{FeatureRow}
use Rattle.problem.specs.declared.tables.FeatureTable.{FeatureTable}
use Rattle.problem.specs.declared.tables.RuleRow.{RuleRow}
use Rattle.problem.specs.declared.tables.RuleTable.{RuleTable}

pub then_ok : {X Y E : Type 0} (r : Result X E) (f : X → Result Y E) (y : Y) → and_then r f ≡ Ok y → (x : X) × (r ≡ Ok x) × (f x ≡ Ok y)
then_ok (Ok x) f y h = (x, refl, h)
then_ok (Err e) f y h = absurd (let z : ◌≡◌ {A = ℕ} 0 1 = cc in omega arith)

-- a test that goes on when it holds, and one that goes on when it does not
pub cond_ok : {X E : Type 0} (b : Bool) (r : Result X E) (e : E) (x : X) → cond b r (Err e) ≡ Ok x → (b ≡ true) × (r ≡ Ok x)
cond_ok true r e x h = (refl, h)
cond_ok false r e x h = absurd (let z : ◌≡◌ {A = ℕ} 0 1 = cc in omega arith)

pub cond_on : {X E : Type 0} (b : Bool) (r : Result X E) (e : E) (x : X) → cond b (Err e) r ≡ Ok x → (b ≡ false) × (r ≡ Ok x)
cond_on false r e x h = (refl, h)
cond_on true r e x h = absurd (let z : ◌≡◌ {A = ℕ} 0 1 = cc in omega arith)

pub meant_ok : {X : Type 0} (n column : ℕ) (o : Option X) (x : X) → meant n column o ≡ Ok x → o ≡ Some x
meant_ok n column None x h = absurd (let z : ◌≡◌ {A = ℕ} 0 1 = cc in omega arith)
meant_ok n column (Some y) x h = cc

truth_small : (n column v : ℕ) (b : Bool) → truth n column v ≡ Ok b → v < 2
truth_small n column v b h = by_zero (eqb v 0) (eqb-true v 0) (eqb v 1) (eqb-true v 1) h
  where
    by_zero : (t : Bool) → (t ≡ true → v ≡ 0) → (u : Bool) → (u ≡ true → v ≡ 1) → cond t (Ok false) (cond u (Ok true) (Err (Truth n column))) ≡ Ok b → v < 2
    by_zero true z u o g = omega (arith, z refl)
    by_zero false z true o g = omega (arith, o refl)
    by_zero false z false o g = absurd (let k : ◌≡◌ {A = ℕ} 0 1 = cc in omega arith)

pub record AtomLine (next n : ℕ) (t : ℕ × ℕ × ℕ) (row : AtomRow) : Type 0 where
  pub number : t.0 ≡ next
  pub few : next < 256
  pub start_small : t.1 < 2
  pub goal_small : t.2 < 2

pub atom_line : (next n : ℕ) (t : ℕ × ℕ × ℕ) (row : AtomRow) → checked_atom next n t ≡ Ok row → AtomLine next n t row
atom_line next n t row h =
    let a = cond_ok (eqb t.0 next) _ _ row h in
    let b = then_ok (truth n 2 t.1) _ row a.1 in
    let c = then_ok (truth n 3 t.2) _ row b.2 in
    let d = cond_ok (ltb next 256) _ _ row c.2 in
    record {
      number = eqb-true t.0 next a.0;
      few = ltb-true next 256 d.0;
      start_small = truth_small n 2 t.1 b.0 b.1;
      goal_small = truth_small n 3 t.2 c.0 c.1;
    }

pub record ActionLine (atoms limit n : ℕ) (t : ℕ × ℕ × ℕ) (row : ActionRow) : Type 0 where
  pub role : role_named t.1 ≡ Some row.role
  pub atom_below : t.2 < atoms
  pub action_below : t.0 < limit
  pub is : row ≡ record { action = t.0; role = row.role; atom = t.2 }

pub action_line : (atoms limit n : ℕ) (t : ℕ × ℕ × ℕ) (row : ActionRow) → checked_action atoms limit n t ≡ Ok row → ActionLine atoms limit n t row
action_line atoms limit n t row h =
    let a = then_ok (meant n 2 (role_named t.1)) _ row h in
    let b = cond_ok (ltb t.2 atoms) _ _ row a.2 in
    let c = cond_ok (ltb t.0 limit) _ _ row b.1 in
    let same : ◌≡◌ {A = ActionRow} (record { action = t.0; role = a.0; atom = t.2 }) row = let g = c.1 in cc in
    let role_is : a.0 ≡ row.role = ap (λ x. x.role) same in
    record {
      role = meant_ok n 2 (role_named t.1) a.0 a.1 ∙ ap (λ x. Some x) role_is;
      atom_below = ltb-true t.2 atoms b.0;
      action_below = ltb-true t.0 limit c.0;
      is = sym same ∙ ap (λ x. record { action = t.0; role = x; atom = t.2 }) role_is;
    }

pub record FeatureLine (atoms : ℕ) (table : FeatureTable) (n : ℕ) (t : ℕ × ℕ × ℕ) (row : FeatureRow) : Type 0 where
  pub kind : kind_named t.1 ≡ Some row.kind
  pub first_kind : other_kind table t.0 row.kind ≡ false
  pub atom_below : t.2 < atoms
  pub feature_below : t.0 < 8
  pub is : row ≡ record { feature = t.0; kind = row.kind; atom = t.2 }

pub feature_line : (atoms : ℕ) (table : FeatureTable) (n : ℕ) (t : ℕ × ℕ × ℕ) (row : FeatureRow) → checked_feature atoms table n t ≡ Ok row → FeatureLine atoms table n t row
feature_line atoms table n t row h =
    let z = cond_on (second_kind table t.0 (kind_named t.1)) _ _ row h in
    let a = then_ok (meant n 2 (kind_named t.1)) _ row z.1 in
    let b = cond_ok (ltb t.2 atoms) _ _ row a.2 in
    let c = cond_ok (ltb t.0 8) _ _ row b.1 in
    let same : ◌≡◌ {A = FeatureRow} (record { feature = t.0; kind = a.0; atom = t.2 }) row = let g = c.1 in cc in
    let kind_is : a.0 ≡ row.kind = ap (λ x. x.kind) same in
    let named = meant_ok n 2 (kind_named t.1) a.0 a.1 ∙ ap (λ x. Some x) kind_is in
    record {
      kind = named;
      first_kind = sym (ap (second_kind table t.0) named) ∙ z.0;
      atom_below = ltb-true t.2 atoms b.0;
      feature_below = ltb-true t.0 8 c.0;
      is = sym same ∙ ap (λ x. record { feature = t.0; kind = x; atom = t.2 }) kind_is;
    }

pub record RuleLine (features : ℕ) (table : RuleTable) (n : ℕ) (t : ℕ × ℕ × ℕ × ℕ) (row : RuleRow) : Type 0 where
  pub once : both_named table t.0 t.1 ≡ false
  pub feature_below : t.1 < features
  pub entry : checked_entry n t.2 t.3 ≡ Ok row.entry
  pub rule_below : t.0 < 16
  pub is : row ≡ record { rule = t.0; feature = t.1; entry = row.entry }

pub rule_line : (features : ℕ) (table : RuleTable) (n : ℕ) (t : ℕ × ℕ × ℕ × ℕ) (row : RuleRow) → checked_rule features table n t ≡ Ok row → RuleLine features table n t row
rule_line features table n t row h =
    let z = cond_on (both_named table t.0 t.1) _ _ row h in
    let a = cond_ok (ltb t.1 features) _ _ row z.1 in
    let b = then_ok (checked_entry n t.2 t.3) _ row a.1 in
    let c = cond_ok (ltb t.0 16) _ _ row b.2 in
    let same : ◌≡◌ {A = RuleRow} (record { rule = t.0; feature = t.1; entry = b.0 }) row = let g = c.1 in cc in
    let entry_is : b.0 ≡ row.entry = ap (λ x. x.entry) same in
    record {
      once = z.0;
      feature_below = ltb-true t.1 features a.0;
      entry = b.1 ∙ ap (λ x. Ok x) entry_is;
      rule_below = ltb-true t.0 16 c.0;
      is = sym same ∙ ap (λ x. record { rule = t.0; feature = t.1; entry = x }) entry_is;
    }
