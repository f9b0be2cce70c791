-- Reading keeps every count to its limit. Assumes nothing.
use Rattle.std.proofs.Common.{◌≡◌, ℕ, ◌≤◌, eqb, List, [], ◌∷◌, Ok, Result, ap, subst, arith}
use Rattle.std.specs.Str.{bytes_eq}
use Rattle.problem.specs.Form.{numbers, lettered, twice_lettered}
use Rattle.problem.specs.Reader.{Step, names_of, start_of, after_table, wanting, closed, valued, inside, step, step_by, after_atom, after_action, after_feature, after_rule}
use Rattle.problem.specs.State.{Sound}
use Rattle.problem.specs.Tables.{feature_count}
use Rattle.problem.specs.Rows.{checked_atom, checked_action, checked_feature, checked_rule, atom_row, action_row, feature_row, rule_row}
use Rattle.problem.specs.declared.fault.LineFault.{LineFault}
use Rattle.problem.specs.declared.fault.Table.{Table}
use Rattle.problem.specs.declared.fault.Table.TheVariants.{Atoms, Actions, Features, Rules}
use Rattle.problem.specs.declared.reader.Reader.{Reader}
use Rattle.problem.specs.declared.reader.Wanted.{Wanted}
use Rattle.problem.specs.declared.reader.Wanted.TheVariants.{TheNames, Values, Nothing}
use Rattle.problem.specs.declared.tables.ActionRow.{ActionRow}
use Rattle.problem.specs.declared.tables.AtomRow.{AtomRow}
use Rattle.problem.specs.declared.tables.FeatureRow.{FeatureRow}
use Rattle.problem.specs.declared.tables.RuleRow.{RuleRow}
use Rattle.problem.proofs.Blanks.{feature_raised, rule_raised}
use Rattle.problem.proofs.Inverse.{then_ok, cond_ok, cond_on, AtomLine, atom_line, ActionLine, action_line, FeatureLine, feature_line, RuleLine, rule_line}

-- a good line of values, with its columns
pub record AtomStep (s : Reader) (n : ℕ) (bs : List ℕ) (m : Step) : Type 0 where
  pub columns : ℕ × ℕ × ℕ
  pub row : AtomRow
  pub form : numbers n bs ≡ Ok columns
  pub line : AtomLine s.atoms.count n columns row
  pub next : after_atom s row ≡ Ok m

pub record ActionStep (s : Reader) (n : ℕ) (bs : List ℕ) (m : Step) : Type 0 where
  pub columns : ℕ × ℕ × ℕ
  pub row : ActionRow
  pub form : lettered n bs ≡ Ok columns
  pub line : ActionLine s.atoms.count s.limit n columns row
  pub next : after_action s row ≡ Ok m

pub record FeatureStep (s : Reader) (n : ℕ) (bs : List ℕ) (m : Step) : Type 0 where
  pub columns : ℕ × ℕ × ℕ
  pub row : FeatureRow
  pub form : lettered n bs ≡ Ok columns
  pub line : FeatureLine s.atoms.count s.features n columns row
  pub next : after_feature s row ≡ Ok m

pub record RuleStep (s : Reader) (n : ℕ) (bs : List ℕ) (m : Step) : Type 0 where
  pub columns : ℕ × ℕ × ℕ × ℕ
  pub row : RuleRow
  pub form : twice_lettered n bs ≡ Ok columns
  pub line : RuleLine (feature_count s.features) s.rules n columns row
  pub next : after_rule s row ≡ Ok m

pub atom_step : (s : Reader) (n : ℕ) (bs : List ℕ) (m : Step) → valued s Atoms n bs ≡ Ok m → AtomStep s n bs m
unfolding atom_row
atom_step s n bs m h =
    let a = then_ok (atom_row s.atoms.count n bs) (after_atom s) m h in
    let b = then_ok (numbers n bs) (checked_atom s.atoms.count n) a.0 a.1 in
    record { columns = b.0; row = a.0; form = b.1; line = atom_line s.atoms.count n b.0 a.0 b.2; next = a.2 }

pub action_step : (s : Reader) (n : ℕ) (bs : List ℕ) (m : Step) → valued s Actions n bs ≡ Ok m → ActionStep s n bs m
unfolding action_row
action_step s n bs m h =
    let a = then_ok (action_row s.atoms.count s.limit n bs) (after_action s) m h in
    let b = then_ok (lettered n bs) (checked_action s.atoms.count s.limit n) a.0 a.1 in
    record { columns = b.0; row = a.0; form = b.1; line = action_line s.atoms.count s.limit n b.0 a.0 b.2; next = a.2 }

pub feature_step : (s : Reader) (n : ℕ) (bs : List ℕ) (m : Step) → valued s Features n bs ≡ Ok m → FeatureStep s n bs m
unfolding feature_row
feature_step s n bs m h =
    let a = then_ok (feature_row s.atoms.count s.features n bs) (after_feature s) m h in
    let b = then_ok (lettered n bs) (checked_feature s.atoms.count s.features n) a.0 a.1 in
    record { columns = b.0; row = a.0; form = b.1; line = feature_line s.atoms.count s.features n b.0 a.0 b.2; next = a.2 }

pub rule_step : (s : Reader) (n : ℕ) (bs : List ℕ) (m : Step) → valued s Rules n bs ≡ Ok m → RuleStep s n bs m
unfolding rule_row
rule_step s n bs m h =
    let a = then_ok (rule_row (feature_count s.features) s.rules n bs) (after_rule s) m h in
    let b = then_ok (twice_lettered n bs) (checked_rule (feature_count s.features) s.rules n) a.0 a.1 in
    record { columns = b.0; row = a.0; form = b.1; line = rule_line (feature_count s.features) s.rules n b.0 a.0 b.2; next = a.2 }

-- what a good step comes to
pub from_ok : (k m : Step) → ◌≡◌ {A = Result Step LineFault} (Ok k) (Ok m) → k.0 ≡ m.0
from_ok k m h = let same : k ≡ m = cc in ap (λ t. t.0) same

pub sound_start : (limit : ℕ) → limit ≤ 1024 → Sound (start_of limit)
sound_start limit few = record { few_atoms = omega arith; few_actions = omega arith; few_features = omega arith; few_rules = omega arith; small_limit = few }

sound_wanting : (s : Reader) (w : Wanted) → Sound s → Sound (wanting s w)
sound_wanting s w h = record { few_atoms = h.few_atoms; few_actions = h.few_actions; few_features = h.few_features; few_rules = h.few_rules; small_limit = h.small_limit }

sound_valued : (s : Reader) (table : Table) (n : ℕ) (bs : List ℕ) (m : Step) → Sound s → valued s table n bs ≡ Ok m → Sound m.0
sound_valued s Atoms n bs m h g =
    let a = atom_step s n bs m g in
    subst Sound (from_ok _ m a.next) (record { few_atoms = omega (arith, a.line.few); few_actions = h.few_actions; few_features = h.few_features; few_rules = h.few_rules; small_limit = h.small_limit })
sound_valued s Actions n bs m h g =
    let a = action_step s n bs m g in
    let number : a.row.action ≡ a.columns.0 = ap (λ r. r.action) a.line.is in
    subst Sound (from_ok _ m a.next) (record { few_atoms = h.few_atoms; few_actions = omega (arith, a.line.action_below, h.few_actions, number); few_features = h.few_features; few_rules = h.few_rules; small_limit = h.small_limit })
sound_valued s Features n bs m h g =
    let a = feature_step s n bs m g in
    let number : a.row.feature ≡ a.columns.0 = ap (λ r. r.feature) a.line.is in
    subst Sound (from_ok _ m a.next) (record { few_atoms = h.few_atoms; few_actions = h.few_actions; few_features = omega (arith, feature_raised s.features a.row, a.line.feature_below, h.few_features, number); few_rules = h.few_rules; small_limit = h.small_limit })
sound_valued s Rules n bs m h g =
    let a = rule_step s n bs m g in
    let number : a.row.rule ≡ a.columns.0 = ap (λ r. r.rule) a.line.is in
    subst Sound (from_ok _ m a.next) (record { few_atoms = h.few_atoms; few_actions = h.few_actions; few_features = h.few_features; few_rules = omega (arith, rule_raised s.rules a.row, a.line.rule_below, h.few_rules, number); small_limit = h.small_limit })

sound_closed : (s : Reader) (table : Table) (n : ℕ) (m : Step) → Sound s → closed s table n ≡ Ok m → Sound m.0
sound_closed s Atoms n m h g = subst Sound (from_ok _ m (cond_on (eqb s.atoms.count 0) _ _ m g).1) (sound_wanting s (after_table Atoms) h)
sound_closed s Actions n m h g = subst Sound (from_ok _ m g) (sound_wanting s (after_table Actions) h)
sound_closed s Features n m h g = subst Sound (from_ok _ m g) (sound_wanting s (after_table Features) h)
sound_closed s Rules n m h g = subst Sound (from_ok _ m g) (sound_wanting s (after_table Rules) h)

sound_inside : (s : Reader) (table : Table) (n : ℕ) (bs : List ℕ) (m : Step) → Sound s → inside s table n bs ≡ Ok m → Sound m.0
sound_inside s table n [] m h g = sound_closed s table n m h g
sound_inside s table n (b ∷ bs) m h g = sound_valued s table n (b ∷ bs) m h g

sound_by : (w : Wanted) (s : Reader) (n : ℕ) (bs : List ℕ) (m : Step) → Sound s → step_by w s n bs ≡ Ok m → Sound m.0
sound_by (TheNames table) s n bs m h g = subst Sound (from_ok _ m (cond_ok (bytes_eq bs (names_of table)) _ _ m g).1) (sound_wanting s (Values table) h)
sound_by (Values table) s n bs m h g = sound_inside s table n bs m h g
sound_by Nothing s n bs m h g = absurd (let z : ◌≡◌ {A = ℕ} 0 1 = cc in omega arith)

pub sound_step : (s : Reader) (n : ℕ) (bs : List ℕ) (m : Step) → Sound s → step s n bs ≡ Ok m → Sound m.0
unfolding step
sound_step s n bs m h g = sound_by s.wanted s n bs m h g
