-- The tables of features and rules keep their size, and what one row says of the next. Assumes nothing.
use Rattle.std.proofs.Common.{◌≡◌, ℕ, ◌<◌, true, false, not, ◌&&◌, eqb, ltb, List, [], ◌∷◌, length, get_or, set, replicate, Some, None, Option, is_some, Ok, sym, refl, ap, ◌∙◌, subst, ⊎_elim, arith}
use Rattle.std.specs.Str.{bytes_eq}
use Rattle.std.proofs.lemmas.List.{length-set, get_or-set_same, get_or-set_other, get_or-replicate}
use Rattle.std.proofs.lemmas.Bool.{cases_eq, lt-ltb, eq-eqb, eqb-true, not-false, not_from_true, both_ways}
use Rattle.domain.specs.Atoms.{with_atom}
use Rattle.sketch.specs.Kind.{kind_char, kind_named}
use Rattle.sketch.specs.declared.feature.Feature.{Feature}
use Rattle.sketch.specs.declared.feature.Kind.{Kind}
use Rattle.sketch.specs.declared.feature.Kind.TheVariants.{Boolean, TrueCount, FalseCount}
use Rattle.sketch.specs.declared.rule.Entry.{Entry}
use Rattle.problem.specs.Reader.{Step, names_of, after_table, wanting, closed, valued, step, step_by, start_of}
use Rattle.problem.specs.Tables.{feature_of, unlike, other_kind, both_named, feature_added, rule_added}
use Rattle.problem.specs.declared.fault.Table.{Table}
use Rattle.problem.specs.declared.fault.Table.TheVariants.{Atoms, Actions, Features, Rules}
use Rattle.problem.specs.declared.reader.Reader.{Reader}
use Rattle.problem.specs.declared.reader.Wanted.{Wanted}
use Rattle.problem.specs.declared.reader.Wanted.TheVariants.{TheNames, Values, Nothing}
use Rattle.problem.specs.declared.tables.FeatureRow.{FeatureRow}
use Rattle.problem.specs.declared.tables.FeatureTable.{FeatureTable}
use Rattle.problem.specs.declared.tables.RuleRow.{RuleRow}
use Rattle.problem.specs.declared.tables.RuleTable.{RuleTable}
use Rattle.problem.proofs.Inverse.{cond_ok, cond_on}
use Rattle.problem.proofs.Sounds.{atom_step, action_step, feature_step, rule_step, from_ok}

-- the sizes of the tables
pub record SizedFeatures (t : FeatureTable) : Type 0 where
  pub all : length t.features ≡ 8

pub record SizedRules (t : RuleTable) : Type 0 where
  pub all : length t.entries ≡ 16
  pub each : (i : ℕ) → i < 16 → length (get_or t.entries i []) ≡ 8

pub record Shaped (s : Reader) : Type 0 where
  pub of_features : SizedFeatures s.features
  pub of_rules : SizedRules s.rules

pub shaped_start : (limit : ℕ) → Shaped (start_of limit)
shaped_start limit = record {
  of_features = record { all = refl };
  of_rules = record { all = refl; each = λ i h. ap length (get_or-replicate 16 i (replicate 8 None) [] h) };
}

sized_feature : (t : FeatureTable) (row : FeatureRow) → SizedFeatures t → SizedFeatures (feature_added t row)
sized_feature t row h = record { all = length-set t.features _ _ ∙ h.all }

sized_rule : (t : RuleTable) (row : RuleRow) → row.rule < 16 → SizedRules t → SizedRules (rule_added t row)
sized_rule t row low h = record { all = length-set t.entries _ _ ∙ h.all; each = each }
  where
    paired : List (Option Entry)
    paired = set (get_or t.entries row.rule []) row.feature (Some row.entry)

    here : length (get_or (set t.entries row.rule paired) row.rule []) ≡ 8
    here = ap length (get_or-set_same t.entries row.rule paired [] (omega (arith, h.all))) ∙ length-set (get_or t.entries row.rule []) row.feature (Some row.entry) ∙ h.each row.rule low

    each : (i : ℕ) → i < 16 → length (get_or (set t.entries row.rule paired) i []) ≡ 8
    each i l =
        ⊎_elim (λ e. subst (λ j. length (get_or (set t.entries row.rule paired) j []) ≡ 8) (sym e) here)
        (λ apart. ap length (get_or-set_other t.entries row.rule i paired [] apart) ∙ h.each i l)
        (cases_eq i row.rule)

shaped_wanting : (s : Reader) (w : Wanted) → Shaped s → Shaped (wanting s w)
shaped_wanting s w h = record { of_features = h.of_features; of_rules = h.of_rules }

shaped_valued : (s : Reader) (table : Table) (n : ℕ) (l : List ℕ) (m : Step) → Shaped s → valued s table n l ≡ Ok m → Shaped m.0
shaped_valued s Atoms n l m h g = subst Shaped (from_ok _ m (atom_step s n l m g).next) (record { of_features = h.of_features; of_rules = h.of_rules })
shaped_valued s Actions n l m h g = subst Shaped (from_ok _ m (action_step s n l m g).next) (record { of_features = h.of_features; of_rules = h.of_rules })
shaped_valued s Features n l m h g =
    let a = feature_step s n l m g in
    subst Shaped (from_ok _ m a.next) (record { of_features = sized_feature s.features a.row h.of_features; of_rules = h.of_rules })
shaped_valued s Rules n l m h g =
    let a = rule_step s n l m g in
    let number : a.row.rule ≡ a.columns.0 = ap (λ r. r.rule) a.line.is in
    subst Shaped (from_ok _ m a.next) (record { of_features = h.of_features; of_rules = sized_rule s.rules a.row (omega (arith, a.line.rule_below, number)) h.of_rules })

shaped_closed : (s : Reader) (table : Table) (n : ℕ) (m : Step) → Shaped s → closed s table n ≡ Ok m → Shaped m.0
shaped_closed s Atoms n m h g = subst Shaped (from_ok _ m (cond_on (eqb s.atoms.count 0) _ _ m g).1) (shaped_wanting s (after_table Atoms) h)
shaped_closed s Actions n m h g = subst Shaped (from_ok _ m g) (shaped_wanting s (after_table Actions) h)
shaped_closed s Features n m h g = subst Shaped (from_ok _ m g) (shaped_wanting s (after_table Features) h)
shaped_closed s Rules n m h g = subst Shaped (from_ok _ m g) (shaped_wanting s (after_table Rules) h)

shaped_by : (w : Wanted) (s : Reader) (n : ℕ) (l : List ℕ) (m : Step) → Shaped s → step_by w s n l ≡ Ok m → Shaped m.0
shaped_by (TheNames table) s n l m h g = subst Shaped (from_ok _ m (cond_ok (bytes_eq l (names_of table)) _ _ m g).1) (shaped_wanting s (Values table) h)
shaped_by (Values table) s n [] m h g = shaped_closed s table n m h g
shaped_by (Values table) s n (b ∷ l) m h g = shaped_valued s table n (b ∷ l) m h g
shaped_by Nothing s n l m h g = absurd (let z : ◌≡◌ {A = ℕ} 0 1 = cc in omega arith)

pub shaped_step : (s : Reader) (n : ℕ) (l : List ℕ) (m : Step) → Shaped s → step s n l ≡ Ok m → Shaped m.0
unfolding step
shaped_step s n l m h g = shaped_by s.wanted s n l m h g

kind_back : (k : Kind) → kind_named (kind_char k) ≡ Some k
kind_back Boolean = refl
kind_back TrueCount = refl
kind_back FalseCount = refl

same_kind : (k l : Kind) → kind_char k ≡ kind_char l → k ≡ l
same_kind k l e = let same : Some k ≡ Some l = sym (kind_back k) ∙ ap kind_named e ∙ kind_back l in cc

-- two rows of features, of which the second comes after the first, can come the other way round
module _ (t : FeatureTable) (sized : SizedFeatures t) where
  abbrev given : FeatureRow → Option Feature
  given q = Some (record { kind = q.kind; atoms = with_atom (feature_of (get_or t.features q.feature None)).atoms q.atom })

  other_here : (q : FeatureRow) (k : Kind) → q.feature < 8 → other_kind (feature_added t q) q.feature k ≡ not (eqb (kind_char q.kind) (kind_char k))
  other_here q k low =
      let a = lt-ltb q.feature 8 low in
      let c = get_or-set_same t.features q.feature (given q) None (omega (arith, sized.all)) in
      λ i. a i && unlike k (c i)

  other_apart : (q : FeatureRow) (f : ℕ) (k : Kind) → (f ≡ q.feature → ⊥) → other_kind (feature_added t q) f k ≡ other_kind t f k
  other_apart q f k apart =
      let c = get_or-set_other t.features q.feature f (given q) None apart in
      λ i. ltb f 8 && unlike k (c i)

  pub features_free : (q r : FeatureRow) → q.feature < 8 → other_kind t q.feature q.kind ≡ false → other_kind (feature_added t q) r.feature r.kind ≡ false
      → (other_kind t r.feature r.kind ≡ false) × (other_kind (feature_added t r) q.feature q.kind ≡ false) × (q.feature ≡ r.feature → q.kind ≡ r.kind)
  features_free q r low first second = ⊎_elim equal apart (cases_eq q.feature r.feature)
    where
      kinds : q.feature ≡ r.feature → q.kind ≡ r.kind
      kinds e =
          let here : other_kind (feature_added t q) q.feature r.kind ≡ false = ap (λ f. other_kind (feature_added t q) f r.kind) e ∙ second in
          same_kind q.kind r.kind (eqb-true _ _ (not-false _ (sym (other_here q r.kind low) ∙ here)))

      equal : q.feature ≡ r.feature
          → (other_kind t r.feature r.kind ≡ false) × (other_kind (feature_added t r) q.feature q.kind ≡ false) × (q.feature ≡ r.feature → q.kind ≡ r.kind)
      equal e =
          let k = kinds e in
          let known : eqb (kind_char r.kind) (kind_char q.kind) ≡ true = eq-eqb _ _ (ap kind_char (sym k)) in (
            (λ i. other_kind t (sym e i) (sym k i)) ∙ first,
            ap (λ f. other_kind (feature_added t r) f q.kind) e ∙ other_here r q.kind (omega (arith, e)) ∙ not_from_true _ known,
            kinds,
          )

      apart : (q.feature ≡ r.feature → ⊥)
          → (other_kind t r.feature r.kind ≡ false) × (other_kind (feature_added t r) q.feature q.kind ≡ false) × (q.feature ≡ r.feature → q.kind ≡ r.kind)
      apart d = (
        sym (other_apart q r.feature r.kind (λ e. d (sym e))) ∙ second,
        other_apart r q.feature q.kind d ∙ first,
        kinds,
      )

-- and two rows of rules
module _ (t : RuleTable) (sized : SizedRules t) where
  pair_here : (q : RuleRow) → q.rule < 16 → get_or (rule_added t q).entries q.rule [] ≡ set (get_or t.entries q.rule []) q.feature (Some q.entry)
  pair_here q low = get_or-set_same t.entries q.rule _ [] (omega (arith, sized.all))

  both_here : (q : RuleRow) → q.rule < 16 → q.feature < 8 → both_named (rule_added t q) q.rule q.feature ≡ true
  both_here q low small =
      let a = lt-ltb q.rule 16 low in
      let b = lt-ltb q.feature 8 small in
      let c = ap (λ row. is_some (get_or row q.feature None)) (pair_here q low) ∙ ap is_some (get_or-set_same (get_or t.entries q.rule []) q.feature (Some q.entry) None (omega (arith, sized.each q.rule low))) in
      λ i. a i && (b i && c i)

  both_apart : (q : RuleRow) (r f : ℕ) → q.rule < 16 → (q.rule ≡ r → q.feature ≡ f → ⊥) → both_named (rule_added t q) r f ≡ both_named t r f
  both_apart q r f low apart = ap (λ o. ltb r 16 && (ltb f 8 && is_some o)) (⊎_elim same other (cases_eq q.rule r))
    where
      same : q.rule ≡ r → get_or (get_or (rule_added t q).entries r []) f None ≡ get_or (get_or t.entries r []) f None
      same e =
          subst (λ k. get_or (get_or (rule_added t q).entries k []) f None ≡ get_or (get_or t.entries k []) f None) e
          (ap (λ row. get_or row f None) (pair_here q low) ∙ get_or-set_other (get_or t.entries q.rule []) q.feature f (Some q.entry) None (λ g. apart e (sym g)))

      other : (q.rule ≡ r → ⊥) → get_or (get_or (rule_added t q).entries r []) f None ≡ get_or (get_or t.entries r []) f None
      other d = ap (λ row. get_or row f None) (get_or-set_other t.entries q.rule r _ [] (λ g. d (sym g)))

  pub rules_free : (q r : RuleRow) → q.rule < 16 → r.rule < 16 → q.feature < 8 → both_named t q.rule q.feature ≡ false → both_named (rule_added t q) r.rule r.feature ≡ false
      → (both_named t r.rule r.feature ≡ false) × (both_named (rule_added t r) q.rule q.feature ≡ false) × (q.rule ≡ r.rule → q.feature ≡ r.feature → ⊥)
  rules_free q r low low' small first second = (
    sym (both_apart q r.rule r.feature low apart) ∙ second,
    both_apart r q.rule q.feature low' (λ e g. apart (sym e) (sym g)) ∙ first,
    apart,
  )
    where
      apart : q.rule ≡ r.rule → q.feature ≡ r.feature → ⊥
      apart e g = both_ways _ ((λ i. both_named (rule_added t q) (e i) (g i)) ∙ second) (both_here q low small)
