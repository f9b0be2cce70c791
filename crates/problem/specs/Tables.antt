-- What the tables of a text hold so far, and what a line of values adds. What is not named stays empty, of kind t, or
-- without condition and effect. Assumes nothing.
use Rattle.std.specs.Prelude.{ℕ, ◌+◌, max, Bool, false, cond, not, ◌&&◌, List, [], ◌∷◌, map, set, replicate, Option, Some, None, is_some, unwrap_or, ◌==◌, nat_lt, slice_index_or, slice_set}
use Rattle.std.specs.List.{list_any}
use Rattle.domain.specs.Atoms.{none, with_atom}
use Rattle.domain.specs.Strips.{action_at}
use Rattle.domain.specs.declared.strips.Action.{Action}
use Rattle.sketch.specs.Kind.{kind_char}
use Rattle.sketch.specs.Rule.{blank}
use Rattle.sketch.specs.declared.feature.Feature.{Feature}
use Rattle.sketch.specs.declared.feature.Kind.{Kind}
use Rattle.sketch.specs.declared.feature.Kind.TheVariants.{TrueCount}
use Rattle.sketch.specs.declared.rule.Entry.{Entry}
use Rattle.sketch.specs.declared.rule.Rule.{Rule}
use Rattle.problem.specs.declared.role.Role.{Role}
use Rattle.problem.specs.declared.role.Role.TheVariants.{Precondition, Addition, Deletion}
use Rattle.problem.specs.declared.tables.ActionRow.{ActionRow}
use Rattle.problem.specs.declared.tables.AtomRow.{AtomRow}
use Rattle.problem.specs.declared.tables.AtomTable.{AtomTable}
use Rattle.problem.specs.declared.tables.FeatureRow.{FeatureRow}
use Rattle.problem.specs.declared.tables.FeatureTable.{FeatureTable}
use Rattle.problem.specs.declared.tables.RuleRow.{RuleRow}
use Rattle.problem.specs.declared.tables.RuleTable.{RuleTable}

-- an action and a feature that nothing names
abbrev pub blank_action : Action
blank_action = record { preconditions = none; additions = none; deletions = none }

abbrev pub blank_feature : Feature
blank_feature = record { kind = TrueCount; atoms = none }

-- one above the last element that passes
abbrev pub one_past : {X : Type 0} → (X → Bool) → List X → ℕ
one_past p [] = 0
one_past p (x ∷ xs) = cond (nat_lt 0 (one_past p xs)) (1 + one_past p xs) (cond (p x) 1 0)

-- how many features and rules there are: one above the highest number that was named
abbrev pub feature_count : FeatureTable → ℕ
feature_count t = one_past is_some t.features

abbrev pub rule_count : RuleTable → ℕ
rule_count t = one_past (list_any is_some) t.entries

-- a feature that may have been named, the feature of a number, and the rule of entries that may have been named
abbrev pub feature_of : Option Feature → Feature
feature_of f = unwrap_or f blank_feature

abbrev pub feature_at : List (Option Feature) → ℕ → Feature
feature_at fs f = feature_of (slice_index_or fs f None)

abbrev pub rule_of : List (Option Entry) → Rule
rule_of es = record { entries = map (λ e. unwrap_or e blank) es }

-- the whole tables, with what was not named
abbrev pub features_with_blanks : FeatureTable → List Feature
features_with_blanks t = map feature_of t.features

abbrev pub rules_with_blanks : RuleTable → List Rule
rules_with_blanks t = map rule_of t.entries

-- the tables before their first line
abbrev pub no_atoms : AtomTable
no_atoms = record { count = 0; start = none; goal = none }

abbrev pub no_features : FeatureTable
no_features = record { features = replicate 8 None }

abbrev pub no_rules : RuleTable
no_rules = record { entries = replicate 16 (replicate 8 None) }

-- one above the highest number so far
abbrev pub raised_to : ℕ → ℕ → ℕ
raised_to count i = max count (i + 1)

-- the next atom, true at the start or not, a goal or not
abbrev pub atom_added : AtomTable → AtomRow → AtomTable
atom_added t row = record {
  count = t.count + 1;
  start = cond row.start (with_atom t.start t.count) t.start;
  goal = cond row.goal (with_atom t.goal t.count) t.goal;
}

-- an action with one atom more in a role
abbrev pub with_role : Action → Role → ℕ → Action
with_role act Precondition atom = record { preconditions = with_atom act.preconditions atom; additions = act.additions; deletions = act.deletions }
with_role act Addition atom = record { preconditions = act.preconditions; additions = with_atom act.additions atom; deletions = act.deletions }
with_role act Deletion atom = record { preconditions = act.preconditions; additions = act.additions; deletions = with_atom act.deletions atom }

-- the actions after a line of their table; one past the places is left out
abbrev pub action_added : List Action → ActionRow → List Action
action_added acts row = slice_set acts row.action (with_role (action_at acts row.action) row.role row.atom)

-- a feature of a kind has one atom more
abbrev pub feature_added : FeatureTable → FeatureRow → FeatureTable
feature_added t row = record {
  features = set t.features row.feature
      (Some (record { kind = row.kind; atoms = with_atom (feature_at t.features row.feature).atoms row.atom }));
}

-- a rule says something of a feature
abbrev pub rule_added : RuleTable → RuleRow → RuleTable
rule_added t row = record { entries = slice_set t.entries row.rule (slice_set (slice_index_or t.entries row.rule []) row.feature (Some row.entry)) }

-- the feature was named under another kind
abbrev pub unlike : Kind → Option Feature → Bool
unlike kind None = false
unlike kind (Some f) = not (kind_char f.kind == kind_char kind)

abbrev pub other_kind : FeatureTable → ℕ → Kind → Bool
other_kind t f kind = nat_lt f 8 && unlike kind (slice_index_or t.features f None)

-- the rule and the feature were named together
abbrev pub both_named : RuleTable → ℕ → ℕ → Bool
both_named t r f = nat_lt r 16 && (nat_lt f 8 && is_some (slice_index_or (slice_index_or t.entries r []) f None))
