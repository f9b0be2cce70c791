-- What a line of each table means. A line is checked for its form, then for its ranges, then for its limit.
-- Assumes nothing.
use Rattle.std.specs.Prelude.{ℕ, Bool, true, false, cond, List, Some, None, Ok, Err, Option, Result, ◌==◌, nat_lt}
use Rattle.sketch.specs.Entry.{condition_named, effect_named}
use Rattle.sketch.specs.Kind.{kind_named}
use Rattle.sketch.specs.declared.feature.Kind.{Kind}
use Rattle.sketch.specs.declared.rule.Entry.{Entry}
use Rattle.problem.specs.Form.{and_then, numbers, lettered, twice_lettered}
use Rattle.problem.specs.Role.{role_named}
use Rattle.problem.specs.Tables.{other_kind, both_named}
use Rattle.problem.specs.declared.fault.LineFault.{LineFault}
use Rattle.problem.specs.declared.fault.LineFault.TheVariants.{AtomOrder, SecondKind, NamedTwice, Letter, Truth, NoSuchAtom, NoSuchFeature, Full}
use Rattle.problem.specs.declared.fault.Table.TheVariants.{Atoms, Actions, Features, Rules}
use Rattle.problem.specs.declared.tables.ActionRow.{ActionRow}
use Rattle.problem.specs.declared.tables.AtomRow.{AtomRow}
use Rattle.problem.specs.declared.tables.FeatureRow.{FeatureRow}
use Rattle.problem.specs.declared.tables.FeatureTable.{FeatureTable}
use Rattle.problem.specs.declared.tables.RuleRow.{RuleRow}
use Rattle.problem.specs.declared.tables.RuleTable.{RuleTable}

-- 0 is false and 1 is true
abbrev pub truth : ℕ → ℕ → ℕ → Result Bool LineFault
truth n column v = cond (v == 0) (Ok false) (cond (v == 1) (Ok true) (Err (Truth n column)))

-- what a letter of a column stands for, if for anything
abbrev pub meant : {X : Type 0} → ℕ → ℕ → Option X → Result X LineFault
meant n column None = Err (Letter n column)
meant n column (Some x) = Ok x

-- an atom, whether it is true at the start and whether it is a goal: the atom is the next one, of which there are 256
abbrev pub checked_atom : ℕ → ℕ → ℕ × ℕ × ℕ → Result AtomRow LineFault
checked_atom next n t =
    cond (t.0 == next)
    (and_then (truth n 2 t.1) λ at_start.
    and_then (truth n 3 t.2) λ at_goal.
    cond (nat_lt next 256) (Ok (record { start = at_start; goal = at_goal })) (Err (Full n Atoms)))
    (Err (AtomOrder n))

-- an action, a role and an atom that has it
abbrev pub checked_action : ℕ → ℕ → ℕ → ℕ × ℕ × ℕ → Result ActionRow LineFault
checked_action atoms limit n t =
    and_then (meant n 2 (role_named t.1)) λ role.
    cond (nat_lt t.2 atoms)
    (cond (nat_lt t.0 limit) (Ok (record { action = t.0; role = role; atom = t.2 })) (Err (Full n Actions)))
    (Err (NoSuchAtom n))

-- the feature was named under a kind, and this is another; a letter that stands for no kind is none
abbrev pub second_kind : FeatureTable → ℕ → Option Kind → Bool
second_kind table f None = false
second_kind table f (Some kind) = other_kind table f kind

-- a feature, its kind and an atom of it
abbrev pub checked_feature : ℕ → FeatureTable → ℕ → ℕ × ℕ × ℕ → Result FeatureRow LineFault
checked_feature atoms table n t =
    cond (second_kind table t.0 (kind_named t.1)) (Err (SecondKind n))
    (and_then (meant n 2 (kind_named t.1)) λ kind.
    cond (nat_lt t.2 atoms)
    (cond (nat_lt t.0 8) (Ok (record { feature = t.0; kind = kind; atom = t.2 })) (Err (Full n Features)))
    (Err (NoSuchAtom n)))

-- a condition and an effect
abbrev pub checked_entry : ℕ → ℕ → ℕ → Result Entry LineFault
checked_entry n c d =
    and_then (meant n 3 (condition_named c)) λ when.
    and_then (meant n 4 (effect_named d)) λ then.
    Ok (record { when = when; then = then })

-- a rule, a feature, and what the rule says of it
abbrev pub checked_rule : ℕ → RuleTable → ℕ → ℕ × ℕ × ℕ × ℕ → Result RuleRow LineFault
checked_rule features table n t =
    cond (both_named table t.0 t.1) (Err (NamedTwice n))
    (cond (nat_lt t.1 features)
    (and_then (checked_entry n t.2 t.3) λ entry.
    cond (nat_lt t.0 16) (Ok (record { rule = t.0; feature = t.1; entry = entry })) (Err (Full n Rules)))
    (Err (NoSuchFeature n)))

-- the lines of values of each table, by their number and bytes
unfoldable pub atom_row : ℕ → ℕ → List ℕ → Result AtomRow LineFault
atom_row next n bs = and_then (numbers n bs) (checked_atom next n)

unfoldable pub action_row : ℕ → ℕ → ℕ → List ℕ → Result ActionRow LineFault
action_row atoms limit n bs = and_then (lettered n bs) (checked_action atoms limit n)

unfoldable pub feature_row : ℕ → FeatureTable → ℕ → List ℕ → Result FeatureRow LineFault
feature_row atoms table n bs = and_then (lettered n bs) (checked_feature atoms table n)

unfoldable pub rule_row : ℕ → RuleTable → ℕ → List ℕ → Result RuleRow LineFault
rule_row features table n bs = and_then (twice_lettered n bs) (checked_rule features table n)
