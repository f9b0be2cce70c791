-- What one line of a text does to what was read so far. Assumes nothing.
use Rattle.std.specs.Prelude.{◌≡◌, ℕ, cond, List, [], ◌∷◌, Some, None, Ok, Err, codes, Option, Result, ◌==◌}
use Rattle.std.specs.Str.{bytes_eq}
use Rattle.problem.specs.Form.{and_then}
use Rattle.problem.specs.Rows.{atom_row, action_row, feature_row, rule_row}
use Rattle.problem.specs.Tables.{no_atoms, no_features, no_rules, feature_count, raised_to, atom_added, feature_added, rule_added}
use Rattle.problem.specs.declared.fault.LineFault.{LineFault}
use Rattle.problem.specs.declared.fault.LineFault.TheVariants.{Names, NoAtoms, AfterEnd}
use Rattle.problem.specs.declared.fault.Table.{Table}
use Rattle.problem.specs.declared.fault.Table.TheVariants.{Atoms, Actions, Features, Rules}
use Rattle.problem.specs.declared.reader.Reader.{Reader}
use Rattle.problem.specs.declared.reader.Wanted.{Wanted}
use Rattle.problem.specs.declared.reader.Wanted.TheVariants.{TheNames, Values, Nothing}
use Rattle.problem.specs.declared.tables.ActionRow.{ActionRow}
use Rattle.problem.specs.declared.tables.AtomRow.{AtomRow}
use Rattle.problem.specs.declared.tables.AtomTable.{AtomTable}
use Rattle.problem.specs.declared.tables.FeatureRow.{FeatureRow}
use Rattle.problem.specs.declared.tables.FeatureTable.{FeatureTable}
use Rattle.problem.specs.declared.tables.RuleRow.{RuleRow}
use Rattle.problem.specs.declared.tables.RuleTable.{RuleTable}

-- the line of names that opens each table
abbrev pub names_of : Table → List ℕ
names_of Atoms = codes "atom start goal"
names_of Actions = codes "action role atom"
names_of Features = codes "feature kind atom"
names_of Rules = codes "rule feature when then"

-- what is wanted behind each table
abbrev pub after_table : Table → Wanted
after_table Atoms = TheNames Actions
after_table Actions = TheNames Features
after_table Features = TheNames Rules
after_table Rules = Nothing

-- before the first line, where so many actions are allowed
abbrev pub start_of : ℕ → Reader
start_of limit = record { limit = limit; wanted = TheNames Atoms; atoms = no_atoms; actions = 0; features = no_features; rules = no_rules }

-- the reader with one part changed
abbrev pub wanting : Reader → Wanted → Reader
wanting s w = record { limit = s.limit; wanted = w; atoms = s.atoms; actions = s.actions; features = s.features; rules = s.rules }

abbrev pub with_atoms : Reader → AtomTable → Reader
with_atoms s t = record { limit = s.limit; wanted = s.wanted; atoms = t; actions = s.actions; features = s.features; rules = s.rules }

abbrev pub with_actions : Reader → ℕ → Reader
with_actions s count = record { limit = s.limit; wanted = s.wanted; atoms = s.atoms; actions = count; features = s.features; rules = s.rules }

abbrev pub with_features : Reader → FeatureTable → Reader
with_features s t = record { limit = s.limit; wanted = s.wanted; atoms = s.atoms; actions = s.actions; features = t; rules = s.rules }

abbrev pub with_rules : Reader → RuleTable → Reader
with_rules s t = record { limit = s.limit; wanted = s.wanted; atoms = s.atoms; actions = s.actions; features = s.features; rules = t }

-- the reader after a line, and the line's row if it is one of the action table
abbrev pub Step : Type 0
Step = Reader × Option ActionRow

abbrev pub moved : Reader → Step
moved s = (s, None)

-- a table opens with the line of its names
abbrev pub opened : Reader → Table → ℕ → List ℕ → Result Step LineFault
opened s table n bs = cond (bytes_eq bs (names_of table)) (Ok (moved (wanting s (Values table)))) (Err (Names n))

-- an empty line ends a table, that of the atoms only if there is an atom
abbrev pub closed : Reader → Table → ℕ → Result Step LineFault
closed s Atoms n = cond (s.atoms.count == 0) (Err (NoAtoms n)) (Ok (moved (wanting s (after_table Atoms))))
closed s Actions n = Ok (moved (wanting s (after_table Actions)))
closed s Features n = Ok (moved (wanting s (after_table Features)))
closed s Rules n = Ok (moved (wanting s (after_table Rules)))

-- the reader after a good row
abbrev pub after_atom : Reader → AtomRow → Result Step LineFault
after_atom s row = Ok (moved (with_atoms s (atom_added s.atoms row)))

abbrev pub after_action : Reader → ActionRow → Result Step LineFault
after_action s row = Ok (with_actions s (raised_to s.actions row.action), Some row)

abbrev pub after_feature : Reader → FeatureRow → Result Step LineFault
after_feature s row = Ok (moved (with_features s (feature_added s.features row)))

abbrev pub after_rule : Reader → RuleRow → Result Step LineFault
after_rule s row = Ok (moved (with_rules s (rule_added s.rules row)))

-- a line of values in its table
abbrev pub valued : Reader → Table → ℕ → List ℕ → Result Step LineFault
valued s Atoms n bs = and_then (atom_row s.atoms.count n bs) (after_atom s)
valued s Actions n bs = and_then (action_row s.atoms.count s.limit n bs) (after_action s)
valued s Features n bs = and_then (feature_row s.atoms.count s.features n bs) (after_feature s)
valued s Rules n bs = and_then (rule_row (feature_count s.features) s.rules n bs) (after_rule s)

-- a line inside a table: the empty one ends it
abbrev pub inside : Reader → Table → ℕ → List ℕ → Result Step LineFault
inside s table n [] = closed s table n
inside s table n (b ∷ bs) = valued s table n (b ∷ bs)

-- the line n of a text, by what is wanted
abbrev pub step_by : Wanted → Reader → ℕ → List ℕ → Result Step LineFault
step_by (TheNames table) s n bs = opened s table n bs
step_by (Values table) s n bs = inside s table n bs
step_by Nothing s n bs = Err (AfterEnd n)

unfoldable pub step : Reader → ℕ → List ℕ → Result Step LineFault
step s n bs = step_by s.wanted s n bs

-- what the reader's reply and its state afterwards say: the row, or the fault
abbrev pub Moves : Result Step LineFault → Reader → Result (Option ActionRow) LineFault → Type 0
Moves m last (Ok row) = m ≡ Ok (last, row)
Moves m last (Err e) = m ≡ Err e
