-- What was read of a text so far: its tables, and what its next line should be. Assumes nothing.
use Rattle.std.specs.Prelude.{ℕ, ◌≤◌}
use Rattle.problem.specs.Tables.{feature_count, rule_count}
use Rattle.problem.specs.declared.reader.Wanted.{Wanted}
use Rattle.problem.specs.declared.tables.AtomTable.{AtomTable}
use Rattle.problem.specs.declared.tables.FeatureTable.{FeatureTable}
use Rattle.problem.specs.declared.tables.RuleTable.{RuleTable}

-- of the actions only their number is kept, of which there may be as many as the limit; clauses see a reader as such a state
pub record State : Type 0 where
  pub limit : ℕ
  pub wanted : Wanted
  pub atoms : AtomTable
  pub actions : ℕ
  pub features : FeatureTable
  pub rules : RuleTable

-- every count keeps to its limit
pub record Sound (s : State) : Type 0 where
  pub few_atoms : s.atoms.count ≤ 256
  pub few_actions : s.actions ≤ s.limit
  pub few_features : feature_count s.features ≤ 8
  pub few_rules : rule_count s.rules ≤ 16
  pub small_limit : s.limit ≤ 1024
