use Rattle.std.proofs.Common.{rules}
use Rattle.sketch.proofs.Values.{value_boolean, value_true, value_false, value_below}
use Rattle.sketch.proofs.feature.Feature.value.Goals as goal

pub returns-in-Boolean-clause-counts : goal.returns-in-Boolean-clause-counts
returns-in-Boolean-clause-counts c = search (rules, value_boolean)

pub returns-in-TrueCount-clause-counts : goal.returns-in-TrueCount-clause-counts
returns-in-TrueCount-clause-counts c = search (rules, value_true)

pub returns-in-TrueCount-clause-below : goal.returns-in-TrueCount-clause-below
returns-in-TrueCount-clause-below c = value_below _ _ _ (returns-in-TrueCount-clause-counts c)

pub returns-in-FalseCount-clause-counts : goal.returns-in-FalseCount-clause-counts
returns-in-FalseCount-clause-counts c = search (rules, value_false)

pub returns-in-FalseCount-clause-below : goal.returns-in-FalseCount-clause-below
returns-in-FalseCount-clause-below c = value_below _ _ _ (returns-in-FalseCount-clause-counts c)
