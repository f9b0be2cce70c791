-- What stands in a sieve while it strikes rules. Assumes nothing.
use Rattle.std.specs.Prelude.{ℕ, Bool, ◌&&◌, List, length, take}
use Rattle.sketch.specs.Below.{some_below, lowest}
use Rattle.sketch.specs.Feature.{kinds_of}
use Rattle.sketch.specs.Rule.{entry_at, rule_at}
use Rattle.sketch.specs.Sieve.{remains, justifies, strikable}
use Rattle.sketch.specs.declared.feature.Kind.{Kind}
use Rattle.sketch.specs.declared.rule.Entry.{Entry}
use Rattle.sketch.specs.declared.rule.Rule.{Rule}
use Rattle.sketch.specs.declared.sieve.Sieve.{Sieve}

-- the kinds of its features
abbrev pub kinds_in : Sieve → List Kind
kinds_in s = kinds_of s.features.now

-- of each rule whether it is left
abbrev pub left_in : Sieve → List Bool
left_in s = take (length s.rules.now) s.left

-- the entry of the feature f passes the test in some rule that is left
abbrev pub some_left : (Entry → Bool) → Sieve → ℕ → Bool
some_left p s f = some_below (λ i. remains (left_in s) i && p (entry_at (rule_at s.rules.now i) f)) (length s.rules.now)

-- by what is left in it: the feature f justifies that the rule r is struck; the rule i can be struck; the lowest that can,
-- and the number of rules where none can
abbrev pub justified_in : Sieve → Rule → ℕ → Bool
justified_in s r f = justifies (kinds_in s) s.rules.now (left_in s) r f

abbrev pub strikable_in : Sieve → ℕ → Bool
strikable_in s i = strikable (kinds_in s) s.rules.now (left_in s) i

abbrev pub lowest_in : Sieve → ℕ
lowest_in s = lowest (strikable_in s) (length s.rules.now)
