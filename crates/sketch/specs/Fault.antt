-- Why features and rules make no sketch. Assumes nothing.
use Rattle.std.specs.Prelude.{ℕ, Bool, cond, not, ◌||◌, List, length, Some, None, Option, nat_lt}
use Rattle.domain.specs.declared.refusal.Refusal.{Refusal}
use Rattle.domain.specs.declared.refusal.Refusal.TheVariants.{Range, Limit, RulesLeft}
use Rattle.sketch.specs.Below.{every_below, lowest}
use Rattle.sketch.specs.Feature.{kinds_of}
use Rattle.sketch.specs.Rule.{entry_at, rule_at, silent}
use Rattle.sketch.specs.Sieve.{rules_left}
use Rattle.sketch.specs.declared.feature.Feature.{Feature}
use Rattle.sketch.specs.declared.rule.Rule.{Rule}

-- the rule's entries at or past the n features say nothing
unfoldable pub rule_fits : ℕ → Rule → Bool
rule_fits n r = every_below (λ f. nat_lt f n || silent (entry_at r f)) 8

-- the lowest rule that does not fit; the number of rules where all do
unfoldable pub first_unfit : ℕ → List Rule → ℕ
first_unfit n rs = lowest (λ i. not (rule_fits n (rule_at rs i))) (length rs)

-- the first fault: an entry past the features, more than 8 features, more than 16 rules, rules that the sieve leaves
abbrev pub sketch_fault : List Feature → List Rule → Option Refusal
sketch_fault fs rs =
    cond (nat_lt (first_unfit (length fs) rs) (length rs)) (Some (Range (first_unfit (length fs) rs)))
    (cond (nat_lt 8 (length fs)) (Some (Limit 8))
    (cond (nat_lt 16 (length rs)) (Some (Limit 16))
    (cond (nat_lt 0 (rules_left (kinds_of fs) rs)) (Some (RulesLeft (rules_left (kinds_of fs) rs))) None)))
