-- The sieve: which rules can be struck, and how many are left. Assumes nothing.
-- The rules that are left are a list of flags, one for each rule.
use Rattle.std.specs.Prelude.{ℕ, zero, suc, Bool, true, false, not, ◌&&◌, ◌||◌, List, length, replicate, count_by, slice_index_or, slice_set}
use Rattle.sketch.specs.Below.{some_below, lowest}
use Rattle.sketch.specs.Entry.{positive, at_zero, free, up, down}
use Rattle.sketch.specs.Kind.{boolean}
use Rattle.sketch.specs.Rule.{kind_at, entry_at, rule_at}
use Rattle.sketch.specs.declared.feature.Kind.{Kind}
use Rattle.sketch.specs.declared.rule.Entry.{Entry}
use Rattle.sketch.specs.declared.rule.Rule.{Rule}

-- a number falls; a Boolean falls from 1 to 0
abbrev pub surely_lowers : Kind → Entry → Bool
surely_lowers k e = down e.then && (not (boolean k) || positive e.when)

-- a Boolean rises from 0 to 1
abbrev pub surely_raises : Kind → Entry → Bool
surely_raises k e = boolean k && (at_zero e.when && up e.then)

-- up or free, except where a Boolean is 1 already
abbrev pub may_raise : Kind → Entry → Bool
may_raise k e = (up e.then || free e.then) && not (boolean k && positive e.when)

-- a Boolean with down or free, except where it is 0 already
abbrev pub may_lower : Kind → Entry → Bool
may_lower k e = boolean k && ((down e.then || free e.then) && not (at_zero e.when))

-- the rule i is left
abbrev pub remains : List Bool → ℕ → Bool
remains left i = slice_index_or left i false

-- a rule that is left may raise the feature f
unfoldable pub raised : List Kind → List Rule → List Bool → ℕ → Bool
raised ks rs left f = some_below (λ i. remains left i && may_raise (kind_at ks f) (entry_at (rule_at rs i) f)) (length rs)

-- a rule that is left may lower the feature f
unfoldable pub lowered : List Kind → List Rule → List Bool → ℕ → Bool
lowered ks rs left f = some_below (λ i. remains left i && may_lower (kind_at ks f) (entry_at (rule_at rs i) f)) (length rs)

-- an entry justifies a strike: it surely lowers what none may raise, or the other way round
abbrev pub one_way : Kind → Entry → Bool → Bool → Bool
one_way k e up_too down_too = (surely_lowers k e && not up_too) || (surely_raises k e && not down_too)

-- the feature f justifies that the rule r is struck
unfoldable pub justifies : List Kind → List Rule → List Bool → Rule → ℕ → Bool
justifies ks rs left r f = one_way (kind_at ks f) (entry_at r f) (raised ks rs left f) (lowered ks rs left f)

-- the rule i is left, and some feature justifies that it is struck
unfoldable pub strikable : List Kind → List Rule → List Bool → ℕ → Bool
strikable ks rs left i = remains left i && some_below (justifies ks rs left (rule_at rs i)) (length ks)

-- the lowest strikable rule is struck; with none the flags stay, since its number is then past their end
unfoldable pub strike : List Kind → List Rule → List Bool → List Bool
strike ks rs left = slice_set left (lowest (strikable ks rs left) (length rs)) false

-- so often
unfoldable pub strikes : List Kind → List Rule → ℕ → List Bool → List Bool
strikes ks rs zero left = left
strikes ks rs (suc n) left = strikes ks rs n (strike ks rs left)

-- every rule is left
abbrev pub whole : List Rule → List Bool
whole rs = replicate (length rs) true

-- what is left of the rules in the end: each strike takes one, so as many strikes as there are rules are enough
unfoldable pub sieve : List Kind → List Rule → List Bool
sieve ks rs = strikes ks rs (length rs) (whole rs)

-- how many are left
abbrev pub flagged : List Bool → ℕ
flagged left = count_by (λ b. b) left

unfoldable pub rules_left : List Kind → List Rule → ℕ
rules_left ks rs = flagged (sieve ks rs)
