-- Conditions and effects: their characters, and which is which. Assumes nothing.
use Rattle.std.specs.Prelude.{ℕ, Bool, true, false, cond, Some, None, Option, ◌==◌}
use Rattle.sketch.specs.declared.rule.Condition.{Condition}
use Rattle.sketch.specs.declared.rule.Condition.TheVariants.{Any, Positive, Zero}
use Rattle.sketch.specs.declared.rule.Effect.{Effect}
use Rattle.sketch.specs.declared.rule.Effect.TheVariants.{Same, Free, Up, Down}

-- the characters . + 0
abbrev pub condition_char : Condition → ℕ
condition_char Any = 46
condition_char Positive = 43
condition_char Zero = 48

-- the condition whose character is c
abbrev pub condition_named : ℕ → Option Condition
condition_named c =
    cond (c == condition_char Any) (Some Any)
    (cond (c == condition_char Positive) (Some Positive)
    (cond (c == condition_char Zero) (Some Zero) None))

-- the characters = ? + -
abbrev pub effect_char : Effect → ℕ
effect_char Same = 61
effect_char Free = 63
effect_char Up = 43
effect_char Down = 45

-- the effect whose character is c
abbrev pub effect_named : ℕ → Option Effect
effect_named c =
    cond (c == effect_char Same) (Some Same)
    (cond (c == effect_char Free) (Some Free)
    (cond (c == effect_char Up) (Some Up)
    (cond (c == effect_char Down) (Some Down) None)))

abbrev pub any : Condition → Bool
any Any = true
any Positive = false
any Zero = false

abbrev pub positive : Condition → Bool
positive Any = false
positive Positive = true
positive Zero = false

abbrev pub at_zero : Condition → Bool
at_zero Any = false
at_zero Positive = false
at_zero Zero = true

abbrev pub same : Effect → Bool
same Same = true
same Free = false
same Up = false
same Down = false

abbrev pub free : Effect → Bool
free Same = false
free Free = true
free Up = false
free Down = false

abbrev pub up : Effect → Bool
up Same = false
up Free = false
up Up = true
up Down = false

abbrev pub down : Effect → Bool
down Same = false
down Free = false
down Up = false
down Down = true
