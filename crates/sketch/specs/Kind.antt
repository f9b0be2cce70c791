-- The kinds of features: their characters, and which is Boolean. Assumes nothing.
use Rattle.std.specs.Prelude.{ℕ, Bool, true, false, cond, Some, None, Option, ◌==◌}
use Rattle.sketch.specs.declared.feature.Kind.{Kind}
use Rattle.sketch.specs.declared.feature.Kind.TheVariants.{Boolean, TrueCount, FalseCount}

-- b, t and f
abbrev pub kind_char : Kind → ℕ
kind_char Boolean = 98
kind_char TrueCount = 116
kind_char FalseCount = 102

-- the kind whose character is c
abbrev pub kind_named : ℕ → Option Kind
kind_named c =
    cond (c == kind_char Boolean) (Some Boolean)
    (cond (c == kind_char TrueCount) (Some TrueCount)
    (cond (c == kind_char FalseCount) (Some FalseCount) None))

abbrev pub boolean : Kind → Bool
boolean Boolean = true
boolean TrueCount = false
boolean FalseCount = false
