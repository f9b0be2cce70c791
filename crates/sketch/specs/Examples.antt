-- Small sketches that show what the sieve does. Assumes nothing.
use Rattle.std.specs.Prelude.{◌≡◌, true, false, List, [], ◌∷◌}
use Rattle.sketch.specs.Rule.{blank}
use Rattle.sketch.specs.Sieve.{sieve, rules_left}
use Rattle.sketch.specs.declared.feature.Kind.{Kind}
use Rattle.sketch.specs.declared.feature.Kind.TheVariants.{Boolean, TrueCount}
use Rattle.sketch.specs.declared.rule.Condition.{Condition}
use Rattle.sketch.specs.declared.rule.Condition.TheVariants.{Any, Positive, Zero}
use Rattle.sketch.specs.declared.rule.Effect.{Effect}
use Rattle.sketch.specs.declared.rule.Effect.TheVariants.{Same, Free, Up, Down}
use Rattle.sketch.specs.declared.rule.Entry.{Entry}
use Rattle.sketch.specs.declared.rule.Rule.{Rule}

abbrev pub entry : Condition → Effect → Entry
entry c e = record { when = c; then = e }

abbrev pub rule : List Entry → Rule
rule es = record { entries = es }

-- a Boolean and a number that undo one another
abbrev pub switch : List Rule
switch = rule (entry Positive Down ∷ entry Any Up ∷ []) ∷ rule (entry Any Free ∷ entry Positive Down ∷ []) ∷ []

-- rules over H, a Boolean, and the numbers p, t and u: H holds what is carried, u counts what is still to be brought
abbrev pub take_up : Rule
take_up = rule (entry Zero Up ∷ entry Any Free ∷ entry Any Free ∷ blank ∷ [])

abbrev pub bring : Rule
bring = rule (entry Any Free ∷ entry Any Free ∷ entry Any Free ∷ entry Positive Down ∷ [])

abbrev pub put_down : Rule
put_down = rule (entry Positive Down ∷ entry Any Free ∷ entry Any Free ∷ blank ∷ [])

abbrev pub come_near : Rule
come_near = rule (entry Zero Same ∷ entry Positive Down ∷ entry Any Free ∷ blank ∷ [])

abbrev pub carry_on : Rule
carry_on = rule (entry Positive Same ∷ entry Any Free ∷ entry Positive Down ∷ blank ∷ [])

abbrev pub carried : List Kind
carried = Boolean ∷ TrueCount ∷ TrueCount ∷ TrueCount ∷ []

pub record Examples : Type 0 where
  -- each rule frees what the other needs
  pub undone : rules_left (Boolean ∷ TrueCount ∷ []) switch ≡ 2
  pub fine : rules_left carried (take_up ∷ bring ∷ []) ≡ 0
  pub back_and_forth : rules_left carried (put_down ∷ take_up ∷ []) ≡ 2
  -- the last two rules free the number that the other lowers
  pub last_two : sieve carried (take_up ∷ bring ∷ come_near ∷ carry_on ∷ []) ≡ false ∷ false ∷ true ∷ true ∷ []
