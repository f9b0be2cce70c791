-- The form of a line of values: which columns hold numbers, and which one letter. Assumes nothing.
use Rattle.std.specs.Prelude.{ℕ, List, Ok, Err, Result}
use Rattle.problem.specs.Lines.{fields, three, four}
use Rattle.problem.specs.Numeral.{numeral, letter, capped}
use Rattle.problem.specs.declared.fault.LineFault.{LineFault}
use Rattle.problem.specs.declared.fault.LineFault.TheVariants.{Number}
use Rattle.problem.specs.declared.fault.NumberFault.{NumberFault}

-- the first fault decides; what is good goes on
abbrev pub and_then : {X Y E : Type 0} → Result X E → (X → Result Y E) → Result Y E
and_then (Ok x) f = f x
and_then (Err e) f = Err e

-- f of what is good
abbrev pub good_by : {X Y E : Type 0} → (X → Y) → Result X E → Result Y E
good_by f (Ok x) = Ok (f x)
good_by f (Err e) = Err e

-- a fault of a number is one of its line
abbrev pub of_line : Result ℕ NumberFault → Result ℕ LineFault
of_line (Ok v) = Ok v
of_line (Err e) = Err (Number e)

-- the number in a column of the line n
abbrev pub number_at : ℕ → ℕ → List ℕ → Result ℕ LineFault
number_at n column bs = of_line (numeral n column bs)

-- the values of a line, column by column; of each column its line's number, its own and its bytes tell what it holds
abbrev pub three_values : {X Y Z : Type 0} → (ℕ → ℕ → List ℕ → Result X LineFault) → (ℕ → ℕ → List ℕ → Result Y LineFault) → (ℕ → ℕ → List ℕ → Result Z LineFault)
    → ℕ → List ℕ → Result (X × Y × Z) LineFault
three_values f g h n bs =
    and_then (three n (fields bs)) λ columns.
    and_then (f n 1 columns.0) λ u.
    and_then (g n 2 columns.1) λ v.
    and_then (h n 3 columns.2) λ w.
    Ok (u, v, w)

abbrev pub four_values : {X Y Z W : Type 0} → (ℕ → ℕ → List ℕ → Result X LineFault) → (ℕ → ℕ → List ℕ → Result Y LineFault) → (ℕ → ℕ → List ℕ → Result Z LineFault)
    → (ℕ → ℕ → List ℕ → Result W LineFault) → ℕ → List ℕ → Result (X × Y × Z × W) LineFault
four_values f g h k n bs =
    and_then (four n (fields bs)) λ columns.
    and_then (f n 1 columns.0) λ u.
    and_then (g n 2 columns.1) λ v.
    and_then (h n 3 columns.2) λ w.
    and_then (k n 4 columns.3) λ x.
    Ok (u, v, w, x)

-- a line of three numbers, as in the atom table
unfoldable pub numbers : ℕ → List ℕ → Result (ℕ × ℕ × ℕ) LineFault
numbers n bs = three_values number_at number_at number_at n bs

-- a number, a letter and a number, as in the tables of actions and of features
unfoldable pub lettered : ℕ → List ℕ → Result (ℕ × ℕ × ℕ) LineFault
lettered n bs = three_values number_at letter number_at n bs

-- two numbers and two letters, as in the table of rules
unfoldable pub twice_lettered : ℕ → List ℕ → Result (ℕ × ℕ × ℕ × ℕ) LineFault
twice_lettered n bs = four_values number_at number_at letter letter n bs

-- numbers as a machine holds them
abbrev pub capped_at : ℕ → ℕ → List ℕ → Result ℕ LineFault
capped_at n column bs = good_by capped (number_at n column bs)

abbrev pub capped_numbers : ℕ × ℕ × ℕ → ℕ × ℕ × ℕ
capped_numbers t = (capped t.0, capped t.1, capped t.2)

abbrev pub capped_lettered : ℕ × ℕ × ℕ → ℕ × ℕ × ℕ
capped_lettered t = (capped t.0, t.1, capped t.2)

abbrev pub capped_twice : ℕ × ℕ × ℕ × ℕ → ℕ × ℕ × ℕ × ℕ
capped_twice t = (capped t.0, capped t.1, t.2, t.3)
