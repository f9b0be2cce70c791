-- Numerals and letters: what a column of a line holds. Assumes nothing.
use Rattle.std.specs.Prelude.{ℕ, ◌+◌, ◌-◌, ◌*◌, ◌^◌, min, Bool, cond, ◌&&◌, List, [], ◌∷◌, Some, None, Ok, Err, fold, Option, Result, ◌==◌, nat_le}
use Rattle.domain.specs.Atoms.{every}
use Rattle.problem.specs.declared.fault.LineFault.{LineFault}
use Rattle.problem.specs.declared.fault.LineFault.TheVariants.{Length}
use Rattle.problem.specs.declared.fault.NumberFault.{NumberFault}
use Rattle.problem.specs.declared.fault.NumberFlaw.{NumberFlaw}
use Rattle.problem.specs.declared.fault.NumberFlaw.TheVariants.{Empty, NotDigit, LeadingZero}

-- the bytes of the digits 0 to 9
abbrev pub digit : ℕ → Bool
digit b = nat_le 48 b && nat_le b 57

-- digits, but a zero in front of others, or no byte at all
abbrev pub zero_first : List ℕ → Option NumberFlaw
zero_first [] = Some Empty
zero_first (b ∷ []) = None
zero_first (b ∷ c ∷ bs) = cond (b == 48) (Some LeadingZero) None

-- why some bytes are no numeral
abbrev pub flaw_of : List ℕ → Option NumberFlaw
flaw_of bs = cond (every digit bs) (zero_first bs) (Some NotDigit)

-- the number that digits write
abbrev pub digits_value : List ℕ → ℕ
digits_value bs = fold (λ v b. v * 10 + (b - 48)) 0 bs

-- the number, or the flaw with its place
abbrev pub judged : ℕ → ℕ → ℕ → Option NumberFlaw → Result ℕ NumberFault
judged line column value None = Ok value
judged line column value (Some flaw) = Err (record { line = line; column = column; flaw = flaw })

-- what a column of numbers means, however long the numeral is
unfoldable pub numeral : ℕ → ℕ → List ℕ → Result ℕ NumberFault
numeral line column bs = judged line column (digits_value bs) (flaw_of bs)

-- the same as far as a machine number goes: what is past it counts as the largest
abbrev pub capped : ℕ → ℕ
capped v = min v (2 ^ 64 - 1)

-- what a column of one letter means: its only byte
abbrev pub letter : ℕ → ℕ → List ℕ → Result ℕ LineFault
letter line column [] = Err (Length line column)
letter line column (b ∷ []) = Ok b
letter line column (b ∷ c ∷ bs) = Err (Length line column)
