-- The lines of a text that are still to be read. Assumes nothing.
use Rattle.std.specs.Prelude.{◌≡◌, ℕ, ◌+◌, List, [], ◌∷◌, Some, None, Option}
use Rattle.problem.specs.declared.line.Line.{Line}

-- the number of the next line, and the lines from it on
pub record Ahead : Type 0 where
  pub number : ℕ
  pub lines : List (List ℕ)

-- the next line with its number, and what is then ahead; or none, and nothing is ahead
abbrev pub Tells : Ahead → Option Line → Ahead → Type 0
Tells a None b = (a.lines ≡ []) × (b ≡ a)
Tells a (Some line) b = (a.lines ≡ line.bytes.now ∷ b.lines) × (line.number ≡ a.number) × (b.number ≡ a.number + 1)
