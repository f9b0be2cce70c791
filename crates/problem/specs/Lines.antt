-- The lines of a text, and the fields of a line. Assumes nothing.
use Rattle.std.specs.Prelude.{ℕ, cond, not, List, [], ◌∷◌, Ok, Err, Result, ◌==◌}
use Rattle.std.specs.List.{prefix_len}
use Rattle.problem.specs.declared.fault.LineFault.{LineFault}
use Rattle.problem.specs.declared.fault.LineFault.TheVariants.{Columns}

-- one more byte at the front of the first piece
abbrev pub fronted : ℕ → List (List ℕ) → List (List ℕ)
fronted b [] = (b ∷ []) ∷ []
fronted b (p ∷ ps) = (b ∷ p) ∷ ps

-- some bytes cut at each byte `stop`, which is left out; `none` is what becomes of no bytes
unfoldable pub cut : ℕ → List (List ℕ) → List ℕ → List (List ℕ)
cut stop none [] = none
cut stop none (b ∷ bs) = cond (b == stop) ([] ∷ cut stop none bs) (fronted b (cut stop none bs))

-- the lines of a text: byte 10 ends a line, and a last piece without it is a line if it is not empty
abbrev pub lines : List ℕ → List (List ℕ)
lines bs = cut 10 [] bs

-- the fields of a line: byte 32 stands between two fields, and a field may be empty
abbrev pub fields : List ℕ → List (List ℕ)
fields bs = cut 32 ([] ∷ []) bs

-- how many bytes stand in front of the first `stop`
abbrev pub before : ℕ → List ℕ → ℕ
before stop bs = prefix_len (λ b. not (b == stop)) bs

-- the columns of a line of three, by its number and its fields
abbrev pub three : ℕ → List (List ℕ) → Result (List ℕ × List ℕ × List ℕ) LineFault
three n [] = Err (Columns n)
three n (p ∷ []) = Err (Columns n)
three n (p ∷ q ∷ []) = Err (Columns n)
three n (p ∷ q ∷ r ∷ []) = Ok (p, q, r)
three n (p ∷ q ∷ r ∷ s ∷ ss) = Err (Columns n)

-- one column in front of three
abbrev pub preceded : List ℕ → Result (List ℕ × List ℕ × List ℕ) LineFault → Result (List ℕ × List ℕ × List ℕ × List ℕ) LineFault
preceded p (Ok t) = Ok (p, t.0, t.1, t.2)
preceded p (Err e) = Err e

-- the columns of a line of four
abbrev pub four : ℕ → List (List ℕ) → Result (List ℕ × List ℕ × List ℕ × List ℕ) LineFault
four n [] = Err (Columns n)
four n (p ∷ ps) = preceded p (three n ps)
