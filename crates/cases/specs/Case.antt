-- What a stored case is. Assumes nothing.
use Rattle.std.specs.Prelude.{◌≡◌, ℕ, ◌++◌, ◌∷◌, List, length, Contains, codes}
use Rattle.std.specs.Str.Parse.{AllDigits, digits_value}

-- bytes are a front without the byte `at`, then it, and what is behind it
pub record IsCut (at : ℕ) (bytes front behind : List ℕ) : Type 0 where
  pub is : bytes ≡ front ++ (at ∷ behind)
  pub without : ¬ (Contains front at)

-- The input begins with `case NAME LENGTH` and a newline; then come the text, of LENGTH bytes, one byte more, and the rest. The
-- name has no space. The number is written by digits alone, and is 0 where there is none. The byte behind the text is a newline
-- in what the generator writes; a reader passes over it, whatever it is.
pub record IsCase (input name text rest : List ℕ) : Type 0 where
  pub words : List ℕ
  pub digits : List ℕ
  pub after : List ℕ
  pub last : ℕ
  pub line : IsCut 10 input (codes "case " ++ words) after
  pub named : IsCut 32 words name digits
  pub numeral : AllDigits 10 digits
  pub size : digits_value 10 digits ≡ length text
  pub ends : after ≡ text ++ (last ∷ rest)

-- no case begins the input
abbrev pub NoCase : List ℕ → Type 0
NoCase input = (name text rest : List ℕ) → ¬ (IsCase input name text rest)
