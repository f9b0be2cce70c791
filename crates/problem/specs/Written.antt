-- The text that is written from rows of values: names, values and empty lines, and nothing else. Assumes nothing.
use Rattle.std.specs.Prelude.{◌≡◌, ℕ, List, [], ◌∷◌, ◌++◌, map, Ok, decimal}
use Rattle.std.specs.List.{flat_map}
use Rattle.problem.specs.Problem.{Parsed, text_problem}
use Rattle.problem.specs.Reader.{names_of}
use Rattle.problem.specs.declared.fault.Table.TheVariants.{Atoms, Actions, Features, Rules}

-- the values of the four tables, line by line; a letter is its byte
pub record Sheet : Type 0 where
  pub atoms : List (ℕ × ℕ × ℕ)
  pub actions : List (ℕ × ℕ × ℕ)
  pub features : List (ℕ × ℕ × ℕ)
  pub rules : List (ℕ × ℕ × ℕ × ℕ)

-- a line of values, with one space between two of them; numbers are decimal
abbrev pub numbers_text : ℕ × ℕ × ℕ → List ℕ
numbers_text t = decimal t.0 ++ 32 ∷ (decimal t.1 ++ 32 ∷ decimal t.2)

abbrev pub lettered_text : ℕ × ℕ × ℕ → List ℕ
lettered_text t = decimal t.0 ++ 32 ∷ ((t.1 ∷ []) ++ 32 ∷ decimal t.2)

abbrev pub twice_text : ℕ × ℕ × ℕ × ℕ → List ℕ
twice_text t = decimal t.0 ++ 32 ∷ (decimal t.1 ++ 32 ∷ ((t.2 ∷ []) ++ 32 ∷ (t.3 ∷ [])))

-- the lines of a table behind its names: the values, and the empty line
abbrev pub body : {X : Type 0} → (X → List ℕ) → List X → List (List ℕ) → List (List ℕ)
body text rows behind = map text rows ++ [] ∷ behind

-- all lines of a text
abbrev pub sheet_lines : Sheet → List (List ℕ)
sheet_lines s =
    names_of Atoms ∷ body numbers_text s.atoms
    (names_of Actions ∷ body lettered_text s.actions
    (names_of Features ∷ body lettered_text s.features
    (names_of Rules ∷ body twice_text s.rules [])))

-- the text: byte 10 ends each line
abbrev pub written : Sheet → List ℕ
written s = flat_map (λ l. l ++ 10 ∷ []) (sheet_lines s)

-- no byte of a good text is ignored: it is the one that is written from its rows
abbrev pub WhollyAccounted : Type 0
WhollyAccounted = (places : ℕ) (bs : List ℕ) (p : Parsed) → text_problem places bs ≡ Ok p → (s : Sheet) × (bs ≡ written s)
