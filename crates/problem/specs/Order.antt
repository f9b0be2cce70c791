-- The order of the lines inside the tables of actions, features and rules does not matter. Assumes nothing.
use Rattle.std.specs.Prelude.{◌≡◌, ℕ, ◌<◌, List, [], ◌∷◌, ◌++◌, length, Ok}
use Rattle.problem.specs.Lines.{lines}
use Rattle.problem.specs.Problem.{Parsed, text_problem}
use Rattle.problem.specs.Reader.{after_table}
use Rattle.problem.specs.declared.fault.Table.{Table}
use Rattle.problem.specs.declared.fault.Table.TheVariants.{Atoms, Actions, Features, Rules}
use Rattle.problem.specs.declared.reader.Wanted.{Wanted}
use Rattle.problem.specs.declared.reader.Wanted.TheVariants.{TheNames, Values, Nothing}

-- a table whose lines may stand in any order; the atoms come in the order of their numbers
abbrev pub Free : Table → Type 0
Free Atoms = ⊥
Free Actions = Unit {0}
Free Features = Unit {0}
Free Rules = Unit {0}

-- what is wanted behind a line, and behind some lines
abbrev pub behind : Wanted → List ℕ → Wanted
behind (TheNames table) l = Values table
behind (Values table) [] = after_table table
behind (Values table) (b ∷ l) = Values table
behind Nothing l = Nothing

abbrev pub behind_all : Wanted → List (List ℕ) → Wanted
behind_all w [] = w
behind_all w (l ∷ ls) = behind_all (behind w l) ls

-- lines that become others when neighbours among the lines of values of such a table change places, again and again
pub data Reordered : List (List ℕ) → List (List ℕ) → Type 0 where
  same : {ls : List (List ℕ)} → Reordered ls ls
  exchanged : {last : List (List ℕ)} (front : List (List ℕ)) (l m : List ℕ) (rest : List (List ℕ)) (table : Table)
      → Free table → behind_all (TheNames Atoms) front ≡ Values table → 0 < length l → 0 < length m
      → Reordered (front ++ m ∷ l ∷ rest) last → Reordered (front ++ l ∷ m ∷ rest) last

-- a good text with its lines so reordered means the same problem
abbrev pub OrderFree : Type 0
OrderFree =
    (places : ℕ) (bs cs : List ℕ) (p : Parsed) → Reordered (lines bs) (lines cs) → text_problem places bs ≡ Ok p → text_problem places cs ≡ Ok p
