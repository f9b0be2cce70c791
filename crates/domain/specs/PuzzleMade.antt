-- What the maker of sliding puzzles checks and answers. Assumes nothing.
use Rattle.std.specs.Prelude.{◌≡◌, ℕ, cond, ltb, List, length, Some, None, Ok, Err, Option, Result, nat_lt}
use Rattle.std.specs.List.{prefix_len}
use Rattle.domain.specs.Atoms.{members}
use Rattle.domain.specs.Puzzle.{puzzle}
use Rattle.domain.specs.declared.puzzle.Board.{Board}
use Rattle.domain.specs.declared.puzzle.Puzzle.{Puzzle}
use Rattle.domain.specs.declared.refusal.Refusal.{Refusal}
use Rattle.domain.specs.declared.refusal.Refusal.TheVariants.{Range, Limit}

-- the first listed atom past 80; where there is none, how many are listed
abbrev pub first_past : List ℕ → ℕ
first_past goal = prefix_len (λ a. ltb a 81) goal

-- the first thing wrong with a list of goal atoms: more than nine, and then an atom past 80
abbrev pub goal_fault : List ℕ → Option Refusal
goal_fault goal =
    cond (nat_lt 9 (length goal)) (Some (Limit 9)) (cond (nat_lt (first_past goal) (length goal)) (Some (Range (first_past goal))) None)

-- a puzzle that means what the arguments say, where nothing is wrong with them; else the first thing wrong
abbrev pub PuzzleMade : Board → List ℕ → Result Puzzle Refusal → Type 0
PuzzleMade start goal (Ok m) = (goal_fault goal ≡ None) × (puzzle m.start (members m.goal) ≡ puzzle start goal)
PuzzleMade start goal (Err e) = goal_fault goal ≡ Some e
