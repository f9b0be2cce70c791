-- How the gap moves in the square: which way each action goes, and what the cells hold afterwards. Assumes nothing.
use Rattle.std.specs.Prelude.{ℕ, ◌+◌, ◌-◌, Bool, cond, List, is_some, Some, None, Option, ◌==◌, nat_lt, slice_set}
use Rattle.domain.specs.Square.{piece_at, gap, row, column}
use Rattle.domain.specs.declared.puzzle.Direction.{Direction}
use Rattle.domain.specs.declared.puzzle.Direction.TheVariants.{Up, Down, Left, Right}

-- actions 0 to 3 move the gap up, down, left and right; there are no others
abbrev pub direction_of : ℕ → Option Direction
direction_of a =
    cond (a == 0) (Some Up) (cond (a == 1) (Some Down) (cond (a == 2) (Some Left) (cond (a == 3) (Some Right) None)))

-- the action that goes a way
abbrev pub action_of : Direction → ℕ
action_of Up = 0
action_of Down = 1
action_of Left = 2
action_of Right = 3

-- up and down, left and right take each other's place
abbrev pub turned : Direction → Direction
turned Up = Down
turned Down = Up
turned Left = Right
turned Right = Left

-- the same of the actions' numbers; other numbers stay
abbrev pub opposite_of : ℕ → ℕ
opposite_of a = cond (a == 0) 1 (cond (a == 1) 0 (cond (a == 2) 3 (cond (a == 3) 2 a)))

-- the neighbour of a cell in a direction, if it is in the square
abbrev pub neighbour : ℕ → Direction → Option ℕ
neighbour c Up = cond (nat_lt 0 (row c)) (Some (c - 3)) None
neighbour c Down = cond (nat_lt (row c) 2) (Some (c + 3)) None
neighbour c Left = cond (nat_lt 0 (column c)) (Some (c - 1)) None
neighbour c Right = cond (nat_lt (column c) 2) (Some (c + 1)) None

-- where the gap goes from a cell by an action, if it moves
abbrev pub destination : ℕ → ℕ → Option ℕ
destination c a = elim (direction_of a) [ Some d ↦ neighbour c d | None ↦ None ]

-- the cells with the pieces of two of them exchanged
abbrev pub traded : List ℕ → ℕ → ℕ → List ℕ
traded cells i j = slice_set (slice_set cells i (piece_at cells j)) j (piece_at cells i)

-- the cells after the gap has gone to a cell, or has stayed
abbrev pub shifted : List ℕ → Option ℕ → List ℕ
shifted cells (Some c) = traded cells (gap cells) c
shifted cells None = cells

-- an action applies unless the gap would leave the square
abbrev pub slides : List ℕ → ℕ → Bool
slides cells a = is_some (destination (gap cells) a)

-- the cells after an action; as they were where it does not apply
abbrev pub slid : List ℕ → ℕ → List ℕ
slid cells a = shifted cells (destination (gap cells) a)
