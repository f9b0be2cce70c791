-- A list copied into an array of n places. Assumes nothing.
use Rattle.std.specs.Prelude.{ℕ, ◌-◌, List, ◌++◌, length, take, replicate}

-- the first n items, with the blank behind them where there are fewer
abbrev pub held : {X : Type 0} → ℕ → X → List X → List X
held n blank xs = take n xs ++ replicate (n - length xs) blank
