-- What an open search may still add to a run's effort. Assumes nothing.
use Rattle.std.specs.Prelude.{ℕ, Some, None, Option}

-- no search expands more states than a measure may have keys
abbrev pub charge : {X : Type 0} → Option X → ℕ
charge None = 0
charge (Some s) = 65536
