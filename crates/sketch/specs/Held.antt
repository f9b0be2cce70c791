-- A list held at the beginning of an array. Assumes nothing.
use Rattle.std.specs.Prelude.{ℕ, List, take}
use Rattle.sketch.specs.declared.held.Held.{Held}

-- the items
abbrev pub list_of : {T : Type 0} {n : ℕ} → Held T n → List T
list_of h = take h.count h.items
