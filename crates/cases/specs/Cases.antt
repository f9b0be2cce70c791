-- What the cases of a corpus are, one after the other. Assumes nothing.
use Rattle.std.specs.Prelude.{◌≡◌, ℕ, List, [], Some, None, Option, Ok, Err, Result, ◌≢◌}
use Rattle.cases.specs.Case.{IsCase, NoCase}
use Rattle.cases.specs.declared.Case.{Case}
use Rattle.cases.specs.declared.Cases.{Cases}
use Rattle.cases.specs.declared.Damaged.{Damaged}

-- the bytes that are left, before and after an item: with none left there is no item, and where no case begins them they are
-- a damaged end, behind which none are left
abbrev pub Gives : List ℕ → Option (Result Case Damaged) → List ℕ → Type 0
Gives before None after = (before ≡ []) × (after ≡ [])
Gives before (Some (Ok c)) after = IsCase before c.name.now c.text.now c.rest.now × (after ≡ c.rest.now)
Gives before (Some (Err e)) after = (before ≢ []) × NoCase before × (after ≡ [])

abbrev pub NextCase : Cases → Option (Result Case Damaged) → Cases → Type 0
NextCase before item after = Gives before.rest.now item after.rest.now
