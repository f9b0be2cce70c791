-- What the maker of STRIPS problems answers. Assumes nothing.
use Rattle.std.specs.Prelude.{◌≡◌, ℕ, List, Some, None, Ok, Err, Result}
use Rattle.domain.specs.Fault.{strips_fault}
use Rattle.domain.specs.Strips.{problem}
use Rattle.domain.specs.declared.atoms.AtomSet.{AtomSet}
use Rattle.domain.specs.declared.refusal.Refusal.{Refusal}
use Rattle.domain.specs.declared.strips.Action.{Action}
use Rattle.domain.specs.declared.strips.Strips.{Strips}

-- a problem that means what the arguments say, where nothing is wrong with them; else the first thing wrong
abbrev pub StripsMade : ℕ → AtomSet → AtomSet → List Action → Result Strips Refusal → Type 0
StripsMade n start goal acts (Ok m) =
    (strips_fault n start goal acts ≡ None) × (problem m.atoms m.start m.goal m.table.now ≡ problem n start goal acts)
StripsMade n start goal acts (Err e) = strips_fault n start goal acts ≡ Some e
