-- The closed list of refusals: the number of each, and the line or place that it carries. Assumes nothing.
use Rattle.std.specs.Prelude.{ℕ}
use Rattle.domain.specs.declared.refusal.Refusal.{Refusal}
use Rattle.domain.specs.declared.refusal.Refusal.TheVariants.{Form, Range, Limit, RulesLeft, ManyKeys, AtTarget, SearchOpen, ManySearches, FewPlaces, ForeignClaim, PlanFull, BrokenWay, NoStep}

-- the refusal's number in the closed list
abbrev pub number_of : Refusal → ℕ
number_of (Form line) = 1
number_of (Range place) = 2
number_of (Limit place) = 3
number_of (RulesLeft rules) = 4
number_of ManyKeys = 5
number_of AtTarget = 6
number_of SearchOpen = 7
number_of ManySearches = 8
number_of FewPlaces = 9
number_of ForeignClaim = 10
number_of PlanFull = 11
number_of BrokenWay = 12
number_of NoStep = 13

-- the line, the place or the number of rules left; 0 where there is none
abbrev pub place_of : Refusal → ℕ
place_of (Form line) = line
place_of (Range place) = place
place_of (Limit place) = place
place_of (RulesLeft rules) = rules
place_of ManyKeys = 0
place_of AtTarget = 0
place_of SearchOpen = 0
place_of ManySearches = 0
place_of FewPlaces = 0
place_of ForeignClaim = 0
place_of PlanFull = 0
place_of BrokenWay = 0
place_of NoStep = 0
