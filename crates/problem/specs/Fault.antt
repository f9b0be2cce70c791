-- The refusal, with its line or place, that each fault of a problem text is told as. Assumes nothing.
use Rattle.domain.specs.declared.refusal.Refusal.{Refusal}
use Rattle.domain.specs.declared.refusal.Refusal.TheVariants.{Form, Range, Limit}
use Rattle.problem.specs.declared.fault.LineFault.{LineFault}
use Rattle.problem.specs.declared.fault.LineFault.TheVariants.{Number, Names, Columns, Length, AtomOrder, NoAtoms, SecondKind, NamedTwice, AfterEnd, Missing, Letter, Truth, NoSuchAtom, NoSuchFeature, Full}
use Rattle.problem.specs.declared.fault.ProblemFault.{ProblemFault}
use Rattle.problem.specs.declared.fault.ProblemFault.TheVariants.{TooLong, Line, Sketch}

-- the refusal of a fault of a line: its form, its range or its limit, with the line's number
abbrev pub line_refusal : LineFault → Refusal
line_refusal (Number fault) = Form fault.line
line_refusal (Names n) = Form n
line_refusal (Columns n) = Form n
line_refusal (Length n column) = Form n
line_refusal (AtomOrder n) = Form n
line_refusal (NoAtoms n) = Form n
line_refusal (SecondKind n) = Form n
line_refusal (NamedTwice n) = Form n
line_refusal (AfterEnd n) = Form n
line_refusal (Missing n) = Form n
line_refusal (Letter n column) = Range n
line_refusal (Truth n column) = Range n
line_refusal (NoSuchAtom n) = Range n
line_refusal (NoSuchFeature n) = Range n
line_refusal (Full n table) = Limit n

-- the refusal of a fault of the problem
abbrev pub refusal_of : ProblemFault → Refusal
refusal_of TooLong = Limit 0
refusal_of (Line fault) = line_refusal fault
refusal_of (Sketch refusal) = refusal
