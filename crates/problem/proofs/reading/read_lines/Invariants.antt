use Rattle.std.proofs.Common.{◌≡◌, length}
use Rattle.problem.specs.Lines.{lines}
use Rattle.problem.specs.Reader.{start_of}
use Rattle.problem.specs.Text.{read_lines}
use Rattle.problem.proofs.reading.read_lines.Given as goal

abbrev pub invariant-loop-line : goal.invariant-loop-line
invariant-loop-line l = read_lines l.lines.number (l.reader, l.places) l.lines.lines ≡ read_lines 1 (start_of l.limit, l.initial.places) (lines l.text)

abbrev pub decreases-loop-line : goal.decreases-loop-line
decreases-loop-line l = length l.lines.lines
