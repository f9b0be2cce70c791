use Rattle.std.proofs.Common.{sym, ap, ◌∙◌}
use Rattle.std.proofs.lemmas.Result.{err_from_is_err_and}
use Rattle.problem.specs.Text.{ended, read_text, read_lines}
use Rattle.problem.proofs.Onward.{line_more, line_fault, lines_end, ends_so}
use Rattle.problem.proofs.reading.read_lines.Goals as goal

pub returns-in_err-row : goal.returns-in_err-row
unfolding read_text
returns-in_err-row c =
    let p = err_from_is_err_and c.from_residual.result c.from_residual.ensures.1 in
    let steps = c.in-Some.ensures.steps in
    rw (p.1, p.2) (sym c.loop-line.invariant ∙ line_fault c.loop-line.lines.number c.loop-line.reader c.loop-line.places _ _ _ _ _ steps.0 steps.1 c.in_err-row.ensures)

pub loop-line-preserved : goal.loop-line-preserved
loop-line-preserved c =
    let steps = c.in-Some.ensures.steps in
    let ahead = c.next.new.self.lines in
    (λ i. read_lines (steps.2 i) (c.advance.new.self, c.place.ensures i) ahead)
    ∙ sym (line_more c.loop-line.lines.number c.loop-line.reader c.loop-line.places _ _ _ _ _ _ steps.0 steps.1 c.in_ok-row.ensures)
    ∙ c.loop-line.invariant

pub returns : goal.returns
unfolding read_text
returns c =
    let steps = c.in_default.ensures.steps in
    let number = c.number.ensures ∙ ap (λ a. a.number) steps.1 in
    ends_so c.loop-line.places c.finish.result
    (sym (lines_end c.loop-line.lines.number c.loop-line.reader c.loop-line.places c.loop-line.lines.lines steps.0 ∙ ap (λ n. ended c.loop-line.reader.wanted n (c.loop-line.reader, c.loop-line.places)) (sym number)) ∙ c.loop-line.invariant)
    (c.finish.ensures c.loop-line.places)
