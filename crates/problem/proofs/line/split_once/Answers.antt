use Rattle.std.proofs.Common.{sym}
use Rattle.problem.proofs.Pieces.{found_at, found_none, cut_parts}
use Rattle.problem.proofs.line.split_once.Goals as goal

pub returns-in_err-end-clause-parts : goal.returns-in_err-end-clause-parts
returns-in_err-end-clause-parts c = rw c.from_residual.ensures (found_none c.args.stop c.args.bytes.now (sym c.in_err-end.ensures))

pub returns-clause-parts : goal.returns-clause-parts
returns-clause-parts c = cut_parts c.args.stop c.args.bytes.now c.in_ok-end.end (found_at c.args.stop c.args.bytes.now c.in_ok-end.end (sym c.in_ok-end.ensures))
