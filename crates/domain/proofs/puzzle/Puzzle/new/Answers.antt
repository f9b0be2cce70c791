use Rattle.std.proofs.Common.{None, arith}
use Rattle.domain.proofs.Gathered.{same_puzzle, goal_told}
use Rattle.domain.proofs.puzzle.Puzzle.new.Goals as goal

pub returns-in-Some : goal.returns-in-Some
returns-in-Some c = goal_told c.args.goal.now _ (omega arith) c.in-Some.ensures

pub returns : goal.returns
returns c =
    let goal = c.args.goal.now in
    (goal_told goal None (omega arith) c.in_default.ensures, same_puzzle c.args.start c.of.result goal c.of.ensures)
