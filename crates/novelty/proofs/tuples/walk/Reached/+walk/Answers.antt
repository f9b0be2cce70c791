use Rattle.std.proofs.Common.{true, false, arith}
use Rattle.novelty.proofs.Walks.{own_found, own_not, full, done, child_found, child_not}
use Rattle.novelty.proofs.tuples.walk.Reached.+walk.Goals as goal

pub any_key-returns-then-test : goal.any_key-returns-then-test
any_key-returns-then-test g t c = own_found c.args.self c.if-test.true c.test.ensures

pub any_key-returns-then-self : goal.any_key-returns-then-self
any_key-returns-then-self g t c = own_not c.args.self c.if-test.ensures c.any_longer.ensures

pub any_key-returns-else-self : goal.any_key-returns-else-self
any_key-returns-else-self g t c = own_not c.args.self c.if-test.ensures (full c.args.self _ c.if-self.false)

pub any_longer-returns-then-any_key : goal.any_longer-returns-then-any_key
any_longer-returns-then-any_key g t c =
    c.loop-atom.invariant.1 true _
    (child_found c.args.self c.with.result _ _ _ c.requires.room c.in-Some.ensures.cases.0 c.with.ensures c.if-any_key.ensures)

pub any_longer-loop-atom-preserved : goal.any_longer-loop-atom-preserved
any_longer-loop-atom-preserved g t c = (
  (rw c.in-Some.ensures.cases.0 at c.loop-atom.invariant.0).1,
  λ b q h. c.loop-atom.invariant.1 b q
      (child_not c.args.self c.with.result _ _ _ c.requires.room c.in-Some.ensures.cases.0 c.with.ensures c.if-any_key.ensures h),
)

pub any_longer-returns : goal.any_longer-returns
any_longer-returns g t c = c.loop-atom.invariant.1 false _ (done c.args.self _ (grind arith))
