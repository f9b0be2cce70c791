use Rattle.std.proofs.Common.{◌≡◌, ◌+◌, ◌*◌, ◌/◌, ◌%◌, ◌^◌, ◌<◌, ap, arith, rules}
use lib.Count.{count_trailing_zeros}
use Rattle.domain.specs.Atoms.{word}
use Rattle.domain.proofs.Next.{rest_at, none_in_word, trailing_left, next_first, first_at, next_from_later}
use Rattle.domain.proofs.atoms.AtomSet.next_from.Goals as goal

pub returns-then-rest-eq0 : goal.returns-then-rest-eq0
returns-then-rest-eq0 c =
    let s = c.args.self.now in
    let from = c.args.from in
    let inside : from / 64 < 4 = search rules in
    let same : c.in_ok-rest.field-0.now ≡ word s (from / 64) = search rules in
    let blank : rest_at s from ≡ 0 = search rules in
    next_from_later s from (64 * (from / 64 + 1)) c.first.result (omega arith)
    (λ b l m. none_in_word s from (omega arith) blank b l (omega arith)) c.first.ensures

pub overflow_add-result : goal.overflow_add-result
overflow_add-result c =
    let s = c.args.self.now in
    let from = c.args.from in
    let inside : from / 64 < 4 = search rules in
    let short : word s (from / 64) < 2 ^ 64 = search rules in
    let same : c.in_ok-rest.field-0.now ≡ word s (from / 64) = search rules in
    let bits = trailing_left c.in_ok-rest.field-0.now _ (omega arith) c.if-rest-eq0.false in
    omega arith

pub returns : goal.returns
returns c =
    let s = c.args.self.now in
    let from = c.args.from in
    let inside : from / 64 < 4 = search rules in
    let short : word s (from / 64) < 2 ^ 64 = search rules in
    let same : c.in_ok-rest.field-0.now ≡ word s (from / 64) = search rules in
    let told = ap (λ w. count_trailing_zeros 64 (w / 2 ^ (from % 64))) same in
    let some : 0 < rest_at s from = omega (arith, ap (λ w. w / 2 ^ (from % 64)) same) in
    first_at s from _ _ (omega arith) (next_first s from (omega arith) short some)
