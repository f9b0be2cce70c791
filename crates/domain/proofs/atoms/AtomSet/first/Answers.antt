use Rattle.std.proofs.Common.{◌^◌, ◌<◌, ◌*◌, sym, subst, rules, MatchOption}
use Rattle.domain.specs.Atoms.{word, NoneFrom, FirstFrom}
use Rattle.domain.proofs.Members.{has_below}
use Rattle.domain.proofs.Next.{none_from_blank, first_found}
use Rattle.domain.proofs.atoms.AtomSet.first.Goals as goal

pub returns-in_err-place : goal.returns-in_err-place
returns-in_err-place c =
    let s = c.args.self.now in
    let start = c.args.start in
    subst (λ o. MatchOption o (NoneFrom s (64 * start)) (FirstFrom s (64 * start))) (sym c.from_residual.ensures)
    (none_from_blank s start c.in_err-place.ensures)

pub overflow_add-result : goal.overflow_add-result
overflow_add-result c =
    let s = c.args.self.now in
    let i = c.in_ok-place.place in
    let short : word s i < 2 ^ 64 = search rules in
    let first = first_found s c.args.start i c.in_ok-place.ensures short in
    let small = has_below s _ first.1 in
    search rules

pub returns : goal.returns
returns c =
    let s = c.args.self.now in
    let i = c.in_ok-place.place in
    let short : word s i < 2 ^ 64 = search rules in
    first_found s c.args.start i c.in_ok-place.ensures short
