use Rattle.std.proofs.Common.{◌≡◌, ◌^◌, ◌<◌, length, sum_by, ap, ◌∙◌, arith, rules}
use lib.Count.{ones}
use Rattle.std.specs.Prelude.{count_ones}
use Rattle.domain.specs.Words.{Short, total}
use Rattle.domain.proofs.Tally.{ones_total}
use Rattle.domain.proofs.words.count.Goals as goal

pub sum-requires-clause-fits : goal.sum-requires-clause-fits
sum-requires-clause-fits c =
    let words = c.iter.result.rest.now in
    let long : length words ≡ 4 = search rules in
    let short : Short words = search rules in
    let all = ones_total words long short in
    let small : sum_by count_ones words < 2 ^ 64 = omega arith in
    search rules

pub returns-clause-value : goal.returns-clause-value
returns-clause-value c =
    let words = c.iter.result.rest.now in
    let long : length words ≡ 4 = search rules in
    let short : Short words = search rules in
    let summed : c.sum.result ≡ sum_by count_ones words = search rules in
    let told : total words ≡ total c.args.row.now = ap total c.iter.ensures.rest in
    summed ∙ (ones_total words long short).0 ∙ told

pub returns-clause-small : goal.returns-clause-small
returns-clause-small c =
    let words = c.iter.result.rest.now in
    let long : length words ≡ 4 = search rules in
    let short : Short words = search rules in
    let all = ones_total words long short in
    let summed : c.sum.result ≡ sum_by count_ones words = search rules in
    omega arith
