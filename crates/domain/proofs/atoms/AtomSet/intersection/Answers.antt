use Rattle.std.proofs.Common.{◌≡◌, ℕ, ◌<◌, List, get_or, ap, ◌∙◌, rules, lit<}
use lib.Bits.{bit_and}
use Rattle.domain.specs.Atoms.{word, common}
use Rattle.domain.proofs.Sets.{by_words, wordwise_is, has_row, has_common}
use Rattle.domain.proofs.atoms.AtomSet.intersection.Goals as goal

pub returns : goal.returns
returns c =
    let s = c.args.self.now in
    let t = c.args.other.now in
    let told = c.zipped.ensures in
    let row = c.zipped.result in
    let each : (i : ℕ) → i < 4 → get_or row i 0 ≡ bit_and (word s i) (word t i) =
    by_words (λ i. get_or row i 0 ≡ bit_and (word s i) (word t i)) (let p = told.each 0 (lit< tt) in search rules)
    (let p = told.each 1 (lit< tt) in search rules) (let p = told.each 2 (lit< tt) in search rules) (let p = told.each 3 (lit< tt) in search rules) in
    let same = wordwise_is bit_and s t row told.long each in
    record {
      value = ap (λ (row : List ℕ). record { words = row }) same;
      membership = λ a. has_row row (common s t) same a ∙ has_common s t a;
    }
