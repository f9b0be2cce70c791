use Rattle.std.proofs.Common.{◌≡◌, ℕ, ◌<◌, List, get_or, ap, ◌∙◌, rules, lit<}
use Rattle.domain.specs.Atoms.{word, without}
use Rattle.domain.specs.Words.{lacking}
use Rattle.domain.proofs.Sets.{by_words, wordwise_is, has_row, has_without, sized_from_short}
use Rattle.domain.proofs.atoms.AtomSet.difference.Goals as goal

pub returns : goal.returns
returns c =
    let s = c.args.self.now in
    let t = c.args.other.now in
    let told = c.zipped.ensures in
    let row = c.zipped.result in
    let each : (i : ℕ) → i < 4 → get_or row i 0 ≡ lacking (word s i) (word t i) =
    by_words (λ i. get_or row i 0 ≡ lacking (word s i) (word t i)) (let p = told.each 0 (lit< tt) in search rules)
    (let p = told.each 1 (lit< tt) in search rules) (let p = told.each 2 (lit< tt) in search rules) (let p = told.each 3 (lit< tt) in search rules) in
    let same = wordwise_is lacking s t row told.long each in
    record {
      value = ap (λ (row : List ℕ). record { words = row }) same;
      membership = λ a. has_row row (without s t) same a ∙ has_without s t (sized_from_short t told.short) a;
    }
