use Rattle.std.proofs.Common.{◌≡◌, ◌<◌, ◌+◌, ◌++◌, ◌∷◌, length, get_or, take, drop, Some, None, codes, sym, ◌∙◌, ap, ap₂, arith, add-one}
use Rattle.std.proofs.lemmas.Slice.Eq.{strip_prefix_is}
use Rattle.std.proofs.lemmas.Bool.Decides.{Decides-eqb}
use Rattle.std.proofs.lemmas.List.{length-take-le}
use Rattle.std.proofs.Math.Seq.{split_at}
use Rattle.cases.proofs.Determined.{none_match, line_is, no_line, no_words, no_name, no_number, no_text}
use Rattle.cases.proofs.next_case.Goals as goal

-- there is no line
pub returns-in_err-line-clause-case : goal.returns-in_err-line-clause-case
returns-in_err-line-clause-case c = none_match _ c.from_residual.ensures (no_line c.in_err-line.ensures)

-- the line does not begin with `case `
pub returns-in_err-words-clause-case : goal.returns-in_err-words-clause-case
returns-in_err-words-clause-case c =
    none_match _ c.from_residual-in_err-words.ensures
    (no_words c.in_ok-line.ensures (strip_prefix_is Decides-eqb c.in_ok-line.line.now (codes "case ") None c.in_err-words.ensures.cases))

-- no space ends the name
pub returns-in_err-name-clause-case : goal.returns-in_err-name-clause-case
returns-in_err-name-clause-case c =
    let line = strip_prefix_is Decides-eqb c.in_ok-line.line.now (codes "case ") (Some c.in_ok-words.words) c.in_ok-words.ensures.cases in
    none_match _ c.from_residual-in_err-name.ensures (no_name (line_is line c.in_ok-line.ensures) c.in_err-name.ensures)

-- the length is not of digits alone, or too large
pub returns-in_err-number-clause-case : goal.returns-in_err-number-clause-case
returns-in_err-number-clause-case c =
    let line = strip_prefix_is Decides-eqb c.in_ok-line.line.now (codes "case ") (Some c.in_ok-words.words) c.in_ok-words.ensures.cases in
    none_match _ c.from_residual-in_err-number.ensures
    (no_number (line_is line c.in_ok-line.ensures) c.in_ok-name.ensures c.in_err-number.ensures (omega arith))

-- the text and a byte more are not there
pub returns-in_err-text-clause-case : goal.returns-in_err-text-clause-case
returns-in_err-text-clause-case c =
    let line = strip_prefix_is Decides-eqb c.in_ok-line.line.now (codes "case ") (Some c.in_ok-words.words) c.in_ok-words.ensures.cases in
    none_match _ c.from_residual-in_err-text.ensures
    (no_text (line_is line c.in_ok-line.ensures) c.in_ok-name.ensures (omega (arith, c.in_err-text.ensures, c.in_ok-number.ensures.1)))

pub returns-clause-case : goal.returns-clause-case
returns-clause-case c =
    let line : c.in_ok-line.line.now ≡ codes "case " ++ c.in_ok-words.words.now =
    strip_prefix_is Decides-eqb c.in_ok-line.line.now (codes "case ") (Some c.in_ok-words.words) c.in_ok-words.ensures.cases in
    let size = c.in_ok-number.field-0 in
    let after = c.in_ok-line.after.now in
    let room : size < length after = c.in_ok-text.ensures.0 in
    let text : c.in_ok-text.text.now ≡ take size after = c.in_ok-text.ensures.1 in
    let rest : c.in_ok-text.rest.now ≡ drop (size + 1) after = c.in_ok-text.ensures.2 in
    let cut : after ≡ take size after ++ (get_or after size 0 ∷ drop (size + 1) after) = simp add-one (split_at after size 0 room) in
    record {
      words = c.in_ok-words.words.now;
      digits = c.in_ok-name.digits.now;
      after = after;
      last = get_or after size 0;
      line = line_is line c.in_ok-line.ensures;
      named = c.in_ok-name.ensures;
      numeral = c.in_ok-number.ensures.0;
      size = sym (ap length text ∙ length-take-le size after (omega arith) ∙ c.in_ok-number.ensures.1);
      ends = cut ∙ ap₂ (λ t r. t ++ (get_or after size 0 ∷ r)) (sym text) (sym rest);
    }
