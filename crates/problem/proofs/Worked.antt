-- The examples, by computation. Assumes nothing.
use Rattle.std.proofs.Common.{refl}
use Rattle.sketch.specs.Below.{every_below, some_below, lowest}
use Rattle.sketch.specs.Fault.{rule_fits, first_unfit}
use Rattle.sketch.specs.Sieve.{raised, lowered, justifies, strikable, strike, strikes, sieve, rules_left}
use Rattle.problem.specs.Examples.{Examples}
use Rattle.problem.specs.Form.{numbers, lettered, twice_lettered}
use Rattle.problem.specs.Lines.{cut}
use Rattle.problem.specs.Numeral.{numeral}
use Rattle.problem.specs.Problem.{text_problem}
use Rattle.problem.specs.Reader.{step}
use Rattle.problem.specs.Rows.{atom_row, action_row, feature_row, rule_row}
use Rattle.problem.specs.Text.{read_lines, read_text}

pub examples : Examples
unfolding every_below some_below lowest rule_fits first_unfit raised lowered justifies strikable strike strikes sieve rules_left cut numeral numbers lettered twice_lettered atom_row action_row feature_row rule_row step read_lines read_text text_problem
examples = record { read = refl; one_place = refl; range_first = refl }
