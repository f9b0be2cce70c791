-- What a text means: its lines, read one after the other. Assumes nothing.
use Rattle.std.specs.Prelude.{◌≡◌, ℕ, ◌+◌, List, [], ◌∷◌, Some, None, Ok, Err, Option, Result}
use Rattle.domain.specs.declared.strips.Action.{Action}
use Rattle.problem.specs.Form.{and_then, good_by}
use Rattle.problem.specs.Lines.{lines}
use Rattle.problem.specs.Reader.{start_of, step}
use Rattle.problem.specs.Tables.{action_added}
use Rattle.problem.specs.declared.fault.LineFault.{LineFault}
use Rattle.problem.specs.declared.fault.LineFault.TheVariants.{Missing}
use Rattle.problem.specs.declared.reader.Reader.{Reader}
use Rattle.problem.specs.declared.reader.Wanted.{Wanted}
use Rattle.problem.specs.declared.reader.Wanted.TheVariants.{TheNames, Values, Nothing}
use Rattle.problem.specs.declared.tables.ActionRow.{ActionRow}

-- what was read so far, and the places for actions
abbrev pub Reading : Type 0
Reading = Reader × List Action

-- a row of the action table goes to its place
abbrev pub placed : List Action → Option ActionRow → List Action
placed acts None = acts
placed acts (Some row) = action_added acts row

-- one line more
abbrev pub read_line : ℕ → Reading → List ℕ → Result Reading LineFault
read_line n r bs = good_by (λ m. (m.0, placed r.1 m.1)) (step r.0 n bs)

-- the end of the text is right where no line is wanted; else the line n is missing
abbrev pub ended : Wanted → ℕ → Reading → Result Reading LineFault
ended (TheNames table) n r = Err (Missing n)
ended (Values table) n r = Err (Missing n)
ended Nothing n r = Ok r

-- the lines from the line n on: the first faulty one decides
unfoldable pub read_lines : ℕ → Reading → List (List ℕ) → Result Reading LineFault
read_lines n r [] = ended r.0.wanted n r
read_lines n r (l ∷ ls) = and_then (read_line n r l) λ next. read_lines (n + 1) next ls

-- a whole text, where so many actions are allowed and these are the places for them
unfoldable pub read_text : ℕ → List Action → List ℕ → Result Reading LineFault
read_text limit acts bs = read_lines 1 (start_of limit, acts) (lines bs)

-- what a reader's reply says, with the places afterwards
abbrev pub Ends : Result Reading LineFault → List Action → Result Reader LineFault → Type 0
Ends m acts (Ok s) = m ≡ Ok (s, acts)
Ends m acts (Err e) = m ≡ Err e
