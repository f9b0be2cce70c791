-- Reading goes on line by line. Assumes nothing.
use Rattle.std.proofs.Common.{◌≡◌, ℕ, ◌+◌, List, [], ◌∷◌, Ok, Err, Option, Result, sym, ap, ◌∙◌, subst}
use Rattle.domain.specs.declared.strips.Action.{Action}
use Rattle.problem.specs.Form.{and_then, good_by}
use Rattle.problem.specs.Reader.{step}
use Rattle.problem.specs.Text.{Reading, placed, ended, read_lines, Ends}
use Rattle.problem.specs.declared.fault.LineFault.{LineFault}
use Rattle.problem.specs.declared.reader.Reader.{Reader}
use Rattle.problem.specs.declared.tables.ActionRow.{ActionRow}

module _ (n : ℕ) (s : Reader) (acts : List Action) where
  -- a good line
  pub line_more : (ls ks : List (List ℕ)) (k : ℕ) (l : List ℕ) (next : Reader) (row : Option ActionRow) → ls ≡ l ∷ ks → k ≡ n → step s k l ≡ Ok (next, row)
      → read_lines n (s, acts) ls ≡ read_lines (n + 1) (next, placed acts row) ks
  unfolding read_lines
  line_more ls ks k l next row parts number e =
      ap (read_lines n (s, acts)) parts
      ∙ ap (λ m. and_then (good_by (λ t. (t.0, placed acts t.1)) m) λ r. read_lines (n + 1) r ks) (ap (λ j. step s j l) (sym number) ∙ e)

  -- a faulty line
  pub line_fault : (ls ks : List (List ℕ)) (k : ℕ) (l : List ℕ) (e : LineFault) → ls ≡ l ∷ ks → k ≡ n → step s k l ≡ Err e → read_lines n (s, acts) ls ≡ Err e
  unfolding read_lines
  line_fault ls ks k l e parts number fault =
      ap (read_lines n (s, acts)) parts
      ∙ ap (λ m. and_then (good_by (λ t. (t.0, placed acts t.1)) m) λ r. read_lines (n + 1) r ks) (ap (λ j. step s j l) (sym number) ∙ fault)

  -- the end
  pub lines_end : (ls : List (List ℕ)) → ls ≡ [] → read_lines n (s, acts) ls ≡ ended s.wanted n (s, acts)
  unfolding read_lines
  lines_end ls e = ap (read_lines n (s, acts)) e

-- the same reading under another name
pub ends_so : {m k : Result Reading LineFault} (acts : List Action) (r : Result Reader LineFault) → m ≡ k → Ends m acts r → Ends k acts r
ends_so acts r e h = subst (λ m. Ends m acts r) e h
