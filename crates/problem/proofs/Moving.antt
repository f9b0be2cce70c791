-- What one line does, by what is wanted. Assumes nothing.
use Rattle.std.proofs.Common.{◌≡◌, ℕ, ◌<◌, List, [], ◌∷◌, length, Option, Result, sym, ap, subst, arith}
use Rattle.problem.specs.Reader.{Step, opened, closed, valued, step, step_by, Moves}
use Rattle.problem.specs.declared.fault.LineFault.{LineFault}
use Rattle.problem.specs.declared.fault.Table.{Table}
use Rattle.problem.specs.declared.reader.Reader.{Reader}
use Rattle.problem.specs.declared.reader.Wanted.TheVariants.{TheNames, Values}
use Rattle.problem.specs.declared.tables.ActionRow.{ActionRow}

pub opening : (s : Reader) (table : Table) (n : ℕ) (bs : List ℕ) → s.wanted ≡ TheNames table → opened s table n bs ≡ step s n bs
unfolding step
opening s table n bs e = sym (ap (λ w. step_by w s n bs) e)

pub closing : (s : Reader) (table : Table) (n : ℕ) (bs : List ℕ) → s.wanted ≡ Values table → length bs < 1 → closed s table n ≡ step s n bs
unfolding step
closing s table n [] e h = sym (ap (λ w. step_by w s n []) e)
closing s table n (b ∷ bs) e h = absurd (omega arith)

pub filling : (s : Reader) (table : Table) (n : ℕ) (bs : List ℕ) → s.wanted ≡ Values table → 0 < length bs → valued s table n bs ≡ step s n bs
unfolding step
filling s table n [] e h = absurd (omega arith)
filling s table n (b ∷ bs) e h = sym (ap (λ w. step_by w s n (b ∷ bs)) e)

-- the same step under another name
pub moves_so : {m k : Result Step LineFault} (last : Reader) (r : Result (Option ActionRow) LineFault) → m ≡ k → Moves m last r → Moves k last r
moves_so last r e h = subst (λ m. Moves m last r) e h
