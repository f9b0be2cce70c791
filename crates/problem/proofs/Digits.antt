-- What the code computes of digits. Assumes nothing.
use Rattle.std.proofs.Common.{◌≡◌, ℕ, ◌+◌, ◌-◌, ◌*◌, List, [], ◌∷◌, Some, None, Ok, Err, Result, MatchResult, fold, sym, ap, ◌∙◌, arith}
use Rattle.problem.specs.Numeral.{flaw_of, capped, digits_value, judged, numeral}
use Rattle.problem.specs.Form.{good_by}
use Rattle.problem.specs.declared.fault.NumberFault.{NumberFault}
use Rattle.problem.specs.declared.fault.NumberFlaw.{NumberFlaw}
use Rattle.std.specs.Result.{IsErrAnd}
use Rattle.std.proofs.lemmas.Result.{err_from_is_err_and}

-- step by step, as a machine counts, and the whole number
abbrev pub count_on : ℕ → ℕ → ℕ
count_on v b = capped (capped (v * 10) + (b - 48))

capped_fold : (bs : List ℕ) (v w : ℕ) → v ≡ capped w → fold count_on v bs ≡ capped (fold (λ x b. x * 10 + (b - 48)) w bs)
capped_fold [] v w e = e
capped_fold (b ∷ bs) v w e = capped_fold bs (count_on v b) (w * 10 + (b - 48)) (omega arith)

pub capped_digits : (bs : List ℕ) → fold count_on 0 bs ≡ capped (digits_value bs)
capped_digits bs = capped_fold bs 0 0 (omega arith)

-- a flaw with its place
pub told_flaw : {U : Type 0} {Post : NumberFlaw → NumberFault → Type 0} (line column : ℕ) (bs : List ℕ) (r : Result U NumberFlaw) (m : Result U NumberFault) (d : NumberFault)
    → MatchResult r (λ _. flaw_of bs ≡ None) (λ flaw. flaw_of bs ≡ Some flaw) → MatchResult r (λ x. m ≡ Ok x) (λ flaw. IsErrAnd m (Post flaw))
    → ((flaw : NumberFlaw) (e : NumberFault) → Post flaw e → e ≡ record { line = line; column = column; flaw = flaw })
    → m ≡ Err d → Err d ≡ good_by capped (numeral line column bs)
unfolding numeral
told_flaw line column bs (Ok x) m d h g post e = absurd (let z : ◌≡◌ {A = ℕ} 0 1 = cc in omega arith)
told_flaw line column bs (Err flaw) m d h g post e =
    let p = err_from_is_err_and m g in
    let same : d ≡ p.0 = cc in
    ap (λ x. Err x) (same ∙ post flaw p.0 p.2) ∙ sym (ap (λ o. good_by capped (judged line column (digits_value bs) o)) h)
