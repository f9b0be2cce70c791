-- A good line is the one that is written from its values. Assumes nothing.
use Rattle.std.proofs.Common.{◌≡◌, ℕ, ◌+◌, ◌-◌, ◌*◌, ◌^◌, ◌<◌, Bool, true, false, cond, eqb, List, [], ◌∷◌, ◌++◌, length, get_or, Some, None, Ok, Err, decimal, fold, Option, Result, sym, refl, ap, ◌∙◌, arith, rules}
use Rattle.std.proofs.lemmas.Fmt.{decimal-digits_value}
use Rattle.std.proofs.lemmas.Str.Parse.{IsNumeralModel, numerals_by_fold}
use Rattle.std.proofs.lemmas.Bool.{eqb-true, eqb-false}
use Rattle.domain.specs.Atoms.{every}
use Rattle.problem.specs.Form.{of_line, number_at, numbers, lettered, twice_lettered}
use Rattle.problem.specs.Lines.{fronted, cut, fields, three, four, preceded}
use Rattle.problem.specs.Numeral.{digit, zero_first, flaw_of, digits_value, judged, numeral, letter}
use Rattle.problem.specs.Written.{numbers_text, lettered_text, twice_text}
use Rattle.problem.specs.declared.fault.LineFault.{LineFault}
use Rattle.problem.specs.declared.fault.NumberFlaw.{NumberFlaw}
use Rattle.problem.specs.declared.fault.NumberFlaw.TheVariants.{NotDigit, LeadingZero}
use Rattle.problem.proofs.Inverse.{then_ok}
use Rattle.problem.proofs.Pieces.{some_field}

abbrev read_on : ℕ → List ℕ → ℕ
read_on v bs = fold (λ (x b : ℕ). x * 10 + (b - 48)) v bs

own : IsNumeralModel (λ ds. every digit ds ≡ true) (read_on 0)
own = numerals_by_fold _ (search rules) read_on (search rules)

-- the bytes of a numeral are the digits of its number
sound_numeral : (bs : List ℕ) → flaw_of bs ≡ None → (every digit bs ≡ true) × (zero_first bs ≡ None)
sound_numeral bs h = by_case (every digit bs) h
  where
    by_case : (t : Bool) → cond t (zero_first bs) (Some NotDigit) ≡ None → (t ≡ true) × (zero_first bs ≡ None)
    by_case true g = (refl, g)
    by_case false g = absurd (let z : ◌≡◌ {A = ℕ} 0 1 = cc in omega arith)

no_zero_first : (bs : List ℕ) → zero_first bs ≡ None → (0 < length bs) × (get_or bs 0 0 ≡ 48 → length bs ≡ 1)
no_zero_first [] h = absurd (let z : ◌≡◌ {A = ℕ} 0 1 = cc in omega arith)
no_zero_first (b ∷ []) h = (omega arith, λ e. refl)
no_zero_first (b ∷ c ∷ bs) h = (omega arith, λ e. absurd (by_case (eqb b 48) (λ g. eqb-false b 48 g e) h))
  where
    by_case : (t : Bool) → (t ≡ false → ⊥) → cond t (Some LeadingZero) None ≡ None → ⊥
    by_case true not_so g = let z : ◌≡◌ {A = ℕ} 0 1 = cc in omega arith
    by_case false not_so g = not_so refl

judged_ok : (n column v w : ℕ) (o : Option NumberFlaw) → of_line (judged n column v o) ≡ Ok w → (o ≡ None) × (v ≡ w)
judged_ok n column v w None h = (refl, cc)
judged_ok n column v w (Some flaw) h = absurd (let z : ◌≡◌ {A = ℕ} 0 1 = cc in omega arith)

pub number_spelled : (n column : ℕ) (bs : List ℕ) (v : ℕ) → number_at n column bs ≡ Ok v → v < 2 ^ 64 → bs ≡ decimal v
unfolding numeral
number_spelled n column bs v h small =
    let j = judged_ok n column (digits_value bs) v (flaw_of bs) h in
    let good = sound_numeral bs j.0 in
    let lead = no_zero_first bs good.1 in
    sym (decimal-digits_value own bs good.0 lead.0 lead.1 (omega (arith, j.1))) ∙ ap decimal j.1

pub letter_spelled : (n column : ℕ) (bs : List ℕ) (c : ℕ) → letter n column bs ≡ Ok c → bs ≡ c ∷ []
letter_spelled n column [] c h = absurd (let z : ◌≡◌ {A = ℕ} 0 1 = cc in omega arith)
letter_spelled n column (b ∷ []) c h = let same : b ≡ c = cc in ap (λ x. x ∷ []) same
letter_spelled n column (b ∷ d ∷ bs) c h = absurd (let z : ◌≡◌ {A = ℕ} 0 1 = cc in omega arith)

-- fields with one space between two of them
abbrev spaced : List (List ℕ) → List ℕ
spaced [] = []
spaced (p ∷ []) = p
spaced (p ∷ q ∷ ps) = p ++ 32 ∷ spaced (q ∷ ps)

spaced_fronted : (b : ℕ) (q : List ℕ) (ps : List (List ℕ)) → spaced ((b ∷ q) ∷ ps) ≡ b ∷ spaced (q ∷ ps)
spaced_fronted b q [] = refl
spaced_fronted b q (p ∷ ps) = refl

pub spaced_fields : (bs : List ℕ) → spaced (fields bs) ≡ bs
unfolding cut
spaced_fields [] = refl
spaced_fields (b ∷ bs) = by_case (eqb b 32) (eqb-true b 32) (some_field bs).0 (some_field bs).1 (fields bs) (some_field bs).2 (spaced_fields bs)
  where
    by_case : (t : Bool) → (t ≡ true → b ≡ 32) → (q : List ℕ) (ps qs : List (List ℕ)) → qs ≡ q ∷ ps → spaced qs ≡ bs
        → spaced (cond t ([] ∷ qs) (fronted b qs)) ≡ b ∷ bs
    by_case true is q ps qs e ih = ap (λ rs. spaced ([] ∷ rs)) e ∙ ap (λ cs. 32 ∷ cs) (sym (ap spaced e) ∙ ih) ∙ ap (λ x. x ∷ bs) (sym (is refl))
    by_case false is q ps qs e ih = ap (λ rs. spaced (fronted b rs)) e ∙ spaced_fronted b q ps ∙ ap (λ cs. b ∷ cs) (sym (ap spaced e) ∙ ih)

three_ok : (n : ℕ) (ps : List (List ℕ)) (t : List ℕ × List ℕ × List ℕ) → three n ps ≡ Ok t → ps ≡ t.0 ∷ t.1 ∷ t.2 ∷ []
three_ok n [] t h = absurd (let z : ◌≡◌ {A = ℕ} 0 1 = cc in omega arith)
three_ok n (p ∷ []) t h = absurd (let z : ◌≡◌ {A = ℕ} 0 1 = cc in omega arith)
three_ok n (p ∷ q ∷ []) t h = absurd (let z : ◌≡◌ {A = ℕ} 0 1 = cc in omega arith)
three_ok n (p ∷ q ∷ r ∷ []) t h = let same : ◌≡◌ {A = List ℕ × List ℕ × List ℕ} (p, q, r) t = cc in ap (λ u. u.0 ∷ u.1 ∷ u.2 ∷ []) same
three_ok n (p ∷ q ∷ r ∷ s ∷ ss) t h = absurd (let z : ◌≡◌ {A = ℕ} 0 1 = cc in omega arith)

four_ok : (n : ℕ) (ps : List (List ℕ)) (t : List ℕ × List ℕ × List ℕ × List ℕ) → four n ps ≡ Ok t → ps ≡ t.0 ∷ t.1 ∷ t.2 ∷ t.3 ∷ []
four_ok n [] t h = absurd (let z : ◌≡◌ {A = ℕ} 0 1 = cc in omega arith)
four_ok n (p ∷ ps) t h = by_rest (three n ps) h (three_ok n ps)
  where
    by_rest : (r : Result (List ℕ × List ℕ × List ℕ) LineFault) → preceded p r ≡ Ok t
        → ((u : List ℕ × List ℕ × List ℕ) → r ≡ Ok u → ps ≡ u.0 ∷ u.1 ∷ u.2 ∷ [])
        → p ∷ ps ≡ t.0 ∷ t.1 ∷ t.2 ∷ t.3 ∷ []
    by_rest (Ok u) g is =
        let same : ◌≡◌ {A = List ℕ × List ℕ × List ℕ × List ℕ} (p, u.0, u.1, u.2) t = cc in
        ap (λ qs. p ∷ qs) (is u refl) ∙ ap (λ v. v.0 ∷ v.1 ∷ v.2 ∷ v.3 ∷ []) same
    by_rest (Err e) g is = absurd (let z : ◌≡◌ {A = ℕ} 0 1 = cc in omega arith)

pub numbers_spelled : (n : ℕ) (bs : List ℕ) (t : ℕ × ℕ × ℕ) → numbers n bs ≡ Ok t → t.0 < 2 ^ 64 → t.1 < 2 ^ 64 → t.2 < 2 ^ 64 → bs ≡ numbers_text t
unfolding numbers
numbers_spelled n bs t h a b c =
    let p = then_ok (three n (fields bs)) _ t h in
    let u = then_ok (number_at n 1 p.0.0) _ t p.2 in
    let v = then_ok (number_at n 2 p.0.1) _ t u.2 in
    let w = then_ok (number_at n 3 p.0.2) _ t v.2 in
    let same : ◌≡◌ {A = ℕ × ℕ × ℕ} (u.0, v.0, w.0) t = let g = w.2 in cc in
    let x = number_spelled n 1 p.0.0 t.0 (u.1 ∙ ap (λ s. Ok s.0) same) a in
    let y = number_spelled n 2 p.0.1 t.1 (v.1 ∙ ap (λ s. Ok s.1) same) b in
    let z = number_spelled n 3 p.0.2 t.2 (w.1 ∙ ap (λ s. Ok s.2) same) c in
    sym (spaced_fields bs) ∙ ap spaced (three_ok n (fields bs) p.0 p.1) ∙ (λ i. x i ++ 32 ∷ (y i ++ 32 ∷ z i))

pub lettered_spelled : (n : ℕ) (bs : List ℕ) (t : ℕ × ℕ × ℕ) → lettered n bs ≡ Ok t → t.0 < 2 ^ 64 → t.2 < 2 ^ 64 → bs ≡ lettered_text t
unfolding lettered
lettered_spelled n bs t h a c =
    let p = then_ok (three n (fields bs)) _ t h in
    let u = then_ok (number_at n 1 p.0.0) _ t p.2 in
    let v = then_ok (letter n 2 p.0.1) _ t u.2 in
    let w = then_ok (number_at n 3 p.0.2) _ t v.2 in
    let same : ◌≡◌ {A = ℕ × ℕ × ℕ} (u.0, v.0, w.0) t = let g = w.2 in cc in
    let x = number_spelled n 1 p.0.0 t.0 (u.1 ∙ ap (λ s. Ok s.0) same) a in
    let y = letter_spelled n 2 p.0.1 t.1 (v.1 ∙ ap (λ s. Ok s.1) same) in
    let z = number_spelled n 3 p.0.2 t.2 (w.1 ∙ ap (λ s. Ok s.2) same) c in
    sym (spaced_fields bs) ∙ ap spaced (three_ok n (fields bs) p.0 p.1) ∙ (λ i. x i ++ 32 ∷ (y i ++ 32 ∷ z i))

pub twice_spelled : (n : ℕ) (bs : List ℕ) (t : ℕ × ℕ × ℕ × ℕ) → twice_lettered n bs ≡ Ok t → t.0 < 2 ^ 64 → t.1 < 2 ^ 64 → bs ≡ twice_text t
unfolding twice_lettered
twice_spelled n bs t h a b =
    let p = then_ok (four n (fields bs)) _ t h in
    let u = then_ok (number_at n 1 p.0.0) _ t p.2 in
    let v = then_ok (number_at n 2 p.0.1) _ t u.2 in
    let w = then_ok (letter n 3 p.0.2) _ t v.2 in
    let q = then_ok (letter n 4 p.0.3) _ t w.2 in
    let same : ◌≡◌ {A = ℕ × ℕ × ℕ × ℕ} (u.0, v.0, w.0, q.0) t = let g = q.2 in cc in
    let x = number_spelled n 1 p.0.0 t.0 (u.1 ∙ ap (λ s. Ok s.0) same) a in
    let y = number_spelled n 2 p.0.1 t.1 (v.1 ∙ ap (λ s. Ok s.1) same) b in
    let z = letter_spelled n 3 p.0.2 t.2 (w.1 ∙ ap (λ s. Ok s.2) same) in
    let k = letter_spelled n 4 p.0.3 t.3 (q.1 ∙ ap (λ s. Ok s.3) same) in
    sym (spaced_fields bs) ∙ ap spaced (four_ok n (fields bs) p.0 p.1) ∙ (λ i. x i ++ 32 ∷ (y i ++ 32 ∷ (z i ++ 32 ∷ k i)))
