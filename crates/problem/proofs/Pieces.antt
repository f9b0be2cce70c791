-- What is cut from the front of some bytes: the first line of a text, the first field of a line. Assumes nothing.
use Rattle.std.proofs.Common.{◌≡◌, ℕ, suc, ◌+◌, ◌-◌, ◌<◌, ◌≤◌, Bool, true, false, cond, not, eqb, ltb, List, [], ◌∷◌, length, take, drop, Some, None, Err, Option, MatchOption, unwrap_or, sym, refl, ap, ◌∙◌, ap₂, ⊎_elim, arith}
use Rattle.std.specs.List.{position, position_or_len}
use Rattle.std.proofs.lemmas.Bool.{cases_lt, lt-ltb, ltb-true}
use Rattle.std.proofs.lemmas.Option.{cond_some, none-some}
use Rattle.std.proofs.lemmas.List.{take_rest}
use Rattle.problem.specs.Lines.{fronted, cut, lines, fields, before, three}
use Rattle.problem.specs.declared.fault.LineFault.TheVariants.{Columns}

-- a `stop` among the bytes ends the first piece
pub cut_at : (stop : ℕ) (none : List (List ℕ)) (bs : List ℕ) → before stop bs < length bs
    → cut stop none bs ≡ take (before stop bs) bs ∷ cut stop none (drop (before stop bs + 1) bs)
unfolding cut
cut_at stop none [] h = absurd (omega arith)
cut_at stop none (b ∷ bs) h = by_case (eqb b stop) h (cut_at stop none bs)
  where
    m : ℕ
    m = before stop bs

    by_case : (t : Bool) → cond (not t) (1 + m) 0 < suc (length bs)
        → (m < length bs → cut stop none bs ≡ take m bs ∷ cut stop none (drop (m + 1) bs))
        → cond t ([] ∷ cut stop none bs) (fronted b (cut stop none bs))
        ≡ take (cond (not t) (1 + m) 0) (b ∷ bs) ∷ cut stop none (drop (cond (not t) (1 + m) 0 + 1) (b ∷ bs))
    by_case true l ih = refl
    by_case false l ih =
        let one : suc m ≡ 1 + m = omega arith in
        let two : suc (m + 1) ≡ 1 + m + 1 = omega arith in
        ap (fronted b) (ih (omega arith)) ∙ ap₂ (λ (j k : ℕ). take j (b ∷ bs) ∷ cut stop none (drop k (b ∷ bs))) one two

-- the first `stop` is found behind the bytes before it, and not at all where they are all bytes
pub found_at : (stop : ℕ) (bs : List ℕ) (n : ℕ) → position (λ b. eqb b stop) bs ≡ Some n → (n ≡ before stop bs) × (n < length bs)
found_at stop bs n h =
    let found = cond_some (ltb (position_or_len (λ b. eqb b stop) bs) (length bs)) _ n h in
    let low = ltb-true _ _ found.0 in
    (omega (arith, found.1), omega (arith, found.1))

pub found_none : (stop : ℕ) (bs : List ℕ) → position (λ b. eqb b stop) bs ≡ None → length bs ≤ before stop bs
found_none stop bs h =
    ⊎_elim
    (λ l. absurd (none-some _ (sym h ∙ ap (λ t. cond t (Some (position_or_len (λ b. eqb b stop) bs)) None) (lt-ltb _ _ l))))
    (λ l. l)
    (cases_lt (position_or_len (λ b. eqb b stop) bs) (length bs))

-- the same as the code cuts: `&bs[..n]` and `&bs[n + 1..]`
pub cut_parts : (stop : ℕ) (bs : List ℕ) (n : ℕ) → (n ≡ before stop bs) × (n < length bs) → (none : List (List ℕ))
    → cut stop none bs ≡ take n bs ∷ cut stop none (take (length bs - (n + 1)) (drop (n + 1) bs))
cut_parts stop bs n h none =
    let next : before stop bs + 1 ≡ n + 1 = omega (arith, h.0) in
    cut_at stop none bs (omega (arith, h.0, h.1))
    ∙ ap₂ (λ (j k : ℕ). take j bs ∷ cut stop none (drop k bs)) (sym h.0) next
    ∙ ap (λ cs. take n bs ∷ cut stop none cs) (sym (take_rest bs (n + 1)))

-- without a `stop` the bytes are one piece
pub cut_none : (stop : ℕ) (none : List (List ℕ)) → ((c : ℕ) → fronted c none ≡ (c ∷ []) ∷ []) → (b : ℕ) (bs : List ℕ)
    → length (b ∷ bs) ≤ before stop (b ∷ bs) → cut stop none (b ∷ bs) ≡ (b ∷ bs) ∷ []
unfolding cut
cut_none stop none alone b [] h = by_case (eqb b stop) h
  where
    by_case : (t : Bool) → 1 ≤ cond (not t) 1 0 → cond t ([] ∷ none) (fronted b none) ≡ (b ∷ []) ∷ []
    by_case true l = absurd (omega arith)
    by_case false l = alone b
cut_none stop none alone b (c ∷ cs) h = by_case (eqb b stop) h (cut_none stop none alone c cs)
  where
    by_case : (t : Bool) → suc (length (c ∷ cs)) ≤ cond (not t) (1 + before stop (c ∷ cs)) 0
        → (length (c ∷ cs) ≤ before stop (c ∷ cs) → cut stop none (c ∷ cs) ≡ (c ∷ cs) ∷ [])
        → cond t ([] ∷ cut stop none (c ∷ cs)) (fronted b (cut stop none (c ∷ cs))) ≡ (b ∷ (c ∷ cs)) ∷ []
    by_case true l ih = absurd (omega arith)
    by_case false l ih = ap (fronted b) (ih (omega arith))

pub one_field : (bs : List ℕ) → length bs ≤ before 32 bs → fields bs ≡ bs ∷ []
unfolding cut
one_field [] h = refl
one_field (b ∷ bs) h = cut_none 32 ([] ∷ []) (λ c. refl) b bs h

-- the fields as a line is split at its first space
pub fields_parts : {P : Type 0} (bs : List ℕ) (front behind : P → List ℕ) (r : Option P)
    → MatchOption r (length bs ≤ before 32 bs) (λ p. (none : List (List ℕ)) → cut 32 none bs ≡ front p ∷ cut 32 none (behind p))
    → MatchOption r (fields bs ≡ bs ∷ []) (λ p. fields bs ≡ front p ∷ fields (behind p))
fields_parts bs front behind None h = one_field bs h
fields_parts bs front behind (Some p) h = h ([] ∷ [])

-- there is always a first field
pub some_field : (bs : List ℕ) → (p : List ℕ) × (ps : List (List ℕ)) × (fields bs ≡ p ∷ ps)
unfolding cut
some_field [] = ([], [], refl)
some_field (b ∷ bs) = by_case (eqb b 32) (fields bs)
  where
    by_case : (t : Bool) (qs : List (List ℕ)) → (p : List ℕ) × (ps : List (List ℕ)) × (cond t ([] ∷ qs) (fronted b qs) ≡ p ∷ ps)
    by_case true qs = ([], qs, refl)
    by_case false [] = (b ∷ [], [], refl)
    by_case false (q ∷ qs) = (b ∷ q, qs, refl)

-- a fourth field is one too many
pub more_than_three : (n : ℕ) (p q r bs : List ℕ) → three n (p ∷ q ∷ r ∷ fields bs) ≡ Err (Columns n)
more_than_three n p q r bs = let f = some_field bs in ap (λ ps. three n (p ∷ q ∷ r ∷ ps)) f.2

pub one_line : (bs : List ℕ) → 0 < length bs → length bs ≤ before 10 bs → lines bs ≡ bs ∷ lines []
unfolding cut
one_line [] some h = absurd (omega arith)
one_line (b ∷ bs) some h = cut_none 10 [] (λ c. refl) b bs h

not_empty : (bs : List ℕ) → false ≡ eqb (length bs) 0 → 0 < length bs
not_empty [] e = absurd (let z : ◌≡◌ {A = ℕ} 0 1 = cc in omega arith)
not_empty (b ∷ bs) e = omega arith

-- the first line as a text is split at its first line end, or the whole text
pub line_parts : {P : Type 0} (bs : List ℕ) (front behind : P → List ℕ) (r : Option P) (whole : P) → false ≡ eqb (length bs) 0 → front whole ≡ bs → behind whole ≡ []
    → MatchOption r (length bs ≤ before 10 bs) (λ p. (none : List (List ℕ)) → cut 10 none bs ≡ front p ∷ cut 10 none (behind p))
    → (p : P) → p ≡ unwrap_or r whole → lines bs ≡ front p ∷ lines (behind p)
line_parts bs front behind None whole some all nothing h p e =
    one_line bs (not_empty bs some) h ∙ ap₂ (λ l rest. l ∷ lines rest) (sym (ap front e ∙ all)) (sym (ap behind e ∙ nothing))
line_parts bs front behind (Some q) whole some all nothing h p e =
    h [] ∙ ap (λ t. front t ∷ lines (behind t)) (sym e)

-- no byte has no line
pub no_line : (bs : List ℕ) → length bs ≡ 0 → lines bs ≡ []
unfolding cut
no_line [] e = refl
no_line (b ∷ bs) e = absurd (omega arith)
