-- Marks: which keys are marked after a set's keys are. Assumes nothing.
use Rattle.std.proofs.Common.{◌≡◌, ℕ, ◌<◌, ◌≤◌, true, false, eqb, ◌≢◌, ◌⊎◌, List, [], ◌∷◌, ◌++◌, length, drop, set, replicate, sym, refl, ap, ◌∙◌, subst, inl, inr, ⊎_elim, arith}
use Rattle.std.proofs.lemmas.List.{length-set, length-replicate, length-append, length-drop, get_or-set_same, get_or-set_other, get_or_past, set_past, get_or_append_left, get_or-replicate}
use Rattle.std.proofs.lemmas.Bool.{both_ways, cases_eq, cases_lt, or_cases, or_parts}
use Rattle.novelty.specs.Marks.{unmarked, novel, marked}
use Rattle.planner.specs.Width.{Among}

pub length_marked : (ks marks : List ℕ) → length (marked ks marks) ≡ length marks
length_marked [] marks = refl
length_marked (k ∷ ks) marks = length_marked ks (set marks k 1) ∙ length-set marks k 1

-- a key that is set is marked, also one past the table
set_marks : (marks : List ℕ) (k : ℕ) → unmarked (set marks k 1) k ≡ false
set_marks marks k =
    ⊎_elim (λ within. ap (λ x. eqb x 0) (get_or-set_same marks k 1 1 within))
    (λ past. ap (λ m. unmarked m k) (set_past marks k 1 past) ∙ ap (λ x. eqb x 0) (get_or_past marks k 1 past))
    (cases_lt k (length marks))

-- another key is as it was
set_leaves : (marks : List ℕ) (k j : ℕ) → j ≢ k → unmarked (set marks k 1) j ≡ unmarked marks j
set_leaves marks k j other = ap (λ x. eqb x 0) (get_or-set_other marks k j 1 1 other)

-- a marked key stays marked
pub marked_keeps : (ks marks : List ℕ) (j : ℕ) → unmarked marks j ≡ false → unmarked (marked ks marks) j ≡ false
marked_keeps [] marks j e = e
marked_keeps (k ∷ ks) marks j e =
    marked_keeps ks (set marks k 1) j
    (⊎_elim (λ same. ap (unmarked (set marks k 1)) same ∙ set_marks marks k) (λ other. set_leaves marks k j other ∙ e) (cases_eq j k))

-- each of the keys is marked
pub marked_all : (ks marks : List ℕ) (j : ℕ) → Among j ks → unmarked (marked ks marks) j ≡ false
marked_all [] marks j in' = absurd in'
marked_all (k ∷ ks) marks j in' =
    ⊎_elim (λ here. marked_keeps ks (set marks k 1) j (ap (unmarked (set marks k 1)) (sym here) ∙ set_marks marks k)) (marked_all ks (set marks k 1) j) in'

-- and no other
pub marked_only : (ks marks : List ℕ) (j : ℕ) → unmarked (marked ks marks) j ≡ false → (unmarked marks j ≡ false) ⊎ Among j ks
marked_only [] marks j e = inl e
marked_only (k ∷ ks) marks j e =
    ⊎_elim
    (λ before. ⊎_elim (λ same. inr (inl (sym same))) (λ other. inl (sym (set_leaves marks k j other) ∙ before)) (cases_eq j k))
    (λ rest. inr (inr rest)) (marked_only ks (set marks k 1) j e)

-- a novel set has an unmarked key
pub novel_some : (ks marks : List ℕ) → novel ks marks ≡ true → (k : ℕ) × Among k ks × (unmarked marks k ≡ true)
novel_some [] marks e = absurd (both_ways false refl e)
novel_some (k ∷ ks) marks e =
    ⊎_elim (λ here. (k, inl refl, here)) (λ rest. let r = novel_some ks marks rest in (r.0, inr r.1, r.2)) (or_cases (unmarked marks k) (novel ks marks) e)

-- a set that is not novel has none
pub novel_none : (ks marks : List ℕ) → novel ks marks ≡ false → (k : ℕ) → Among k ks → unmarked marks k ≡ false
novel_none [] marks e k in' = absurd in'
novel_none (x ∷ ks) marks e k in' =
    let parts = or_parts (unmarked marks x) (novel ks marks) e in
    ⊎_elim (λ here. ap (unmarked marks) (sym here) ∙ parts.0) (novel_none ks marks parts.1 k) in'

-- a cleared table: its first n keys are unmarked
pub cleared_unmarked : (n : ℕ) (marks : List ℕ) (k : ℕ) → k < n → unmarked (replicate n 0 ++ drop n marks) k ≡ true
cleared_unmarked n marks k within =
    let front : k < length (replicate {A = ℕ} n 0) = subst (λ m. k < m) (sym (length-replicate n 0)) within in
    ap (λ x. eqb x 0) (get_or_append_left (replicate n 0) (drop n marks) 1 k front ∙ get_or-replicate n k 0 1 within)

pub length_cleared : (n : ℕ) (marks : List ℕ) → n ≤ length marks → length (replicate n 0 ++ drop n marks) ≡ length marks
length_cleared n marks few =
    let a = length-append (replicate {A = ℕ} n 0) (drop n marks) in
    let b = length-replicate {A = ℕ} n 0 in
    let c = length-drop n marks in
    omega arith

-- a set with at least one key
pub some_among : (ks : List ℕ) → 1 ≤ length ks → (k : ℕ) × Among k ks
some_among [] some = absurd (omega arith)
some_among (k ∷ ks) some = (k, inl refl)
