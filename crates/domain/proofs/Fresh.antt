-- Nine pieces that are all fresh stand each once, and one that is not breaks that. Assumes nothing.
use Rattle.std.proofs.Common.{◌≡◌, ℕ, zero, suc, ◌+◌, ◌<◌, ◌≤◌, Bool, true, false, cond, not, ◌||◌, eqb, ltb, List, [], ◌∷◌, length, take, Some, None, count_by, Option, sym, refl, ap, ◌∙◌, subst, ⊎_elim, add-one, arith}
use Rattle.std.proofs.ByRecursion.{All-from_get_or}
use Rattle.std.proofs.lemmas.List.{take_all}
use Rattle.std.proofs.lemmas.List.Sums.{sum_by-cons, sum_by_more, sum_by-drop_more, sum_by-take-drop}
use Rattle.std.proofs.lemmas.Bool.{ltb-true, ltb-false, eqb-true, eq-eqb, and_parts, and_cases, or_parts, not-true, not-false, cases_Bool, both_ways, cases_lt, lt-ltb, le-ltb, cond-true, cond-false}
use Rattle.std.specs.Prelude.{position, option_map}
use Rattle.domain.specs.Atoms.{upto}
use Rattle.domain.specs.Boards.{fresh, first_stale, board_fault}
use Rattle.domain.specs.Model.{among}
use Rattle.domain.specs.Square.{piece_at, count_of, EachOnce}
use Rattle.domain.specs.declared.refusal.Refusal.{Refusal}
use Rattle.domain.specs.declared.refusal.Refusal.TheVariants.{Range}
use Rattle.domain.proofs.Counts.{pieces_below, each_once_from}
use Rattle.domain.proofs.Leading.{upto_passes, upto_stops, found_front, told_place}

count_cons : (p x : ℕ) (xs : List ℕ) → count_of p (x ∷ xs) ≡ cond (eqb x p) 1 0 + count_of p xs
unfolding count_of
count_cons p x xs = sum_by-cons (λ y. cond (eqb y p) 1 0) x xs

-- a piece that is not there is not counted, and one that is there is
absent : (p : ℕ) (xs : List ℕ) → among xs p ≡ false → count_of p xs ≡ 0
unfolding count_of
absent p [] e = refl
absent p (x ∷ xs) e =
    let parts = or_parts (eqb x p) (among xs p) e in
    omega (arith, count_cons p x xs, ap (λ (b : Bool). cond {A = ℕ} b 1 0) parts.0, absent p xs parts.1)

present : (p : ℕ) (xs : List ℕ) → among xs p ≡ true → 1 ≤ count_of p xs
present p [] e = absurd (both_ways false refl e)
present p (x ∷ xs) e = by_case (eqb x p) e (count_cons p x xs) (present p xs)
  where
    by_case : (b : Bool) → (b || among xs p) ≡ true → count_of p (x ∷ xs) ≡ cond b 1 0 + count_of p xs
        → (among xs p ≡ true → 1 ≤ count_of p xs) → 1 ≤ count_of p (x ∷ xs)
    by_case true f q rest = omega arith
    by_case false f q rest = omega (arith, rest f)

count_more : (p : ℕ) (xs : List ℕ) (i : ℕ) → i < length xs → count_of p (take (suc i) xs) ≡ count_of p (take i xs) + cond (eqb (piece_at xs i) p) 1 0
unfolding count_of
count_more p xs i h =
    ap (λ (n : ℕ). count_by (λ x. eqb x p) (take n xs)) (sym (add-one i)) ∙ sum_by_more (λ x. cond (eqb x p) 1 0) xs i 0 h

-- among fresh pieces none stands twice
most_once : (p : ℕ) (cells : List ℕ) (i : ℕ) → i ≤ length cells → ((c : ℕ) → c < i → fresh cells c ≡ true) → count_of p (take i cells) ≤ 1
unfolding count_of
most_once p cells zero h all = omega arith
most_once p cells (suc i) h all =
    ⊎_elim
    (λ e. omega (
      arith,
      count_more p cells i (omega arith),
      ap (λ (b : Bool). cond {A = ℕ} b 1 0) e,
      absent p (take i cells)
          (ap (among (take i cells)) (sym (eqb-true (piece_at cells i) p e)) ∙ not-true _ (and_parts _ _ (all i (omega arith))).1),
    ))
    (λ e. omega (
      arith,
      count_more p cells i (omega arith),
      ap (λ (b : Bool). cond {A = ℕ} b 1 0) e,
      most_once p cells i (omega arith) (λ c l. all c (omega arith)),
    ))
    (cases_Bool (eqb (piece_at cells i) p))

once_from_fresh : (cells : List ℕ) → length cells ≡ 9 → ((c : ℕ) → c < 9 → fresh cells c ≡ true) → EachOnce cells
once_from_fresh cells nine all =
    each_once_from cells nine
    (All-from_get_or (λ x. x < 9) cells 0 (λ i h. ltb-true (piece_at cells i) 9 (and_parts _ _ (all i (omega arith))).0))
    (λ p _. subst (λ (xs : List ℕ). count_of p xs ≤ 1) (take_all 9 cells (omega arith)) (most_once p cells 9 (omega arith) all))

-- a piece that stands before a cell and in it stands twice
pub twice : (cells : List ℕ) (c : ℕ) → c < length cells → among (take c cells) (piece_at cells c) ≡ true → 2 ≤ count_of (piece_at cells c) cells
unfolding count_of
twice cells c h e =
    let x = piece_at cells c in
    let f : ℕ → ℕ = λ y. cond (eqb y x) 1 0 in
    omega (
      arith,
      present x (take c cells) e,
      sum_by-take-drop f cells c,
      sum_by-drop_more f cells c 0 h,
      ap (λ (b : Bool). cond {A = ℕ} b 1 0) (eq-eqb x x refl),
    )

not_once : (cells : List ℕ) → length cells ≡ 9 → (c : ℕ) → c < 9 → fresh cells c ≡ false → EachOnce cells → ⊥
not_once cells nine c h e once =
    let x = piece_at cells c in
    let small = pieces_below cells nine once c h in
    ⊎_elim (λ f. omega (arith, ltb-false x 9 f)) (λ f. omega (arith, once x small, twice cells c (omega arith) (not-false _ f)))
    (and_cases (ltb x 9) (not (among (take c cells) x)) e)

-- the check of the pieces tells whether each stands once
pub once_from_check : (pieces : List ℕ) → length pieces ≡ 9 → board_fault pieces ≡ None → EachOnce pieces
unfolding first_stale
once_from_check pieces nine e = ⊎_elim (λ h. absurd (told h)) (λ h. once_from_fresh pieces nine (λ k l. upto_passes (fresh pieces) 9 k l h)) (cases_lt (first_stale pieces) 9)
  where
    told : first_stale pieces < 9 → ⊥
    told h =
        let f = cond-true {A = Option Refusal} (ltb (first_stale pieces) 9) (Some (Range (first_stale pieces))) None (lt-ltb (first_stale pieces) 9 h) in
        let z : ◌≡◌ {A = ℕ} 0 1 = cc in
        omega arith

pub not_once_from_check : (pieces : List ℕ) (r : Refusal) → length pieces ≡ 9 → board_fault pieces ≡ Some r → EachOnce pieces → ⊥
unfolding first_stale
not_once_from_check pieces r nine e =
    ⊎_elim (λ h. not_once pieces nine (first_stale pieces) h (upto_stops (fresh pieces) 9 h)) (λ h. absurd (told h)) (cases_lt (first_stale pieces) 9)
  where
    told : 9 ≤ first_stale pieces → ⊥
    told h =
        let f = cond-false {A = Option Refusal} (ltb (first_stale pieces) 9) (Some (Range (first_stale pieces))) None (le-ltb (first_stale pieces) 9 h) in
        let z : ◌≡◌ {A = ℕ} 0 1 = cc in
        omega arith

-- what is wrong with the pieces, by the first cell that is not fresh
pub board_told : (pieces : List ℕ) (o : Option ℕ) → o ≡ position (λ c. not (fresh pieces c)) (upto 9) → board_fault pieces ≡ option_map Range o
unfolding first_stale
board_told pieces o e = told_place (ltb (first_stale pieces) 9) (first_stale pieces) o (e ∙ found_front (fresh pieces) (upto 9))
