-- A move keeps the nine cells, and each piece in exactly one of them. Assumes nothing.
use Rattle.std.specs.Prelude.{◌≡◌, ℕ, ◌+◌, ◌-◌, ◌<◌, ◌≤◌, Bool, true, false, cond, not, List, [], ◌∷◌, length, IfSome, Some, None, count_by, Option, ◌==◌, nat_eq, nat_lt, slice_set, refl}
use Rattle.std.proofs.Common.{◌∙◌, ⊎_elim, arith, lit<, length-set}
use Rattle.std.specs.List.{prefix_len}
use Rattle.std.proofs.lemmas.List.Edits.{swap_is}
use Rattle.std.proofs.lemmas.List.Sorted.{IsPermutation-swap, sum_by-IsPermutation}
use Rattle.std.proofs.lemmas.List.Sums.{sum_by-cons}
use Rattle.std.proofs.lemmas.Bool.{ltb-true, cases_lt}
use Rattle.domain.specs.Moves.{direction_of, neighbour, destination, traded, shifted, slid}
use Rattle.domain.specs.Square.{piece_at, count_of, EachOnce, gap, row, column}
use Rattle.domain.specs.declared.puzzle.Direction.{Direction}
use Rattle.domain.specs.declared.puzzle.Direction.TheVariants.{Up, Down, Left, Right}

-- where every element fails, none passes
none_counted : {X : Type 0} (p : X → Bool) (xs : List X) → length xs ≤ prefix_len (λ x. not (p x)) xs → count_by p xs ≡ 0
none_counted p [] h = refl
none_counted p (x ∷ xs) h = sum_by-cons (λ y. cond (p y) 1 0) x xs ∙ by_case (p x) h (none_counted p xs)
  where
    by_case : (b : Bool) → length (x ∷ xs) ≤ cond (not b) (1 + prefix_len (λ y. not (p y)) xs) 0
        → (length xs ≤ prefix_len (λ y. not (p y)) xs → count_by p xs ≡ 0) → cond b 1 0 + count_by p xs ≡ 0
    by_case true l rest = absurd (omega arith)
    by_case false l rest = omega (arith, rest (omega arith))

-- the gap is in the square
pub gap_below : (cells : List ℕ) → length cells ≡ 9 → EachOnce cells → gap cells < 9
unfolding gap count_of
gap_below cells nine once =
    ⊎_elim (λ l. l) (λ l. absurd (omega (arith, once 0 (lit< tt), none_counted (λ x. nat_eq x 0) cells (omega arith)))) (cases_lt (gap cells) 9)

-- a cell, if there is one, is in the square
abbrev pub Inside : Option ℕ → Type 0
Inside o = IfSome o (λ c. c < 9)

inside_if : (b : Bool) (c : ℕ) → (b ≡ true → c < 9) → Inside (cond b (Some c) None)
inside_if true c f = f refl
inside_if false c f = tt

neighbour_inside : (c : ℕ) (w : Direction) → c < 9 → Inside (neighbour c w)
neighbour_inside c Up h = inside_if (nat_lt 0 (row c)) (c - 3) (λ _. omega arith)
neighbour_inside c Down h = inside_if (nat_lt (row c) 2) (c + 3) (λ e. omega (arith, ltb-true (row c) 2 e))
neighbour_inside c Left h = inside_if (nat_lt 0 (column c)) (c - 1) (λ _. omega arith)
neighbour_inside c Right h = inside_if (nat_lt (column c) 2) (c + 1) (λ e. omega (arith, ltb-true (column c) 2 e))

pub destination_inside : (c a : ℕ) → c < 9 → Inside (destination c a)
destination_inside c a h = by_way (direction_of a)
  where
    by_way : (o : Option Direction) → Inside (elim o [ Some w ↦ neighbour c w | None ↦ None ])
    by_way (Some w) = neighbour_inside c w h
    by_way None = tt

-- an exchange changes no count
pub count_traded : (p : ℕ) (cells : List ℕ) (i j : ℕ) → i < length cells → j < length cells → count_of p (traded cells i j) ≡ count_of p cells
unfolding count_of
count_traded p cells i j h l =
    sum_by-IsPermutation (λ x. cond (x == p) 1 0) cells (traded cells i j) (IsPermutation-swap cells (traded cells i j) i j h l (swap_is cells i j 0 h l))

length_traded : (cells : List ℕ) (i j : ℕ) → length (traded cells i j) ≡ length cells
length_traded cells i j = length-set (slice_set cells i (piece_at cells j)) j (piece_at cells i) ∙ length-set cells i (piece_at cells j)

shifted_nine : (cells : List ℕ) (o : Option ℕ) → length cells ≡ 9 → length (shifted cells o) ≡ 9
shifted_nine cells (Some c) nine = length_traded cells (gap cells) c ∙ nine
shifted_nine cells None nine = nine

shifted_once : (cells : List ℕ) (o : Option ℕ) → Inside o → length cells ≡ 9 → EachOnce cells → EachOnce (shifted cells o)
shifted_once cells (Some c) h nine once = λ p l. count_traded p cells (gap cells) c (omega (arith, gap_below cells nine once)) (omega arith) ∙ once p l
shifted_once cells None h nine once = once

pub slid_nine : (cells : List ℕ) (a : ℕ) → length cells ≡ 9 → length (slid cells a) ≡ 9
slid_nine cells a = shifted_nine cells (destination (gap cells) a)

pub slid_once : (cells : List ℕ) (a : ℕ) → length cells ≡ 9 → EachOnce cells → EachOnce (slid cells a)
slid_once cells a nine once =
    shifted_once cells (destination (gap cells) a) (destination_inside (gap cells) a (gap_below cells nine once)) nine once
