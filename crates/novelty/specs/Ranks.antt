-- No two sets of atoms below N have one rank, and the ranks of the sets of one size lie together. Assumes nothing.
use Rattle.std.specs.Prelude.{◌≡◌, ℕ, zero, suc, ◌+◌, ◌-◌, ◌<◌, ◌≤◌, List, [], ◌∷◌, ◌++◌, reverse, length, refl}
use Rattle.std.proofs.Common.{sym, ◌∙◌, ap, ap₂, inl, inr, zero-add, add-zero, add-suc, arith}
use mathlib.Core.List.{reverse-cons}
use Rattle.std.specs.List.{AllByRecursion}
use Rattle.std.proofs.lemmas.List.{length-reverse, reverse-reverse}
use Rattle.std.proofs.ByRecursion.{All-push, All-weaker}
use Rattle.std.proofs.lemmas.Bool.{cases_order}
use Rattle.domain.specs.Model.{Rising}
use Rattle.novelty.specs.Binomials.{choose, smaller}
use Rattle.novelty.specs.Tuples.{places, rank, OneToOne}

pub choose_rises : (n m r : ℕ) → n ≤ m → choose n r ≤ choose m r
unfolding choose
choose_rises n m zero h = omega arith
choose_rises zero m (suc r) h = omega arith
choose_rises (suc n) zero (suc r) h = absurd (omega arith)
choose_rises (suc n) (suc m) (suc r) h = omega (arith, choose_rises n m r (omega arith), choose_rises n m (suc r) (omega arith))

smaller_rises : (N r d : ℕ) → smaller N r ≤ smaller N (r + d)
smaller_rises N r zero = rw add-zero (omega arith)
smaller_rises N r (suc d) = rw add-suc (omega (arith, smaller_rises N r d))

pascal_sum : (n r : ℕ) → choose (suc n) (suc r) ≡ choose n r + choose n (suc r)
unfolding choose
pascal_sum n r = refl

-- A set from its largest member down, C(ir, r) + .. + C(i1, 1): two sets are compared by their largest members first.
abbrev down : List ℕ → ℕ
down [] = 0
down (t ∷ ts) = choose t (suc (length ts)) + down ts

abbrev Falling : List ℕ → Type 0
Falling [] = Unit {0}
Falling (t ∷ ts) = AllByRecursion (λ a. a < t) ts × Falling ts

-- the sets of r atoms below N have the places below C(N, r)
down_below : (N : ℕ) (ts : List ℕ) → Falling ts → AllByRecursion (λ a. a < N) ts → down ts < choose N (length ts)
unfolding choose
down_below N [] f b = omega arith
down_below N (t ∷ ts) f b =
    omega (arith, down_below t ts f.1 f.0, pascal_sum t (length ts), choose_rises (suc t) N (suc (length ts)) b.0)

-- a set whose largest member is below another's largest comes first
down_before : (t u : ℕ) (ts us : List ℕ) → Falling (t ∷ ts) → length ts ≡ length us → t < u → down (t ∷ ts) < down (u ∷ us)
down_before t u ts us f e l =
    omega (
      arith,
      down_below (suc t) (t ∷ ts) f (omega arith, All-weaker _ _ (λ a h. omega arith) ts f.0),
      choose_rises (suc t) u (suc (length ts)) l,
      ap (λ n. choose u (suc n)) e,
    )

down_one_to_one : (ts us : List ℕ) → Falling ts → Falling us → length ts ≡ length us → down ts ≡ down us → ts ≡ us
down_one_to_one [] [] f g e d = refl
down_one_to_one [] (u ∷ us) f g e d = absurd (omega arith)
down_one_to_one (t ∷ ts) [] f g e d = absurd (omega arith)
down_one_to_one (t ∷ ts) (u ∷ us) f g e d =
    let same : length ts ≡ length us = omega arith in
    let top : t ≡ u = elim (cases_order t u) [
      | inl p ↦ p
      | inr p ↦ elim p [
        | inl l ↦ absurd (omega (arith, down_before t u ts us f same l))
        | inr l ↦ absurd (omega (arith, down_before u t us ts g (sym same) l))
      ]
    ] in
    let rest = down_one_to_one ts us f.1 g.1 same (omega (arith, ap₂ (λ a n. choose a (suc n)) top same)) in
    ap₂ (λ a as'. a ∷ as') top rest

places_push : (r : ℕ) (xs : List ℕ) (x : ℕ) → places r (xs ++ (x ∷ [])) ≡ places r xs + choose x (r + length xs)
places_push r [] x = simp (add-zero, zero-add)
places_push r (y ∷ xs) x = let e : r + suc (length xs) ≡ suc r + length xs = omega arith in rw e (omega (arith, places_push (suc r) xs x))

-- the two sums are one, in opposite orders
places_reverse : (ts : List ℕ) → places 1 (reverse ts) ≡ down ts
places_reverse [] = refl
places_reverse (t ∷ ts) =
    let e : 1 + length (reverse ts) ≡ suc (length ts) = omega (arith, length-reverse ts) in
    rw (reverse-cons t ts, places_push 1 (reverse ts) t, e) (omega (arith, places_reverse ts))

all_reverse : (P : ℕ → Type 0) (ts : List ℕ) → AllByRecursion P ts → AllByRecursion P (reverse ts)
all_reverse P [] h = tt
all_reverse P (t ∷ ts) h = rw reverse-cons (All-push P (reverse ts) t (all_reverse P ts h.1) h.0)

all_parts : (P : ℕ → Type 0) (xs : List ℕ) (x : ℕ) → AllByRecursion P (xs ++ (x ∷ [])) → AllByRecursion P xs × P x
all_parts P [] x h = (tt, h.0)
all_parts P (y ∷ xs) x h = let p = all_parts P xs x h.1 in ((h.0, p.0), p.1)

rising_parts : (xs : List ℕ) (x : ℕ) → Rising (xs ++ (x ∷ [])) → Rising xs × AllByRecursion (λ a. a < x) xs
rising_parts [] x h = (tt, tt)
rising_parts (y ∷ xs) x h =
    let above = all_parts (λ a. y < a) xs x h.0 in
    let p = rising_parts xs x h.1 in
    ((above.0, p.0), (above.1, p.1))

falling : (ts : List ℕ) → Rising (reverse ts) → Falling ts
falling [] h = tt
falling (t ∷ ts) h =
    let p = rising_parts (reverse ts) t (rw reverse-cons at h) in
    (rw reverse-reverse at (all_reverse (λ a. a < t) (reverse ts) p.1), falling ts p.0)

falling_from_rising : (is : List ℕ) → Rising is → Falling (reverse is)
falling_from_rising is h = falling (reverse is) (rw reverse-reverse h)

places_down : (is : List ℕ) → places 1 is ≡ down (reverse is)
places_down is = rw reverse-reverse at (places_reverse (reverse is))

-- the ranks of the sets of r atoms below N lie from C(N, 0) + .. + C(N, r - 1) on and below that and C(N, r)
pub places_below : (N : ℕ) (is : List ℕ) → Rising is → AllByRecursion (λ a. a < N) is → places 1 is < choose N (length is)
places_below N is h b =
    omega (arith, places_down is, ap (choose N) (length-reverse is), down_below N (reverse is) (falling_from_rising is h) (all_reverse (λ a. a < N) is b))

pub smaller_to : (N r s : ℕ) → r ≤ s → smaller N r ≤ smaller N s
smaller_to N r s h = let e : r + (s - r) ≡ s = omega arith in rw e at (smaller_rises N r (s - r))

-- a set with fewer members comes first
rank_before : (N : ℕ) (is js : List ℕ) → Rising is → AllByRecursion (λ a. a < N) is → length is < length js → rank N is < rank N js
rank_before N is js h b l = omega (arith, places_below N is h b, smaller_to N (suc (length is)) (length js) l)

-- Of two sets with one rank neither has fewer members; then the largest members agree, and so on down.
pub one_to_one : (N : ℕ) → OneToOne N
one_to_one N is js h g b d e =
    let long : length is ≡ length js = elim (cases_order (length is) (length js)) [
      | inl p ↦ p
      | inr p ↦ elim p [
        | inl l ↦ absurd (omega (arith, rank_before N is js h b l))
        | inr l ↦ absurd (omega (arith, rank_before N js is g d l))
      ]
    ] in
    let same = down_one_to_one (reverse is) (reverse js) (falling_from_rising is h) (falling_from_rising js g)
    (length-reverse is ∙ long ∙ sym (length-reverse js))
    (omega (arith, places_down is, places_down js, ap (smaller N) long)) in
    sym (reverse-reverse is) ∙ ap reverse same ∙ reverse-reverse js
