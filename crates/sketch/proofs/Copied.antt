-- A list copied to the beginning of an array, element by element. Assumes nothing.
use Rattle.std.proofs.Common.{◌≡◌, ℕ, ◌+◌, ◌-◌, ◌<◌, ◌≤◌, min, List, ◌++◌, length, get_or, take, drop, set, replicate, sym, ap, ◌∙◌, ap₂, ⊎_elim, zero-add, arith}
use lib.ListN.{length-replicate}
use lib.Seq.{paste}
use Rattle.std.proofs.lemmas.List.Edits.{paste_more}
use Rattle.std.proofs.lemmas.List.{take_all, take_at, drop-replicate}
use Rattle.std.proofs.lemmas.Bool.{cases_lt}
use Rattle.sketch.specs.Blanked.{held}

-- as many of the items as there are, or as are wanted, are all of the first n
take_min : {X : Type 0} (xs : List X) (n : ℕ) → take (min (length xs) n) xs ≡ take n xs
take_min xs n =
    ⊎_elim (λ l. let e : min (length xs) n ≡ n = omega arith in ap (λ k. take k xs) e)
    (λ l. take_all (min (length xs) n) xs (omega arith) ∙ (let t = take_all n xs l in cc)) (cases_lt n (length xs))

-- a loop that copies item by item: one more item, and what stands there at the end
pub copied_more : {X : Type 0} (n : ℕ) (blank : X) (xs ys : List X) (i : ℕ) (x : X) → i < min (length xs) n
    → ys ≡ paste (replicate n blank) 0 xs i → x ≡ get_or xs i x → set ys i x ≡ paste (replicate n blank) 0 xs (i + 1)
copied_more n blank xs ys i x h same item =
    let zero = zero-add i in
    let long = length-replicate n blank in
    let step = paste_more (replicate n blank) 0 xs i x (omega arith) (omega arith) in
    cc

pub copied_all : {X : Type 0} (n : ℕ) (blank : X) (xs ys : List X) (i : ℕ) → i ≡ min (length xs) n
    → ys ≡ paste (replicate n blank) 0 xs i → ys ≡ held n blank xs
copied_all n blank xs ys i end same =
    let fewer : n - (0 + i) ≡ n - length xs = omega arith in
    same
    ∙ ap₂ (λ a b. a ++ b) (ap (λ k. take k xs) end ∙ take_min xs n)
    (drop-replicate (0 + i) n blank ∙ ap (λ k. replicate k blank) fewer)

-- a copy at one go: the first items in the place of the first blanks
pub copied_front : {X : Type 0} (n : ℕ) (blank : X) (xs front : List X) (i : ℕ) → i ≡ min (length xs) n → front ≡ take i xs
    → front ++ drop i (replicate n blank) ≡ held n blank xs
copied_front n blank xs front i end same =
    copied_all n blank xs _ i end (ap (λ zs. zs ++ drop i (replicate n blank)) same ∙ ap (λ k. take i xs ++ drop k (replicate n blank)) (sym (zero-add i)))

-- an array that holds a whole list begins with it
pub held_front : {X : Type 0} (n : ℕ) (blank : X) (xs ys : List X) → length xs ≤ n → ys ≡ held n blank xs → take (length xs) ys ≡ xs
held_front n blank xs ys fits same =
    ap (take (length xs)) (same ∙ ap (λ zs. zs ++ replicate (n - length xs) blank) (take_all n xs fits))
    ∙ take_at xs (replicate (n - length xs) blank) (length xs) (let r : length xs ≡ length xs = omega arith in r)
