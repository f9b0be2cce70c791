-- The values of features: by the members of sets of atoms, and their bounds. Assumes nothing.
use Rattle.std.proofs.Common.{◌≡◌, ℕ, zero, suc, ◌<◌, ◌≤◌, min, Bool, true, false, cond, not, ◌&&◌, ltb, List, [], ◌∷◌, length, get_or, count_by, filter, sym, refl, ap, ◌∙◌, arith}
use Rattle.std.proofs.lemmas.List.{get_or-map}
use Rattle.std.proofs.lemmas.List.Sums.{length-filter, count_by-le-length}
use Rattle.std.proofs.lemmas.Bool.{false≢true}
use Rattle.domain.specs.Atoms.{has, members, none, upto}
use Rattle.domain.specs.Model.{among}
use Rattle.domain.specs.declared.atoms.AtomSet.{AtomSet}
use Rattle.domain.proofs.Among.{among_members}
use Rattle.sketch.specs.Feature.{true_count, false_count, counted, largest, value_of, top_of, kinds_of, values_of}
use Rattle.sketch.specs.Rule.{Fitting, Valid}
use Rattle.sketch.specs.Kind.{boolean}
use Rattle.sketch.proofs.Seen.{kind_read, length_kinds}
use Rattle.sketch.specs.declared.feature.Feature.{Feature}
use Rattle.sketch.specs.declared.feature.Kind.{Kind}
use Rattle.sketch.specs.declared.feature.Kind.TheVariants.{Boolean, TrueCount, FalseCount}

-- two filters after one another are one
kept_twice : (p q r : ℕ → Bool) → ((a : ℕ) → r a ≡ (p a && q a)) → (xs : List ℕ) → filter r xs ≡ filter q (filter p xs)
kept_twice p q r both [] = refl
kept_twice p q r both (x ∷ xs) = ap (λ b. cond b (x ∷ filter r xs) (filter r xs)) (both x) ∙ go (p x) (kept_twice p q r both xs)
  where
    go : (b : Bool) → filter r xs ≡ filter q (filter p xs)
        → cond (b && q x) (x ∷ filter r xs) (filter r xs) ≡ filter q (cond b (x ∷ filter p xs) (filter p xs))
    go true e = ap (λ ys. cond (q x) (x ∷ ys) ys) e
    go false e = e

-- the size of the part of s that passes q
count_part : (s r : AtomSet) (q : ℕ → Bool) → ((a : ℕ) → has r a ≡ (has s a && q a)) → length (members r) ≡ count_by q (members s)
unfolding members
count_part s r q both = ap length (kept_twice (has s) q (has r) both (upto 256)) ∙ length-filter q (filter (has s) (upto 256))

count_true : (s t r : AtomSet) → ((a : ℕ) → has r a ≡ (has s a && has t a)) → length (members r) ≡ true_count (members s) (members t)
count_true s t r both = count_part s r (among (members t)) (λ a. both a ∙ ap (λ b. has s a && b) (sym (among_members t a)))

count_false : (s t r : AtomSet) → ((a : ℕ) → has r a ≡ (has s a && not (has t a))) → length (members r) ≡ false_count (members s) (members t)
count_false s t r both = count_part s r (λ a. not (among (members t) a)) (λ a. both a ∙ ap (λ b. has s a && not b) (sym (among_members t a)))

-- a count taken as a Boolean's value
at_most_one : (n : ℕ) → min n 1 ≡ cond (ltb 0 n) 1 0
at_most_one zero = refl
at_most_one (suc n) = grind arith

counted_le : (k : Kind) (atoms truths : List ℕ) → counted k atoms truths ≤ largest k atoms
counted_le Boolean atoms truths = go (ltb 0 (true_count atoms truths))
  where
    go : (b : Bool) → cond b 1 0 ≤ 1
    go true = omega arith
    go false = omega arith
counted_le TrueCount atoms truths = count_by-le-length (among truths) atoms
counted_le FalseCount atoms truths = count_by-le-length (λ a. not (among truths a)) atoms

pub value_le_top : (f : Feature) (truths : List ℕ) → value_of f truths ≤ top_of f
value_le_top f truths = counted_le f.kind (members f.atoms) truths

-- a count by the kind of a feature is its value
is_value : (f : Feature) (k : Kind) (truths : List ℕ) (n : ℕ) → f.kind ≡ k → n ≡ counted k (members f.atoms) truths → n ≡ value_of f truths
is_value f k truths n same e = e ∙ sym (ap (λ (x : Kind). counted x (members f.atoms) truths) same)

pub value_boolean : (f : Feature) (t r : AtomSet) (m n : ℕ) → f.kind ≡ Boolean → n ≡ length (members r) → ((a : ℕ) → has r a ≡ (has f.atoms a && has t a))
    → m ≡ min n 1 → m ≡ value_of f (members t)
value_boolean f t r m n same e both low =
    is_value f Boolean (members t) m same (low ∙ ap (λ (k : ℕ). min k 1) (e ∙ count_true f.atoms t r both) ∙ at_most_one _)

pub value_true : (f : Feature) (t r : AtomSet) (n : ℕ) → f.kind ≡ TrueCount → n ≡ length (members r) → ((a : ℕ) → has r a ≡ (has f.atoms a && has t a))
    → n ≡ value_of f (members t)
value_true f t r n same e both = is_value f TrueCount (members t) n same (e ∙ count_true f.atoms t r both)

pub value_false : (f : Feature) (t r : AtomSet) (n : ℕ) → f.kind ≡ FalseCount → n ≡ length (members r) → ((a : ℕ) → has r a ≡ (has f.atoms a && not (has t a)))
    → n ≡ value_of f (members t)
value_false f t r n same e both = is_value f FalseCount (members t) n same (e ∙ count_false f.atoms t r both)

pub value_below : (f : Feature) (truths : List ℕ) (n : ℕ) → n ≡ value_of f truths → n ≤ top_of f
value_below f truths n e = omega (arith, e, value_le_top f truths)

pub value_fits : (f : Feature) (truths : List ℕ) → Fitting f.kind (value_of f truths)
value_fits f truths = go f.kind
  where
    go : (k : Kind) → boolean k ≡ true → counted k (members f.atoms) truths ≤ 1
    go Boolean b = counted_le Boolean (members f.atoms) truths
    go TrueCount b = absurd (false≢true b)
    go FalseCount b = absurd (false≢true b)

plain : Feature
plain = record { kind = Boolean; atoms = none }

pub values_valid : (fs : List Feature) (truths : List ℕ) → Valid (kinds_of fs) (values_of fs truths)
values_valid fs truths f inside b =
    let h : f < length fs = omega (arith, length_kinds fs) in
    omega (arith, get_or-map (λ x. value_of x truths) fs f plain 0 h, value_fits (get_or fs f plain) truths (ap boolean (kind_read fs f plain h) ∙ b))
