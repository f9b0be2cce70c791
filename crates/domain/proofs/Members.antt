-- The list of members against membership. Assumes nothing.
use Rattle.std.proofs.Common.{◌≡◌, ℕ, zero, suc, ◌+◌, ◌-◌, ◌<◌, ◌≤◌, Bool, true, false, cond, not, ◌&&◌, eqb, ltb, List, [], ◌∷◌, ◌++◌, Decides, filter, sym, refl, ap, ◌∙◌, subst, ap₂, ⊎_elim, add-zero, add-suc, add-one, arith}
use mathlib.Core.Path.{fun_ext}
use Rattle.std.specs.List.{ContainsAt as Has, AllByRecursion}
use Rattle.std.proofs.ByRecursion.{all-has, kept_by_passes, has_append_left, has_push, all_has_itself, All-weaker, Decides-by_and}
use Rattle.std.proofs.lemmas.List.{append-nil}
use Rattle.std.proofs.lemmas.Bool.{cases_lt, cases_eq, both_ways, eq-eqb, ne_eqb, ltb-true, lt-ltb, le-ltb, cond-true, cond-false, and_parts, and_left, and_right}
use Rattle.std.proofs.lemmas.Bool.Decides.{Decides-like, nat_tests}
use Rattle.domain.specs.Atoms.{has, upto, members, members_from, limited, every, within, NoneFrom, FirstFrom}
use Rattle.domain.specs.Listed.{kept_upto_suc}
pub use Rattle.domain.specs.Listed.{members_rising, limited_below}
use Rattle.domain.specs.Operators.{fits}
use Rattle.domain.specs.declared.atoms.AtomSet.{AtomSet}
use Rattle.domain.proofs.Bit.{and_yes}
use Rattle.domain.proofs.Sets.{has_limited}

kept_has : (p : ℕ → Bool) (n a : ℕ) → a < n → p a ≡ true → Has (filter p (upto n)) a
kept_has p zero a h e = absurd (omega arith)
kept_has p (suc n) a h e =
    subst (λ (xs : List ℕ). Has xs a) (sym (kept_upto_suc p n))
    (⊎_elim
    (λ q. subst (λ (xs : List ℕ). Has (filter p (upto n) ++ xs) a) (sym (cond-true (p n) (n ∷ []) [] (ap p (sym q) ∙ e)))
    (subst (λ (x : ℕ). Has (filter p (upto n) ++ x ∷ []) a) q (has_push (filter p (upto n)) a)))
    (λ q. has_append_left (filter p (upto n)) (cond (p n) (n ∷ []) []) a (kept_has p n a (omega arith) e))
    (cases_eq a n))

pub has_below : (s : AtomSet) (a : ℕ) → has s a ≡ true → a < 256
has_below s a h = ltb-true a 256 (and_parts (ltb a 256) _ h).0

pub listed_from_has : (s : AtomSet) (a : ℕ) → has s a ≡ true → Has (members s) a
unfolding members
listed_from_has s a h = kept_has (has s) 256 a (has_below s a h) h

pub has_from_listed : (s : AtomSet) (a : ℕ) → Has (members s) a → has s a ≡ true
unfolding members
has_from_listed s a h = all-has (λ x. has s x ≡ true) (members s) a (kept_by_passes (has s) (upto 256)) h

-- no number from m up to n passes: none is kept there
kept_none : (p : ℕ → Bool) (m d : ℕ) → ((b : ℕ) → m ≤ b → b < m + d → p b ≡ false) → filter p (upto (m + d)) ≡ filter p (upto m)
kept_none p m zero none = ap (λ (k : ℕ). filter p (upto k)) (add-zero m)
kept_none p m (suc d) none =
    ap (λ (k : ℕ). filter p (upto k)) (add-suc m d) ∙ kept_upto_suc p (m + d)
    ∙ ap (λ (ys : List ℕ). filter p (upto (m + d)) ++ ys) (cond-false (p (m + d)) ((m + d) ∷ []) [] (none (m + d) (omega arith) (omega arith)))
    ∙ append-nil (filter p (upto (m + d))) ∙ kept_none p m d (λ b h l. none b h (omega arith))

pub kept_up_to : (p : ℕ → Bool) (m n : ℕ) → m ≤ n → ((b : ℕ) → m ≤ b → b < n → p b ≡ false) → filter p (upto n) ≡ filter p (upto m)
kept_up_to p m n h none =
    let e : n ≡ m + (n - m) = omega arith in
    ap (λ (k : ℕ). filter p (upto k)) e ∙ kept_none p m (n - m) (λ b l k. none b l (omega arith))

-- the members below m and the lowest at or past m are the members up to that one
pub kept_to_first : (s : AtomSet) (m a : ℕ) → FirstFrom s m a → filter (has s) (upto (a + 1)) ≡ filter (has s) (upto m) ++ a ∷ []
kept_to_first s m a first =
    ap (λ (k : ℕ). filter (has s) (upto k)) (add-one a) ∙ kept_upto_suc (has s) a
    ∙ ap₂ ◌++◌ (kept_up_to (has s) m a first.0 first.2) (cond-true (has s a) (a ∷ []) [] first.1)

-- where no member is at or past m, the members are those below m
pub members_up_to : (s : AtomSet) (m : ℕ) → m ≤ 256 → NoneFrom s m → members s ≡ filter (has s) (upto m)
unfolding members
members_up_to s m h none = kept_up_to (has s) m 256 h (λ b l _. none b l)

-- the lowest number that passes comes first, and then those that pass besides
first_kept : (p q : ℕ → Bool) (a : ℕ) → p a ≡ true → ((b : ℕ) → b < a → p b ≡ false) → ((b : ℕ) → q b ≡ (p b && not (eqb b a))) → (n : ℕ) → a < n
    → filter p (upto n) ≡ a ∷ filter q (upto n)
first_kept p q a here before same zero h = absurd (omega arith)
first_kept p q a here before same (suc m) h = ⊎_elim last (λ ne. later ne (first_kept p q a here before same m (omega arith))) (cases_eq a m)
  where
    others : (b : ℕ) → (b ≡ a → ⊥) → q b ≡ p b
    others b ne = same b ∙ and_yes (p b) (not (eqb b a)) (ap not (ne_eqb b a ne))

    itself : q a ≡ false
    itself = same a ∙ and_right (p a) (not (eqb a a)) (ap not (eq-eqb a a refl))

    last : a ≡ m → filter p (upto (suc m)) ≡ a ∷ filter q (upto (suc m))
    last e =
        kept_upto_suc p m
        ∙ ap₂ ◌++◌ (kept_up_to p 0 m (omega arith) (λ b _ l. before b (omega arith))) (cond-true (p m) (m ∷ []) [] (ap p (sym e) ∙ here))
        ∙ ap (λ (k : ℕ). k ∷ []) (sym e)
        ∙ ap (λ (ys : List ℕ). a ∷ ys)
        (sym (kept_upto_suc q m
        ∙ ap₂ ◌++◌ (kept_up_to q 0 m (omega arith) (λ b _ l. others b (λ f. omega arith) ∙ before b (omega arith))) (cond-false (q m) (m ∷ []) [] (ap q (sym e) ∙ itself))))

    later : (a ≡ m → ⊥) → filter p (upto m) ≡ a ∷ filter q (upto m) → filter p (upto (suc m)) ≡ a ∷ filter q (upto (suc m))
    later ne rest =
        kept_upto_suc p m
        ∙ ap₂ (λ (xs : List ℕ) (b : Bool). xs ++ cond b (m ∷ []) []) rest (sym (others m (λ e. ne (sym e))))
        ∙ ap (λ (ys : List ℕ). a ∷ ys) (sym (kept_upto_suc q m))

-- the lowest member comes first, and then the others
pub members_first : (s t : AtomSet) (a : ℕ) → FirstFrom s 0 a → ((b : ℕ) → has t b ≡ (has s b && not (eqb b a))) → members s ≡ a ∷ members t
unfolding members
members_first s t a first same =
    first_kept (has s) (has t) a first.1 (λ b l. first.2 b (omega arith) l) same 256 (has_below s a first.1)

pub no_members : (s : AtomSet) → NoneFrom s 0 → members s ≡ []
unfolding members
no_members s none = kept_up_to (has s) 0 256 (omega arith) (λ b l _. none b l)

-- none is below 0
pub members_from_0 : (s : AtomSet) → members_from s 0 ≡ members s
unfolding members members_from
members_from_0 s = ap (λ (p : ℕ → Bool). filter p (upto 256)) (fun_ext (λ a. and_yes (has s a) (not (ltb a 0)) (ap not (le-ltb a 0 (omega arith)))))

-- the lowest member at or past `from` comes first, and then those past it
pub members_from_first : (s : AtomSet) (from a : ℕ) → FirstFrom s from a → members_from s from ≡ a ∷ members_from s (a + 1)
unfolding members_from
members_from_first s from a first =
    first_kept (λ b. has s b && not (ltb b from)) (λ b. has s b && not (ltb b (a + 1))) a
    (and_yes (has s a) (not (ltb a from)) (ap not (le-ltb a from first.0)) ∙ first.1)
    (λ b l. before b l)
    (λ b. same (has s b) b (first.2 b))
    256 (has_below s a first.1)
  where
    before : (b : ℕ) → b < a → (has s b && not (ltb b from)) ≡ false
    before b l =
        ⊎_elim (λ h. and_right (has s b) (not (ltb b from)) (ap not (lt-ltb b from h)))
        (λ h. and_left (has s b) (not (ltb b from)) (first.2 b h l)) (cases_lt b from)

    tests : (b : ℕ) → from ≤ a → (from ≤ b → b < a → ⊥) → not (ltb b (a + 1)) ≡ (not (ltb b from) && not (eqb b a))
    tests b h none = grind (arith, nat_tests)

    same : (x : Bool) (b : ℕ) → (from ≤ b → b < a → x ≡ false) → (x && not (ltb b (a + 1))) ≡ ((x && not (ltb b from)) && not (eqb b a))
    same true b none = tests b first.0 (λ h l. both_ways true (none h l) refl)
    same false b none = refl

pub no_members_from : (s : AtomSet) (from : ℕ) → NoneFrom s from → members_from s from ≡ []
unfolding members_from
no_members_from s from none =
    kept_up_to (λ b. has s b && not (ltb b from)) 0 256 (omega arith)
    (λ b _ _. ⊎_elim (λ h. and_right (has s b) (not (ltb b from)) (ap not (lt-ltb b from h)))
    (λ h. and_left (has s b) (not (ltb b from)) (none b h)) (cases_lt b from))

kept_twice : {X : Type 0} (p q : X → Bool) (xs : List X) → filter (λ x. p x && q x) xs ≡ filter q (filter p xs)
kept_twice p q [] = refl
kept_twice p q (x ∷ xs) =
    ap (λ ys. cond (p x && q x) (x ∷ ys) ys) (kept_twice p q xs) ∙ by_case (p x)
  where
    by_case : (b : Bool) → cond (b && q x) (x ∷ filter q (filter p xs)) (filter q (filter p xs)) ≡ filter q (cond b (x ∷ filter p xs) (filter p xs))
    by_case true = refl
    by_case false = refl

pub members_limited : (s : AtomSet) (n : ℕ) → members (limited s n) ≡ filter (λ a. ltb a n) (members s)
unfolding members
members_limited s n =
    ap (λ (p : ℕ → Bool). filter p (upto 256)) (fun_ext (has_limited s n)) ∙ kept_twice (has s) (λ a. ltb a n) (upto 256)

-- `every` says that all pass
pub decides_every : {X : Type 0} (p : X → Bool) (xs : List X) → Decides (every p xs) (AllByRecursion (λ x. p x ≡ true) xs)
decides_every p = Decides-by_and p (λ x. p x ≡ true) (every p) (λ x. (λ e. e, λ e. e)) refl (λ _ _. refl)

pub decides_members : (p : ℕ → Bool) (s : AtomSet) → Decides (every p (members s)) ((a : ℕ) → has s a ≡ true → p a ≡ true)
decides_members p s = (
  λ e a h. all-has (λ x. p x ≡ true) (members s) a ((decides_every p (members s)).0 e) (listed_from_has s a h),
  λ f. (decides_every p (members s)).1
      (All-weaker (Has (members s)) (λ x. p x ≡ true) (λ x m. f x (has_from_listed s x m)) (members s) (all_has_itself (members s))),
)

-- `within` says that each member of one is a member of the other
pub decides_within : (s t : AtomSet) → Decides (within s t) ((a : ℕ) → has s a ≡ true → has t a ≡ true)
decides_within s t = decides_members (has t) s

-- `fits` says that each member is below n
pub decides_fits : (n : ℕ) (s : AtomSet) → Decides (fits n s) ((a : ℕ) → has s a ≡ true → a < n)
decides_fits n s =
    Decides-like (fits n s) (λ f a h. ltb-true a n (f a h)) (λ f a h. lt-ltb a n (f a h)) (decides_members (λ a. ltb a n) s)

-- a set of atoms below n is within the members below n just where it is within all
pub within_limited : (n : ℕ) (s t : AtomSet) → fits n s ≡ true → within s (limited t n) ≡ within s t
within_limited n s t e = go (members s) ((decides_every (λ a. ltb a n) (members s)).0 e)
  where
    go : (xs : List ℕ) → AllByRecursion (λ a. ltb a n ≡ true) xs → every (has (limited t n)) xs ≡ every (has t) xs
    go [] h = refl
    go (x ∷ xs) h = ap₂ ◌&&◌ (has_limited t n x ∙ and_yes (has t x) (ltb x n) h.0) (go xs h.1)
