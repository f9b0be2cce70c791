-- A fault of a line names that line. Assumes nothing.
use Rattle.std.proofs.Common.{◌≡◌, ℕ, Bool, true, false, cond, eqb, ltb, List, [], ◌∷◌, Some, None, Ok, Err, Option, Result, refl}
use Rattle.std.specs.Str.{bytes_eq}
use Rattle.sketch.specs.Entry.{condition_named, effect_named}
use Rattle.sketch.specs.Kind.{kind_named}
use Rattle.problem.specs.Form.{and_then, of_line, number_at, numbers, lettered, twice_lettered}
use Rattle.problem.specs.Laws.{line_of}
use Rattle.problem.specs.Lines.{fields, three, four, preceded}
use Rattle.problem.specs.Numeral.{numeral, judged, flaw_of, letter}
use Rattle.problem.specs.Reader.{names_of, closed, valued, inside, step, step_by}
use Rattle.problem.specs.Role.{role_named}
use Rattle.problem.specs.Rows.{truth, meant, checked_entry, second_kind, atom_row, action_row, feature_row, rule_row}
use Rattle.problem.specs.Tables.{feature_count, both_named}
use Rattle.problem.specs.declared.fault.LineFault.{LineFault}
use Rattle.problem.specs.declared.fault.NumberFlaw.{NumberFlaw}
use Rattle.problem.specs.declared.fault.Table.{Table}
use Rattle.problem.specs.declared.fault.Table.TheVariants.{Atoms, Actions, Features, Rules}
use Rattle.problem.specs.declared.reader.Reader.{Reader}
use Rattle.problem.specs.declared.reader.Wanted.{Wanted}
use Rattle.problem.specs.declared.reader.Wanted.TheVariants.{TheNames, Values, Nothing}

-- a fault, if there is one, is of the line n
abbrev pub At : {X : Type 0} → ℕ → Result X LineFault → Type 0
At n (Ok x) = Unit {0}
At n (Err e) = line_of e ≡ n

module _ (n : ℕ) where
  at_then : {X Y : Type 0} (r : Result X LineFault) (f : X → Result Y LineFault) → At n r → ((x : X) → At n (f x)) → At n (and_then r f)
  at_then (Ok x) f h g = g x
  at_then (Err e) f h g = h

  at_cond : {X : Type 0} (b : Bool) (r q : Result X LineFault) → At n r → At n q → At n (cond b r q)
  at_cond true r q h g = h
  at_cond false r q h g = g

at_judged : (n column v : ℕ) (o : Option NumberFlaw) → At n (of_line (judged n column v o))
at_judged n column v None = tt
at_judged n column v (Some flaw) = refl

at_number : (n column : ℕ) (bs : List ℕ) → At n (number_at n column bs)
unfolding numeral
at_number n column bs = at_judged n column _ (flaw_of bs)

at_letter : (n column : ℕ) (bs : List ℕ) → At n (letter n column bs)
at_letter n column [] = refl
at_letter n column (b ∷ []) = tt
at_letter n column (b ∷ c ∷ bs) = refl

at_three : (n : ℕ) (ps : List (List ℕ)) → At n (three n ps)
at_three n [] = refl
at_three n (p ∷ []) = refl
at_three n (p ∷ q ∷ []) = refl
at_three n (p ∷ q ∷ r ∷ []) = tt
at_three n (p ∷ q ∷ r ∷ s ∷ ss) = refl

at_four : (n : ℕ) (ps : List (List ℕ)) → At n (four n ps)
at_four n [] = refl
at_four n (p ∷ ps) = by_rest (three n ps) (at_three n ps)
  where
    by_rest : (r : Result (List ℕ × List ℕ × List ℕ) LineFault) → At n r → At n (preceded p r)
    by_rest (Ok t) h = tt
    by_rest (Err e) h = h

at_numbers : (n : ℕ) (bs : List ℕ) → At n (numbers n bs)
unfolding numbers
at_numbers n bs =
    at_then n (three n (fields bs)) _ (at_three n (fields bs)) λ t.
    at_then n (number_at n 1 t.0) _ (at_number n 1 t.0) λ u.
    at_then n (number_at n 2 t.1) _ (at_number n 2 t.1) λ v.
    at_then n (number_at n 3 t.2) _ (at_number n 3 t.2) λ w. tt

at_lettered : (n : ℕ) (bs : List ℕ) → At n (lettered n bs)
unfolding lettered
at_lettered n bs =
    at_then n (three n (fields bs)) _ (at_three n (fields bs)) λ t.
    at_then n (number_at n 1 t.0) _ (at_number n 1 t.0) λ u.
    at_then n (letter n 2 t.1) _ (at_letter n 2 t.1) λ c.
    at_then n (number_at n 3 t.2) _ (at_number n 3 t.2) λ v. tt

at_twice : (n : ℕ) (bs : List ℕ) → At n (twice_lettered n bs)
unfolding twice_lettered
at_twice n bs =
    at_then n (four n (fields bs)) _ (at_four n (fields bs)) λ t.
    at_then n (number_at n 1 t.0) _ (at_number n 1 t.0) λ u.
    at_then n (number_at n 2 t.1) _ (at_number n 2 t.1) λ v.
    at_then n (letter n 3 t.2) _ (at_letter n 3 t.2) λ c.
    at_then n (letter n 4 t.3) _ (at_letter n 4 t.3) λ d. tt

at_truth : (n column v : ℕ) → At n (truth n column v)
at_truth n column v = at_cond n (eqb v 0) _ _ tt (at_cond n (eqb v 1) _ _ tt refl)

at_meant : {X : Type 0} (n column : ℕ) (o : Option X) → At n (meant n column o)
at_meant n column None = refl
at_meant n column (Some x) = tt

at_entry : (n c d : ℕ) → At n (checked_entry n c d)
at_entry n c d =
    at_then n (meant n 3 (condition_named c)) _ (at_meant n 3 (condition_named c)) λ when.
    at_then n (meant n 4 (effect_named d)) _ (at_meant n 4 (effect_named d)) λ then. tt

at_valued : (s : Reader) (table : Table) (n : ℕ) (bs : List ℕ) → At n (valued s table n bs)
unfolding atom_row action_row feature_row rule_row
at_valued s Atoms n bs =
    at_then n (atom_row s.atoms.count n bs) _ (at_then n (numbers n bs) _ (at_numbers n bs) λ t.
    at_cond n (eqb t.0 s.atoms.count) _ _
    (at_then n (truth n 2 t.1) _ (at_truth n 2 t.1) λ u. at_then n (truth n 3 t.2) _ (at_truth n 3 t.2) λ v. at_cond n (ltb s.atoms.count 256) _ _ tt refl) refl)
    λ row. tt
at_valued s Actions n bs =
    at_then n (action_row s.atoms.count s.limit n bs) _ (at_then n (lettered n bs) _ (at_lettered n bs) λ t.
    at_then n (meant n 2 (role_named t.1)) _ (at_meant n 2 (role_named t.1)) λ role.
    at_cond n (ltb t.2 s.atoms.count) _ _ (at_cond n (ltb t.0 s.limit) _ _ tt refl) refl)
    λ row. tt
at_valued s Features n bs =
    at_then n (feature_row s.atoms.count s.features n bs) _ (at_then n (lettered n bs) _ (at_lettered n bs) λ t.
    at_cond n (second_kind s.features t.0 (kind_named t.1)) _ _ refl
    (at_then n (meant n 2 (kind_named t.1)) _ (at_meant n 2 (kind_named t.1)) λ kind.
    at_cond n (ltb t.2 s.atoms.count) _ _ (at_cond n (ltb t.0 8) _ _ tt refl) refl))
    λ row. tt
at_valued s Rules n bs =
    at_then n (rule_row (feature_count s.features) s.rules n bs) _ (at_then n (twice_lettered n bs) _ (at_twice n bs) λ t.
    at_cond n (both_named s.rules t.0 t.1) _ _ refl
    (at_cond n (ltb t.1 (feature_count s.features)) _ _
    (at_then n (checked_entry n t.2 t.3) _ (at_entry n t.2 t.3) λ entry. at_cond n (ltb t.0 16) _ _ tt refl) refl))
    λ row. tt

at_closed : (s : Reader) (table : Table) (n : ℕ) → At n (closed s table n)
at_closed s Atoms n = at_cond n (eqb s.atoms.count 0) _ _ refl tt
at_closed s Actions n = tt
at_closed s Features n = tt
at_closed s Rules n = tt

at_inside : (s : Reader) (table : Table) (n : ℕ) (bs : List ℕ) → At n (inside s table n bs)
at_inside s table n [] = at_closed s table n
at_inside s table n (b ∷ bs) = at_valued s table n (b ∷ bs)

at_by : (w : Wanted) (s : Reader) (n : ℕ) (bs : List ℕ) → At n (step_by w s n bs)
at_by (TheNames table) s n bs = at_cond n (bytes_eq bs (names_of table)) _ _ tt refl
at_by (Values table) s n bs = at_inside s table n bs
at_by Nothing s n bs = refl

pub at_step : (s : Reader) (n : ℕ) (bs : List ℕ) → At n (step s n bs)
unfolding step
at_step s n bs = at_by s.wanted s n bs
