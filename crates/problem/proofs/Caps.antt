-- A number past the machine's largest is past every limit, so that a line means the same with the largest in its place.
-- Assumes nothing.
use Rattle.std.proofs.Common.{◌≡◌, ℕ, ◌≤◌, false, cond, ◌&&◌, eqb, ltb, List, Some, None, Ok, Err, Option, Result, sym, refl, ap, ◌∙◌, ⊎_elim, arith}
use Rattle.std.proofs.lemmas.Bool.{cases_lt, le-ltb, ne_eqb}
use Rattle.sketch.specs.Kind.{kind_named}
use Rattle.sketch.specs.declared.feature.Kind.{Kind}
use Rattle.sketch.specs.declared.rule.Entry.{Entry}
use Rattle.problem.specs.Form.{and_then, good_by, number_at, three_values, four_values, numbers, lettered, twice_lettered, capped_at, capped_numbers, capped_lettered, capped_twice}
use Rattle.problem.specs.Lines.{fields, three, four}
use Rattle.problem.specs.Numeral.{letter, capped}
use Rattle.problem.specs.Role.{role_named}
use Rattle.problem.specs.Rows.{truth, meant, checked_atom, checked_action, second_kind, checked_feature, checked_entry, checked_rule}
use Rattle.problem.specs.Tables.{both_named}
use Rattle.problem.specs.declared.fault.LineFault.{LineFault}
use Rattle.problem.specs.declared.fault.LineFault.TheVariants.{AtomOrder, SecondKind, NamedTwice, Truth, NoSuchAtom, NoSuchFeature, Full}
use Rattle.problem.specs.declared.fault.Table.TheVariants.{Actions, Features, Rules}
use Rattle.problem.specs.declared.tables.FeatureTable.{FeatureTable}
use Rattle.problem.specs.declared.tables.RuleRow.{RuleRow}
use Rattle.problem.specs.declared.tables.RuleTable.{RuleTable}
use Rattle.problem.proofs.Goods.{good_ok, good_err}

-- what is the same for all numbers past the largest
settled : {Z : Type 0} (f : ℕ → Z) (z : Z) → ((v : ℕ) → 1025 ≤ v → f v ≡ z) → (v : ℕ) → f (capped v) ≡ f v
settled f z past v =
    ⊎_elim
    (λ h. let e : capped v ≡ v = omega arith in ap f e)
    (λ h. past (capped v) (omega arith) ∙ sym (past v (omega arith)))
    (cases_lt v 1025)

truth_past : (n column v : ℕ) → 1025 ≤ v → truth n column v ≡ Err (Truth n column)
truth_past n column v h =
    let zero : eqb v 0 ≡ false = ne_eqb v 0 (λ e. omega arith) in
    let one : eqb v 1 ≡ false = ne_eqb v 1 (λ e. omega arith) in
    simp (zero, one)

pub atom_capped : (next n : ℕ) → next ≤ 256 → (t : ℕ × ℕ × ℕ) → checked_atom next n (capped_numbers t) ≡ checked_atom next n t
atom_capped next n few t =
    settled (λ u. checked_atom next n (u, capped t.1, capped t.2)) (Err (AtomOrder n)) first t.0
    ∙ settled (λ v. checked_atom next n (t.0, v, capped t.2)) (cond (eqb t.0 next) (Err (Truth n 2)) (Err (AtomOrder n))) second t.1
    ∙ settled (λ w. checked_atom next n (t.0, t.1, w)) (cond (eqb t.0 next) (and_then (truth n 2 t.1) λ s. Err (Truth n 3)) (Err (AtomOrder n))) third t.2
  where
    first : (u : ℕ) → 1025 ≤ u → checked_atom next n (u, capped t.1, capped t.2) ≡ Err (AtomOrder n)
    first u h = let other : eqb u next ≡ false = ne_eqb u next (λ e. omega arith) in simp other

    second : (v : ℕ) → 1025 ≤ v → checked_atom next n (t.0, v, capped t.2) ≡ cond (eqb t.0 next) (Err (Truth n 2)) (Err (AtomOrder n))
    second v h = simp (truth_past n 2 v h)

    third : (w : ℕ) → 1025 ≤ w → checked_atom next n (t.0, t.1, w) ≡ cond (eqb t.0 next) (and_then (truth n 2 t.1) λ s. Err (Truth n 3)) (Err (AtomOrder n))
    third w h = simp (truth_past n 3 w h)

-- an action or a feature, with its letter's meaning x: the first number has a limit, the last is an atom
abbrev limited_row : {X Y : Type 0} → (ℕ → X → ℕ → Y) → ℕ → ℕ → LineFault → LineFault → ℕ → ℕ → X → Result Y LineFault
limited_row row atoms limit many past u v x = cond (ltb v atoms) (cond (ltb u limit) (Ok (row u x v)) (Err many)) (Err past)

limited_capped : {X Y : Type 0} (row : ℕ → X → ℕ → Y) (atoms limit : ℕ) (many past : LineFault) → atoms ≤ 256 → limit ≤ 1024 → (u v : ℕ) (r : Result X LineFault)
    → and_then r (limited_row row atoms limit many past (capped u) (capped v)) ≡ and_then r (limited_row row atoms limit many past u v)
limited_capped row atoms limit many past few size u v (Err e) = refl
limited_capped row atoms limit many past few size u v (Ok x) =
    settled (λ w. limited_row row atoms limit many past (capped u) w x) (Err past) (λ w h. ap (λ b. cond b (cond (ltb (capped u) limit) (Ok (row (capped u) x w)) (Err many)) (Err past)) (le-ltb w atoms (omega arith))) v
    ∙ settled (λ w. limited_row row atoms limit many past w v x) (cond (ltb v atoms) (Err many) (Err past)) (λ w h. ap (λ b. cond (ltb v atoms) (cond b (Ok (row w x v)) (Err many)) (Err past)) (le-ltb w limit (omega arith))) u

pub action_capped : (atoms limit n : ℕ) → atoms ≤ 256 → limit ≤ 1024 → (t : ℕ × ℕ × ℕ) → checked_action atoms limit n (capped_lettered t) ≡ checked_action atoms limit n t
action_capped atoms limit n few size t =
    limited_capped (λ u role v. record { action = u; role = role; atom = v }) atoms limit (Full n Actions) (NoSuchAtom n) few size t.0 t.2 (meant n 2 (role_named t.1))

kind_capped : (table : FeatureTable) (kind : Option Kind) (u : ℕ) → second_kind table (capped u) kind ≡ second_kind table u kind
kind_capped table None u = refl
kind_capped table (Some kind) u = settled (λ f. second_kind table f (Some kind)) false (λ f h. simp (le-ltb f 8 (omega arith))) u

pub feature_capped : (atoms : ℕ) (table : FeatureTable) (n : ℕ) → atoms ≤ 256 → (t : ℕ × ℕ × ℕ) → checked_feature atoms table n (capped_lettered t) ≡ checked_feature atoms table n t
feature_capped atoms table n few t =
    (λ i. cond (kind_capped table (kind_named t.1) t.0 i) (Err (SecondKind n))
    (limited_capped (λ u kind v. record { feature = u; kind = kind; atom = v }) atoms 8 (Full n Features) (NoSuchAtom n) few (omega arith) t.0 t.2 (meant n 2 (kind_named t.1)) i))

both_capped : (table : RuleTable) (u v : ℕ) → both_named table (capped u) (capped v) ≡ both_named table u v
both_capped table u v =
    settled (λ r. both_named table r (capped v)) false (λ r h. simp (le-ltb r 16 (omega arith))) u
    ∙ settled (λ f. both_named table u f) (ltb u 16 && false) (λ f h. simp (le-ltb f 8 (omega arith))) v

-- a rule with its entry
abbrev ruled : ℕ → ℕ → ℕ → ℕ → Result Entry LineFault → Result RuleRow LineFault
ruled features n u v r =
    cond (ltb v features) (and_then r λ entry. cond (ltb u 16) (Ok (record { rule = u; feature = v; entry = entry })) (Err (Full n Rules))) (Err (NoSuchFeature n))

ruled_capped : (features n : ℕ) → features ≤ 8 → (u v : ℕ) (r : Result Entry LineFault) → ruled features n (capped u) (capped v) r ≡ ruled features n u v r
ruled_capped features n few u v (Err e) =
    ap (λ b. cond b (Err e) (Err (NoSuchFeature n))) (settled (λ w. ltb w features) false (λ w h. le-ltb w features (omega arith)) v)
ruled_capped features n few u v (Ok entry) =
    settled (λ w. ruled features n (capped u) w (Ok entry)) (Err (NoSuchFeature n)) (λ w h. simp (le-ltb w features (omega arith))) v
    ∙ settled (λ w. ruled features n w v (Ok entry)) (cond (ltb v features) (Err (Full n Rules)) (Err (NoSuchFeature n))) (λ w h. simp (le-ltb w 16 (omega arith))) u

pub rule_capped : (features : ℕ) (table : RuleTable) (n : ℕ) → features ≤ 8 → (t : ℕ × ℕ × ℕ × ℕ) → checked_rule features table n (capped_twice t) ≡ checked_rule features table n t
rule_capped features table n few t =
    λ i. cond (both_capped table t.0 t.1 i) (Err (NamedTwice n)) (ruled_capped features n few t.0 t.1 (checked_entry n t.2 t.3) i)

-- the values of a line as a machine holds them
then_by : {X X' Y Y' E : Type 0} (p : X → X') (q : Y → Y') (r : Result X E) (f : X → Result Y E) (g : X' → Result Y' E) → ((x : X) → g (p x) ≡ good_by q (f x))
    → and_then (good_by p r) g ≡ good_by q (and_then r f)
then_by p q (Ok x) f g h = h x
then_by p q (Err e) f g h = refl

then_same : {X Y Y' E : Type 0} (q : Y → Y') (r : Result X E) (f : X → Result Y E) (g : X → Result Y' E) → ((x : X) → g x ≡ good_by q (f x)) → and_then r g ≡ good_by q (and_then r f)
then_same q (Ok x) f g h = h x
then_same q (Err e) f g h = refl

pub numbers_capped : (n : ℕ) (bs : List ℕ) → three_values capped_at capped_at capped_at n bs ≡ good_by capped_numbers (numbers n bs)
unfolding numbers
numbers_capped n bs =
    then_same capped_numbers (three n (fields bs)) _ _ λ t.
    then_by capped capped_numbers (number_at n 1 t.0) _ _ λ u.
    then_by capped capped_numbers (number_at n 2 t.1) _ _ λ v.
    then_by capped capped_numbers (number_at n 3 t.2) _ _ λ w. refl

pub lettered_capped : (n : ℕ) (bs : List ℕ) → three_values capped_at letter capped_at n bs ≡ good_by capped_lettered (lettered n bs)
unfolding lettered
lettered_capped n bs =
    then_same capped_lettered (three n (fields bs)) _ _ λ t.
    then_by capped capped_lettered (number_at n 1 t.0) _ _ λ u.
    then_same capped_lettered (letter n 2 t.1) _ _ λ c.
    then_by capped capped_lettered (number_at n 3 t.2) _ _ λ v. refl

pub twice_capped : (n : ℕ) (bs : List ℕ) → four_values capped_at capped_at letter letter n bs ≡ good_by capped_twice (twice_lettered n bs)
unfolding twice_lettered
twice_capped n bs =
    then_same capped_twice (four n (fields bs)) _ _ λ t.
    then_by capped capped_twice (number_at n 1 t.0) _ _ λ u.
    then_by capped capped_twice (number_at n 2 t.1) _ _ λ v.
    then_same capped_twice (letter n 3 t.2) _ _ λ c.
    then_same capped_twice (letter n 4 t.3) _ _ λ d. refl

-- a line is checked after its form
pub composed : {X Y E : Type 0} (cap : X → X) (f : X → Result Y E) → ((x : X) → f (cap x) ≡ f x) → (r : Result X E) (x : X) → Ok x ≡ good_by cap r → f x ≡ and_then r f
composed cap f same r x e =
    let g = good_ok cap r x e in
    ap f g.2 ∙ same g.0 ∙ ap (λ s. and_then s f) (sym g.1)

pub composed_err : {X Y E : Type 0} (cap : X → X) (f : X → Result Y E) (r : Result X E) (d : E) → Err d ≡ good_by cap r → Err d ≡ and_then r f
composed_err cap f r d e = ap (λ s. and_then s f) (sym (good_err cap r d e))
