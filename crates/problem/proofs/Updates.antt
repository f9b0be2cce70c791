-- Two changes of a table commute: at different places, or where they do at one place. Assumes nothing.
use Rattle.std.proofs.Common.{◌≡◌, ℕ, zero, suc, ◌/◌, ◌%◌, ◌^◌, ◌<◌, ◌≤◌, Some, None, Option, List, [], length, get_or, set, sym, refl, ap, ◌∙◌, subst, ⊎_elim, arith}
use lib.Arith.{bin_ind}
use lib.Bits.{bit_or, or_comm, or_shr, or_mod}
use Rattle.std.proofs.lemmas.List.{get_or-set_same, get_or-set_other, set-set, set_comm, set_past}
use Rattle.std.proofs.lemmas.Bool.{cases_eq, cases_lt}
use Rattle.domain.specs.Atoms.{with_atom}
use Rattle.domain.specs.Strips.{idle}
use Rattle.domain.specs.declared.atoms.AtomSet.{AtomSet}
use Rattle.domain.specs.declared.strips.Action.{Action}
use Rattle.sketch.specs.declared.feature.Feature.{Feature}
use Rattle.problem.specs.Tables.{feature_of, with_role, action_added, feature_added, rule_added}
use Rattle.problem.specs.declared.role.Role.{Role}
use Rattle.problem.specs.declared.role.Role.TheVariants.{Precondition, Addition, Deletion}
use Rattle.problem.specs.declared.tables.ActionRow.{ActionRow}
use Rattle.problem.specs.declared.tables.FeatureRow.{FeatureRow}
use Rattle.problem.specs.declared.tables.FeatureTable.{FeatureTable}
use Rattle.problem.specs.declared.tables.RuleRow.{RuleRow}
use Rattle.problem.specs.declared.tables.RuleTable.{RuleTable}

digit_or_assoc : (x y z : ℕ) → x < 2 → y < 2 → z < 2 → bit_or (bit_or x y) z ≡ bit_or x (bit_or y z)
digit_or_assoc zero y z a b c = refl
digit_or_assoc (suc zero) zero z a b c = refl
digit_or_assoc (suc zero) (suc zero) zero a b c = refl
digit_or_assoc (suc zero) (suc zero) (suc zero) a b c = refl
digit_or_assoc (suc zero) (suc zero) (suc (suc z)) a b c = absurd (omega arith)
digit_or_assoc (suc zero) (suc (suc y)) z a b c = absurd (omega arith)
digit_or_assoc (suc (suc x)) y z a b c = absurd (omega arith)

by_digits : (a b : ℕ) → a / 2 ≡ b / 2 → a % 2 ≡ b % 2 → a ≡ b
by_digits a b high low = omega arith

-- digit by digit, from the lowest
or_assoc : (a b c : ℕ) → bit_or (bit_or a b) c ≡ bit_or a (bit_or b c)
or_assoc =
    bin_ind (λ (n : ℕ). (b c : ℕ) → bit_or (bit_or n b) c ≡ bit_or n (bit_or b c)) (λ b c. refl)
    (λ n ih b c. by_digits _ _
    (or_shr (bit_or n b) c 1 ∙ ap (λ (x : ℕ). bit_or x (c / 2)) (or_shr n b 1) ∙ ih (b / 2) (c / 2) ∙ sym (or_shr n (bit_or b c) 1 ∙ ap (bit_or (n / 2)) (or_shr b c 1)))
    (or_mod (bit_or n b) c 1 ∙ ap (λ (x : ℕ). bit_or x (c % 2)) (or_mod n b 1)
    ∙ digit_or_assoc (n % 2) (b % 2) (c % 2) (omega arith) (omega arith) (omega arith)
    ∙ sym (or_mod n (bit_or b c) 1 ∙ ap (bit_or (n % 2)) (or_mod b c 1))))

-- f of the element i in its place
abbrev changed : {X : Type 0} → X → List X → ℕ → (X → X) → List X
changed d xs i f = set xs i (f (get_or xs i d))

changed_twice : {X : Type 0} (d : X) (xs : List X) (i : ℕ) (f g : X → X) → i < length xs → changed d (changed d xs i f) i g ≡ set xs i (g (f (get_or xs i d)))
changed_twice d xs i f g h =
    ap (λ x. set (changed d xs i f) i (g x)) (get_or-set_same xs i (f (get_or xs i d)) d h) ∙ set-set xs i (f (get_or xs i d)) (g (f (get_or xs i d)))

changed_apart : {X : Type 0} (d : X) (xs : List X) (i j : ℕ) (f g : X → X) → (i ≡ j → ⊥) → changed d (changed d xs i f) j g ≡ set (set xs i (f (get_or xs i d))) j (g (get_or xs j d))
changed_apart d xs i j f g apart = ap (λ x. set (changed d xs i f) j (g x)) (get_or-set_other xs i j (f (get_or xs i d)) d (λ e. apart (sym e)))

changed_past : {X : Type 0} (d : X) (xs : List X) (i : ℕ) (f g : X → X) → length xs ≤ i → changed d (changed d xs i f) i g ≡ xs
changed_past d xs i f g h =
    let none : changed d xs i f ≡ xs = set_past xs i (f (get_or xs i d)) h in
    ap (λ ys. changed d ys i g) none ∙ set_past xs i (g (get_or xs i d)) h

pub changed_both : {X : Type 0} (d : X) (xs : List X) (i j : ℕ) (f g : X → X) → (i ≡ j → (x : X) → g (f x) ≡ f (g x)) → changed d (changed d xs i f) j g ≡ changed d (changed d xs j g) i f
changed_both d xs i j f g same =
    ⊎_elim at_one
    (λ apart. changed_apart d xs i j f g apart ∙ set_comm xs i j (f (get_or xs i d)) (g (get_or xs j d)) apart ∙ sym (changed_apart d xs j i g f (λ e. apart (sym e))))
    (cases_eq i j)
  where
    here : (x : _) → i ≡ j → g (f x) ≡ f (g x)
    here x e = same e x

    at_one : i ≡ j → changed d (changed d xs i f) j g ≡ changed d (changed d xs j g) i f
    at_one e = subst (λ k. changed d (changed d xs i f) k g ≡ changed d (changed d xs k g) i f) e
        (⊎_elim
        (λ h. changed_twice d xs i f g h ∙ ap (set xs i) (here (get_or xs i d) e) ∙ sym (changed_twice d xs i g f h))
        (λ h. changed_past d xs i f g h ∙ sym (changed_past d xs i g f h))
        (cases_lt i (length xs)))

pub with_atom_both : (s : AtomSet) (a b : ℕ) → with_atom (with_atom s a) b ≡ with_atom (with_atom s b) a
with_atom_both s a b =
    ap (λ ws. record { words = ws })
    (changed_both 0 s.words (a / 64) (b / 64) (λ w. bit_or w (2 ^ (a % 64))) (λ w. bit_or w (2 ^ (b % 64)))
    (λ e w. or_assoc w (2 ^ (a % 64)) (2 ^ (b % 64)) ∙ ap (bit_or w) (or_comm (2 ^ (a % 64)) (2 ^ (b % 64))) ∙ sym (or_assoc w (2 ^ (b % 64)) (2 ^ (a % 64)))))

with_role_both : (act : Action) (q r : Role) (a b : ℕ) → with_role (with_role act q a) r b ≡ with_role (with_role act r b) q a
with_role_both act Precondition Precondition a b = ap (λ s. record { preconditions = s; additions = act.additions; deletions = act.deletions }) (with_atom_both act.preconditions a b)
with_role_both act Precondition Addition a b = refl
with_role_both act Precondition Deletion a b = refl
with_role_both act Addition Precondition a b = refl
with_role_both act Addition Addition a b = ap (λ s. record { preconditions = act.preconditions; additions = s; deletions = act.deletions }) (with_atom_both act.additions a b)
with_role_both act Addition Deletion a b = refl
with_role_both act Deletion Precondition a b = refl
with_role_both act Deletion Addition a b = refl
with_role_both act Deletion Deletion a b = ap (λ s. record { preconditions = act.preconditions; additions = act.additions; deletions = s }) (with_atom_both act.deletions a b)

pub action_added_both : (acts : List Action) (q r : ActionRow) → action_added (action_added acts q) r ≡ action_added (action_added acts r) q
action_added_both acts q r =
    changed_both idle acts q.action r.action (λ act. with_role act q.role q.atom) (λ act. with_role act r.role r.atom)
    (λ e act. with_role_both act q.role r.role q.atom r.atom)

pub feature_added_both : (t : FeatureTable) (q r : FeatureRow) → (q.feature ≡ r.feature → q.kind ≡ r.kind) → feature_added (feature_added t q) r ≡ feature_added (feature_added t r) q
feature_added_both t q r kinds = λ i. record { features = all i }
  where
    given : FeatureRow → Option Feature → Option Feature
    given row f = Some (record { kind = row.kind; atoms = with_atom (feature_of f).atoms row.atom })

    all : (feature_added (feature_added t q) r).features ≡ (feature_added (feature_added t r) q).features
    all = changed_both None t.features q.feature r.feature (given q) (given r)
        (λ e f i. Some (record { kind = sym (kinds e) i; atoms = with_atom_both (feature_of f).atoms q.atom r.atom i }))

pub rule_added_both : (t : RuleTable) (q r : RuleRow) → (q.rule ≡ r.rule → q.feature ≡ r.feature → ⊥) → rule_added (rule_added t q) r ≡ rule_added (rule_added t r) q
rule_added_both t q r apart = λ i. record { entries = all i }
  where
    all : (rule_added (rule_added t q) r).entries ≡ (rule_added (rule_added t r) q).entries
    all = changed_both [] t.entries q.rule r.rule (λ es. set es q.feature (Some q.entry)) (λ es. set es r.feature (Some r.entry))
        (λ e es. set_comm es q.feature r.feature (Some q.entry) (Some r.entry) (apart e))
