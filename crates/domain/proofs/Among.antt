-- A number in a list of atoms: by membership where the list is a set's, and never at or past a bound of the list. Assumes nothing.
use Rattle.std.proofs.Common.{◌≡◌, ℕ, ◌<◌, ◌≤◌, false, eqb, List, [], ◌∷◌, Decides, refl, arith}
use Rattle.std.specs.List.{ContainsAt as Has, AllByRecursion}
use Rattle.std.proofs.lemmas.Bool.{ne_eqb, or_from}
use Rattle.std.proofs.lemmas.Bool.Decides.{Decides-by_or, Decides-eqb, same_from_decides}
use Rattle.domain.specs.Atoms.{has, members}
use Rattle.domain.specs.Model.{among, Meaning, Lawful}
use Rattle.domain.specs.declared.atoms.AtomSet.{AtomSet}
use Rattle.domain.proofs.Members.{listed_from_has, has_from_listed}

pub decides_among : (xs : List ℕ) (a : ℕ) → Decides (among xs a) (Has xs a)
decides_among xs a = Decides-by_or (λ x. eqb x a) (λ x. x ≡ a) (λ ys. among ys a) (λ x. Decides-eqb x a) refl (λ _ _. refl) xs

pub among_members : (s : AtomSet) (a : ℕ) → among (members s) a ≡ has s a
among_members s a =
    same_from_decides (among (members s) a) (has s a) (decides_among (members s) a) (listed_from_has s a, has_from_listed s a)

pub among_past : (xs : List ℕ) (n a : ℕ) → AllByRecursion (λ x. x < n) xs → n ≤ a → among xs a ≡ false
among_past [] n a h l = refl
among_past (x ∷ xs) n a h l = or_from (eqb x a) (among xs a) (ne_eqb x a (λ e. omega (arith, h.0))) (among_past xs n a h.1 l)

-- in a lawful model a number at or past the count of atoms is true nowhere
pub lawful_past : {S : Type 0} (P : Meaning S) → Lawful P → (s : S) (a : ℕ) → P.atoms ≤ a → among (P.truths s) a ≡ false
lawful_past P laws s a h = among_past (P.truths s) P.atoms a (laws.below s) h
