-- A set gathered from a list, and a puzzle whose goal it is. Assumes nothing.
use Rattle.std.proofs.Common.{◌≡◌, ℕ, ◌+◌, ◌<◌, ◌≤◌, Bool, true, false, not, ◌||◌, eqb, ltb, List, [], ◌∷◌, ◌++◌, length, get_or, take, Option, Decides, sym, refl, ap, ◌∙◌, arith}
use mathlib.Core.Path.{fun_ext}
use Rattle.std.specs.Prelude.{position, option_map}
use Rattle.std.specs.List.{ContainsAt as Has}
use Rattle.std.proofs.ByRecursion.{all-has, All-weaker, all_has_itself}
use Rattle.std.proofs.lemmas.List.{take_more}
use Rattle.std.proofs.lemmas.Bool.Decides.{same_from_decides, nat_tests}
use Rattle.std.proofs.lemmas.Bool.{cond-false, le-ltb}
use Rattle.domain.specs.Atoms.{has, members, every}
use Rattle.domain.specs.Model.{among}
use Rattle.domain.specs.Puzzle.{puzzle, after, standing}
use Rattle.domain.specs.PuzzleMade.{first_past, goal_fault}
use Rattle.domain.specs.Moves.{slides}
use Rattle.domain.specs.Square.{stands}
use Rattle.domain.specs.declared.atoms.AtomSet.{AtomSet}
use Rattle.domain.specs.declared.puzzle.Board.{Board}
use Rattle.domain.specs.declared.refusal.Refusal.TheVariants.{Range}
use Rattle.domain.proofs.Among.{decides_among}
use Rattle.domain.proofs.Leading.{found_front, told_place}
use Rattle.domain.proofs.Members.{decides_every, decides_members}

among_push : (xs : List ℕ) (x a : ℕ) → among (xs ++ x ∷ []) a ≡ (among xs a || eqb a x)
among_push [] x a = turned
  where
    turned : (eqb x a || false) ≡ (false || eqb a x)
    turned = grind (arith, nat_tests)
among_push (y ∷ ys) x a = ap (λ (b : Bool). eqb y a || b) (among_push ys x a) ∙ regroup (eqb y a) (among ys a) (eqb a x)
  where
    regroup : (p q r : Bool) → (p || (q || r)) ≡ ((p || q) || r)
    regroup true q r = refl
    regroup false q r = refl

-- one listed atom more
pub among_more : (xs : List ℕ) (i a : ℕ) → i < length xs → (among (take i xs) a || eqb a (get_or xs i 0)) ≡ among (take (i + 1) xs) a
among_more xs i a h = sym (ap (λ (ys : List ℕ). among ys a) (take_more xs i 0 h) ∙ among_push (take i xs) (get_or xs i 0) a)

decides_listed : (p : ℕ → Bool) (xs : List ℕ) → Decides (every p xs) ((a : ℕ) → among xs a ≡ true → p a ≡ true)
decides_listed p xs = (
  λ e a h. all-has (λ x. p x ≡ true) xs a ((decides_every p xs).0 e) ((decides_among xs a).0 h),
  λ f. (decides_every p xs).1 (All-weaker (Has xs) (λ x. p x ≡ true) (λ x m. f x ((decides_among xs x).1 m)) xs (all_has_itself xs)),
)

-- what holds of each listed atom holds of each member
every_gathered : (p : ℕ → Bool) (s : AtomSet) (xs : List ℕ) → ((a : ℕ) → has s a ≡ among xs a) → every p (members s) ≡ every p xs
every_gathered p s xs e =
    let d = decides_listed p xs in
    same_from_decides (every p (members s)) (every p xs) (decides_members p s) (
      λ t a h. d.0 t a (sym (e a) ∙ h),
      λ f. d.1 (λ a h. f a (e a ∙ h)),
    )

pub same_puzzle : (start : Board) (s : AtomSet) (goal : List ℕ) → ((a : ℕ) → has s a ≡ among goal a) → puzzle start (members s) ≡ puzzle start goal
same_puzzle start s goal e =
    ap
    (λ (f : Board → Bool). record {
      atoms = 81;
      actions = 4;
      start = start;
      truths = λ b. standing b.cells;
      target = f;
      applies = λ b a. slides b.cells a;
      next = after;
    })
    (fun_ext (λ b. every_gathered (stands b.cells) s goal e))

-- what is wrong with at most nine goal atoms, by the first that is past 80
pub goal_told : (goal : List ℕ) (o : Option ℕ) → length goal ≤ 9 → o ≡ position (λ a. not (ltb a 81)) goal → goal_fault goal ≡ option_map Range o
goal_told goal o few e =
    cond-false (ltb 9 (length goal)) _ _ (le-ltb 9 (length goal) few)
    ∙ told_place (ltb (first_past goal) (length goal)) (first_past goal) o (e ∙ found_front (λ a. ltb a 81) goal)
