-- A line whose columns are all good. Assumes nothing.
use Rattle.std.proofs.Common.{◌≡◌, ℕ, List, Ok}
use Rattle.problem.specs.Form.{lettered, twice_lettered}
use Rattle.problem.specs.Lines.{fields, three, four}
use Rattle.problem.specs.Numeral.{numeral, letter}

pub lettered_good : (n : ℕ) (bs p q r : List ℕ) (u c v : ℕ) → three n (fields bs) ≡ Ok (p, q, r)
    → numeral n 1 p ≡ Ok u → letter n 2 q ≡ Ok c → numeral n 3 r ≡ Ok v → lettered n bs ≡ Ok (u, c, v)
unfolding lettered
lettered_good n bs p q r u c v e e₁ e₂ e₃ = simp (e, e₁, e₂, e₃)

pub twice_lettered_good : (n : ℕ) (bs p q r s : List ℕ) (u v c d : ℕ) → four n (fields bs) ≡ Ok (p, q, r, s)
    → numeral n 1 p ≡ Ok u → numeral n 2 q ≡ Ok v → letter n 3 r ≡ Ok c → letter n 4 s ≡ Ok d → twice_lettered n bs ≡ Ok (u, v, c, d)
unfolding twice_lettered
twice_lettered_good n bs p q r s u v c d e e₁ e₂ e₃ e₄ = simp (e, e₁, e₂, e₃, e₄)
