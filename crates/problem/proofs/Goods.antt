-- What a good or a faulty result says of the one that it comes from. Assumes nothing.
use Rattle.std.proofs.Common.{◌≡◌, ℕ, Ok, Err, Result, refl, arith}
use Rattle.problem.specs.Form.{good_by}

module _ {X Y E : Type 0} (f : X → Y) where
  pub good_ok : (r : Result X E) (y : Y) → Ok y ≡ good_by f r → (x : X) × (r ≡ Ok x) × (y ≡ f x)
  good_ok (Ok x) y e = (x, refl, cc)
  good_ok (Err d) y e = absurd (let z : ◌≡◌ {A = ℕ} 0 1 = cc in omega arith)

  pub good_err : (r : Result X E) (d : E) → Err d ≡ good_by f r → r ≡ Err d
  good_err (Ok x) d e = absurd (let z : ◌≡◌ {A = ℕ} 0 1 = cc in omega arith)
  good_err (Err g) d e = cc
