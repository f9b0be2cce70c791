-- Replies with a fault and without. Assumes nothing.
use Rattle.std.proofs.Common.{◌≡◌, ℕ, Bool, true, false, cond, Some, None, Ok, Err, Option, Result, refl, ap, arith}
use Rattle.domain.specs.declared.refusal.Refusal.{Refusal}
use Rattle.runs.specs.Calls.{told, handed_back}

-- a claim is handed back only with a refusal
pub not_handed_back : {X C : Type 0} (r : Result X Refusal) (c : C) (x : X) → Ok x ≡ handed_back r c → Ok x ≡ r
not_handed_back (Ok y) c x h = ap Ok cc
not_handed_back (Err e) c x h = let no : ◌≡◌ {A = ℕ} 0 1 = cc in absurd (omega arith)

-- an answer is told only without a fault
pub told_fault : {X : Type 0} (f : Option Refusal) (x y : X) → Ok y ≡ told f x → (f ≡ None) × (y ≡ x)
told_fault (Some d) x y h = let no : ◌≡◌ {A = ℕ} 0 1 = cc in absurd (omega arith)
told_fault None x y h = (refl, cc)

-- what it says that nothing speaks against a call
pub no_refusal : (e : Refusal) → ◌≡◌ {A = Option Refusal} (Some e) None → ⊥
no_refusal e h = let no : ◌≡◌ {A = ℕ} 0 1 = cc in omega arith

-- a test that would refuse is false
pub passed : (b : Bool) (e : Refusal) (rest : Option Refusal) → cond b (Some e) rest ≡ None → (b ≡ false) × (rest ≡ None)
passed true e rest h = absurd (no_refusal e h)
passed false e rest h = (refl, h)

pub not_broken : (b : Bool) (e : Refusal) → cond b None (Some e) ≡ None → b ≡ true
not_broken true e h = refl
not_broken false e h = absurd (no_refusal e h)
