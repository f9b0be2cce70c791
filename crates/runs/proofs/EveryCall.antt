-- What holds of a fresh run and its empty log holds after every list of calls. Assumes nothing.
use Rattle.std.proofs.Common.{◌≡◌, ℕ, ◌<◌, ◌≤◌, List, length, sym, refl, subst, arith}
use Rattle.std.specs.List.{AllByRecursion}
use Rattle.domain.specs.Model.{Meaning, Lawful, Rising}
use Rattle.sketch.specs.declared.sketch.Sketch.{Sketch}
use Rattle.runs.specs.Findings.{Always}
use Rattle.runs.specs.History.{Log, nothing, Given, made, begin, work, adopt, abandon, ask}
use Rattle.runs.specs.Run.{View, fresh}
use Rattle.runs.proofs.Advancing.{work_step}
use Rattle.runs.proofs.Beginning.{begin_step, abandon_step}
use Rattle.runs.proofs.Standing.{Standing, found_out}
use Rattle.runs.proofs.TakingUp.{adopt_step}

module _ {S M : Type 0} (keys : M → List ℕ → List ℕ) (total : M → ℕ)
    (below : (m : M) (atoms : List ℕ) → Rising atoms → AllByRecursion (λ q. q < total m) (keys m atoms))
    (some : (m : M) (atoms : List ℕ) → Rising atoms → 1 ≤ length (keys m atoms)) where
  fresh_stands : (P : Meaning S) (k : Sketch) → Lawful P → Standing keys total below some (fresh P k) nothing
  fresh_stands P k lawful = record {
    lawful = lawful;
    watching = tt;
    linked = λ i h. absurd (omega arith);
    last = λ n h. absurd (omega arith);
    exclusion = tt;
    shortest = tt;
    kept = tt;
    leads = refl;
    long = refl;
    plan = λ _. refl;
    effort = refl;
  }

  -- one call after the other keeps it
  calls_keep : (first v : View S M) (l : Log S M) → Standing keys total below some first nothing → Given keys total first v l → Standing keys total below some v l
  calls_keep first v l X made = X
  calls_keep first v l X (begin {v = before} {l = noted} given m nodes marks) =
      begin_step keys total below some before noted (calls_keep first before noted X given) m nodes marks
  calls_keep first v l X (work {v = before} {l = noted} given t n nodes marks states table) =
      work_step keys total below some before noted (calls_keep first before noted X given) t n nodes marks states table
  calls_keep first v l X (adopt {v = before} {l = noted} given c nodes plan states) =
      adopt_step keys total below some before noted (calls_keep first before noted X given) c nodes plan states
  calls_keep first v l X (abandon {v = before} {l = noted} given kind number) =
      abandon_step keys total below some before noted (calls_keep first before noted X given) kind number
  calls_keep first v l X (ask given) = calls_keep first v l X given

  pub every_list : (P : Meaning S) (k : Sketch) → Lawful P → (first : View S M) → first ≡ fresh P k → Always keys total first
  every_list P k lawful first is v l given =
      found_out keys total below some v l
      (calls_keep first v l (subst (λ x. Standing keys total below some x nothing) (sym is) (fresh_stands P k lawful)) given)
