-- The laws of a model and of a measure, as a search uses them. Assumes nothing.
use Rattle.std.proofs.Common.{ℕ, ◌<◌, ◌≤◌, List, length}
use Rattle.std.specs.List.{AllByRecursion}
use Rattle.domain.specs.Model.{Meaning, Lawful, Rising}
use Rattle.planner.specs.Search.{task}
use Rattle.planner.proofs.Expanding.{Fair}
use Rattle.planner.proofs.Steps.{some_count}

module _ {S : Type 0} (P : Meaning S) (lawful : Lawful P) (keys : List ℕ → List ℕ) (total : ℕ)
    (below : (atoms : List ℕ) → Rising atoms → AllByRecursion (λ k. k < total) (keys atoms))
    (some : (atoms : List ℕ) → Rising atoms → 1 ≤ length (keys atoms)) where
  pub fair : Fair (task P keys total)
  fair = record {
    below = λ s. below (P.truths s) (lawful.rising s);
    some = λ s. some (P.truths s) (lawful.rising s);
    past = lawful.past;
  }

  -- the start has a key, so there is one
  pub count_above_0 : 1 ≤ total
  count_above_0 = some_count total (keys (P.truths P.start)) (some _ (lawful.rising _)) (below _ (lawful.rising _))
