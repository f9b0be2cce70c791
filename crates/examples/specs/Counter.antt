-- A problem and a measure with an admissible set of keys: a counter that is raised from 0 to 3. Assumes nothing.
use Rattle.std.specs.Prelude.{ℕ, ◌+◌, true, cond, ◌&&◌, [], ◌∷◌, ◌==◌, nat_lt}
use Rattle.domain.specs.Model.{Meaning}
use Rattle.planner.specs.Search.{Task}
use Rattle.planner.specs.Width.{Admissible}

-- four atoms, of which the one with the counter's number is true; one action, which raises the counter; the target is 3
abbrev pub counter : Meaning ℕ
counter = record {
  atoms = 4;
  actions = 1;
  start = 0;
  truths = λ s. s ∷ [];
  target = λ s. (s == 3);
  applies = λ s a. (a == 0) && nat_lt s 3;
  next = λ s a. cond (a == 0 && nat_lt s 3) (s + 1) s;
}

-- each true atom is a key
abbrev pub counting : Task ℕ
counting = record { problem = counter; keys = λ atoms. atoms; count = 4 }

-- all keys together are admissible
abbrev pub CounterAdmissible : Type 0
CounterAdmissible = Admissible counting (λ k. true)
