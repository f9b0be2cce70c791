use Rattle.std.proofs.Common.{◌≡◌, ℕ, ◌≤◌, length}
use Rattle.sketch.specs.Sieve.{strikes, flagged}
use Rattle.sketch.specs.Sifted.{kinds_in, left_in}
use Rattle.sketch.proofs.sieve.Sieve.strike_all.Given as goal

-- some strikes that are still to come, enough for the rules that are left, lead to the same end
abbrev pub invariant-loop-i : goal.invariant-loop-i
invariant-loop-i l =
    (l.self.features.now ≡ l.initial.self.features.now)
    × (l.self.rules.now ≡ l.initial.self.rules.now)
    × ((n : ℕ) × (flagged (left_in l.self) ≤ n)
    × (strikes (kinds_in l.self) l.self.rules.now n (left_in l.self)
    ≡ strikes (kinds_in l.initial.self) l.initial.self.rules.now (length l.initial.self.rules.now) (left_in l.initial.self)))

abbrev pub decreases-loop-i : goal.decreases-loop-i
decreases-loop-i l = flagged (left_in l.self)
