-- What a run tells of its plan. Assumes nothing.
use Rattle.std.specs.Prelude.{ℕ, cond, ◌&&◌, List, length, Ok, Err, Result, nat_lt, slice_index}
use Rattle.domain.specs.declared.refusal.Refusal.{Refusal}
use Rattle.domain.specs.declared.refusal.Refusal.TheVariants.{NoStep}

-- the action of a step before the end of the plan, which has n steps, and of the list
abbrev pub step_reply : ℕ → List ℕ → ℕ → Result ℕ Refusal
step_reply n plan i = cond (nat_lt i n && nat_lt i (length plan)) (Ok (slice_index plan i)) (Err NoStep)
