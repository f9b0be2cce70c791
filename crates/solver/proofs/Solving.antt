-- One turn of the solver. Assumes nothing.
use Rattle.std.proofs.Common.{◌≡◌, ℕ, zero, suc, ◌+◌, true, false, set, Some, None, Ok, Err, Option, sym, ap, ◌∙◌}
use Rattle.std.proofs.lemmas.Bool.{cond-true, cond-false}
use Rattle.domain.specs.declared.refusal.Refusal.{Refusal}
use Rattle.domain.specs.declared.refusal.Refusal.TheVariants.{Limit}
use Rattle.runs.specs.Run.{View}
use Rattle.runs.specs.Calls.{unless}
use Rattle.solver.specs.Attempt.{row_of}
use Rattle.solver.specs.Solve.{Memory, Answer, answer, next_width, report, at_its_end, fault_at, found_at, view_after, memory_after, unless_refused, by_width, solve_from}
use Rattle.solver.specs.declared.report.Row.{Row}
use Rattle.solver.specs.declared.report.Ending.TheVariants.{AtTarget, ThirdStub}

module _ {S M : Type 0} (N : ℕ) (k : ℕ) (v : View S M) (mem : Memory S) where
  pub ends_at_target : (n : ℕ) → v.problem.target v.current ≡ true → solve_from N n k v mem ≡ answer (Ok (report v AtTarget)) mem
  unfolding solve_from
  ends_at_target zero t = cond-true _ _ _ t
  ends_at_target (suc n) t = cond-true _ _ _ t

  module _ (off : v.problem.target v.current ≡ false) where
    pub ends_without_row : solve_from N 0 k v mem ≡ answer (Err (Limit v.searches)) mem
    unfolding solve_from
    ends_without_row = cond-false _ _ _ off

    -- the answer once the search is not refused, by the width that is next
    abbrev rest : ℕ → Option ℕ → Answer S
    rest n o =
        by_width o (answer (Ok (report (view_after N k v mem) ThirdStub)) (memory_after N k v mem))
        (λ j. solve_from N n j (view_after N k v mem) (memory_after N k v mem))

    turn : (n : ℕ) → solve_from N (suc n) k v mem
        ≡ unless_refused (fault_at N k v mem) (memory_after N k v mem) (rest n (next_width (found_at N k v mem) k))
    unfolding solve_from
    turn n = cond-false _ _ _ off

    module _ (free n : ℕ) (some : free ≡ suc n) where
      one_row : solve_from N free k v mem ≡ unless_refused (fault_at N k v mem) (memory_after N k v mem) (rest n (next_width (found_at N k v mem) k))
      one_row = ap (λ a. solve_from N a k v mem) some ∙ turn n

      pub ends_refused : (e : Refusal) → fault_at N k v mem ≡ Some e → solve_from N free k v mem ≡ answer (Err e) (memory_after N k v mem)
      ends_refused e f = one_row ∙ ap (λ x. unless_refused x (memory_after N k v mem) (rest n (next_width (found_at N k v mem) k))) f

      module _ (fine : fault_at N k v mem ≡ None) where
        searched : solve_from N free k v mem ≡ rest n (next_width (found_at N k v mem) k)
        searched = one_row ∙ ap (λ x. unless_refused x (memory_after N k v mem) (rest n (next_width (found_at N k v mem) k))) fine

        pub ends_with_stub : next_width (found_at N k v mem) k ≡ None → solve_from N free k v mem
            ≡ answer (Ok (report (view_after N k v mem) ThirdStub)) (memory_after N k v mem)
        ends_with_stub w = searched ∙ ap (rest n) w

        pub goes_on_by : (j : ℕ) → next_width (found_at N k v mem) k ≡ Some j → solve_from N free k v mem
            ≡ solve_from N n j (view_after N k v mem) (memory_after N k v mem)
        goes_on_by j w = searched ∙ ap (rest n) w

  -- the row of a search that was not refused is written under its number
  pub row_written : (made : ℕ) (row : Row) → v.searches ≡ made → row ≡ row_of (made + 1) k (at_its_end N k v mem) → fault_at N k v mem ≡ None
      → set mem.rows made row ≡ (memory_after N k v mem).rows
  row_written made row same is fine =
      ap (set mem.rows made) is
      ∙ ap (λ n. set mem.rows n (row_of (n + 1) k (at_its_end N k v mem))) (sym same)
      ∙ sym (ap (λ f. unless f mem.rows (set mem.rows v.searches (row_of (v.searches + 1) k (at_its_end N k v mem)))) fine)

  pub row_left : (e : Refusal) → fault_at N k v mem ≡ Some e → mem.rows ≡ (memory_after N k v mem).rows
  row_left e bad = sym (ap (λ f. unless f mem.rows (set mem.rows v.searches (row_of (v.searches + 1) k (at_its_end N k v mem)))) bad)
