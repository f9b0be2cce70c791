-- Laws of problem texts that a user of the format would state. Assumes nothing.
use Rattle.std.specs.Prelude.{◌≡◌, ℕ, ◌+◌, ◌≤◌, List, [], ◌∷◌, ◌++◌, length, Err}
use Rattle.domain.specs.Refusal.{place_of}
use Rattle.domain.specs.declared.refusal.Refusal.{Refusal}
use Rattle.domain.specs.declared.refusal.Refusal.TheVariants.{RulesLeft}
use Rattle.problem.specs.Fault.{line_refusal}
use Rattle.problem.specs.Lines.{lines}
use Rattle.problem.specs.Problem.{text_problem}
use Rattle.problem.specs.declared.fault.LineFault.{LineFault}
use Rattle.problem.specs.declared.fault.ProblemFault.TheVariants.{Line, Sketch}

-- the line that a fault names
abbrev pub line_of : LineFault → ℕ
line_of e = place_of (line_refusal e)

-- a fault names a line of the text, or the one behind its last line
abbrev pub LineNamed : Type 0
LineNamed =
    (places : ℕ) (bs : List ℕ) (e : LineFault) → text_problem places bs ≡ Err (Line e)
    → (1 ≤ line_of e) × (line_of e ≤ length (lines bs) + 1)

-- the first faulty line decides: a text that agrees with it up to the end of that line gets the same refusal
abbrev pub FirstFaultDecides : Type 0
FirstFaultDecides =
    (places : ℕ) (front a b : List ℕ) (e : LineFault)
    → text_problem places (front ++ 10 ∷ a) ≡ Err (Line e)
    → line_of e ≤ length (lines (front ++ 10 ∷ []))
    → text_problem places (front ++ 10 ∷ b) ≡ Err (Line e)

-- behind the last line only the sieve refuses: the refusal tells how many rules it leaves
abbrev pub SieveAlone : Type 0
SieveAlone =
    (places : ℕ) (bs : List ℕ) (e : Refusal) → text_problem places bs ≡ Err (Sketch e) → (left : ℕ) × (1 ≤ left) × (e ≡ RulesLeft left)
