-- What an atom is to an action: the roles and their characters. Assumes nothing.
use Rattle.std.specs.Prelude.{ℕ, cond, Some, None, Option, ◌==◌}
use Rattle.problem.specs.declared.role.Role.{Role}
use Rattle.problem.specs.declared.role.Role.TheVariants.{Precondition, Addition, Deletion}

-- p, a and d
abbrev pub role_char : Role → ℕ
role_char Precondition = 112
role_char Addition = 97
role_char Deletion = 100

-- the role whose character is c
abbrev pub role_named : ℕ → Option Role
role_named c =
    cond (c == role_char Precondition) (Some Precondition)
    (cond (c == role_char Addition) (Some Addition)
    (cond (c == role_char Deletion) (Some Deletion) None))
