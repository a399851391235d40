-- The login name by which a program is run.
use Rattle.std.specs.Prelude.{ℕ, Bool, not, ◌&&◌, List, [], ◌∷◌, Option, Some, None, codes, nat_le, bytes_eq, if◌then◌else◌}
use Rattle.std.specs.List.{list_all}
use Rattle.pm_bytes.specs.declared.environment.Pair.{Pair}
use Rattle.pm_bytes.specs.declared.environment.Environ.{Environ}

-- the value of a variable; of several of one name the first counts
abbrev pub value_in : List Pair → List ℕ → Option (List ℕ)
value_in [] name = None
value_in (pair ∷ pairs) name = if bytes_eq name pair.name then Some pair.value else value_in pairs name

-- a login name isn't empty and has no blank and no control character
abbrev pub is_login : List ℕ → Bool
is_login value = not (bytes_eq value []) && list_all (λ byte. nat_le 33 byte) value

-- the value, where it can be a login name, and else `nobody`
abbrev pub login_of : Option (List ℕ) → List ℕ
login_of None = codes "nobody"
login_of (Some value) = if is_login value then value else codes "nobody"

-- who runs the program: LOGNAME, or `nobody`
abbrev pub login_name : Environ → List ℕ
login_name env = login_of (value_in env.vars (codes "LOGNAME"))
