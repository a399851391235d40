-- Variables as an ordered list of names with their values.
use Rattle.std.specs.Prelude.{ℕ, zero, suc, Option, Some, None, List, [], ◌∷◌, if◌then◌else◌, Bool, ◌&&◌, slice_get}
use Rattle.std.specs.Str.{bytes_eq}
use Rattle.pm_bytes.specs.Name.{is_usable}
use Rattle.pm_bytes.specs.declared.environment.Pair.{Pair}

-- a variable
pub record Variable : Type 0 where
  pub name : List ℕ
  pub value : List ℕ

-- the value of the variable of this name
abbrev pub value_of : List ℕ → List Variable → Option (List ℕ)
value_of name [] = None
value_of name (v ∷ rest) = if bytes_eq name v.name then Some v.value else value_of name rest

-- a name that is there keeps its place and takes the value, and a new one goes last
abbrev pub with_value : List ℕ → List ℕ → List Variable → List Variable
with_value name value [] = record { name = name; value = value } ∷ []
with_value name value (v ∷ rest) =
    if bytes_eq name v.name then record { name = v.name; value = value } ∷ rest else v ∷ with_value name value rest

-- without the variable of this name
abbrev pub without : List ℕ → List Variable → List Variable
without name [] = []
without name (v ∷ rest) = if bytes_eq name v.name then rest else v ∷ without name rest

-- the argument of this number, from 1 on
abbrev pub argument_of : ℕ → List (List ℕ) → Option (List ℕ)
argument_of zero arguments = None
argument_of (suc index) arguments = slice_get arguments index

-- programs get a variable whose name and value are both usable as names
abbrev pub is_exported : Variable → Bool
is_exported v = is_usable v.name && is_usable v.value

-- a pair of an environment as a variable
abbrev pub variable_of : Pair → Variable
variable_of pair = record { name = pair.name; value = pair.value }
