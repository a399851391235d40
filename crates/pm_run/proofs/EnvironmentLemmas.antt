-- A search in an environment.
use Rattle.std.proofs.Common.{◌≡◌, true, false, List, ℕ, Some, ◌∷◌, map, ap, ◌∙◌}
use Rattle.std.specs.Prelude.{if◌then◌else◌, bytes_eq}
use Rattle.pm_bytes.specs.declared.environment.Pair.{Pair}
use Rattle.pm_vars.specs.Variables.{value_of, variable_of}

pub found_first : (name : List ℕ) (pair : Pair) (left rest : List Pair) → left ≡ pair ∷ rest → bytes_eq name pair.name ≡ true → value_of name (map variable_of left) ≡ Some pair.value
found_first name pair left rest e h = ap (λ l. value_of name (map variable_of l)) e ∙ ap (λ b. if b then Some pair.value else value_of name (map variable_of rest)) h

pub missed_first : (name : List ℕ) (pair : Pair) (left rest : List Pair) → left ≡ pair ∷ rest → bytes_eq name pair.name ≡ false → value_of name (map variable_of left) ≡ value_of name (map variable_of rest)
missed_first name pair left rest e h = ap (λ l. value_of name (map variable_of l)) e ∙ ap (λ b. if b then Some pair.value else value_of name (map variable_of rest)) h
