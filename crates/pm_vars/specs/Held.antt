-- The entries of the map as variables.
use Rattle.std.specs.Prelude.{ℕ, List, Option, Vec, filter_map}
use Rattle.std.specs.Global.{Global}
use Rattle.std.specs.Option.{option_map}
use Rattle.pm_vars.specs.Variables.{Variable}
use Rattle.pm_vars.specs.declared.held.Held.{Held}

-- a name and what the map holds for it, as a variable, unless that is gone
abbrev pub variable_of_held : Vec ℕ Global × Held → Option Variable
variable_of_held entry = option_map (λ value. record { name = entry.0.items; value = value }) entry.1.value

-- the variables of these entries, without those that are gone
abbrev pub live : List (Vec ℕ Global × Held) → List Variable
live entries = filter_map variable_of_held entries
