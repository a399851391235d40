-- The variables as a list, whatever the map does with its memory.
use Rattle.std.specs.Prelude.{ℕ, List, Option, Some, None, codes}
use Rattle.pm_vars.specs.Held.{live}
use Rattle.pm_vars.specs.Variables.{Variable, with_value}
use Rattle.pm_vars.specs.declared.values.Values.TheInside.{Inside}

-- with the value of LASTFOLDER that is held apart
abbrev pub with_last : Option (List ℕ) → List Variable → List Variable
with_last None variables = variables
with_last (Some value) variables = with_value (codes "LASTFOLDER") value variables

-- what contracts see of them
abbrev pub values_of : Inside → List Variable
values_of inside = with_last inside.last_folder (live inside.held.entries)
