-- The names of destinations.
use Rattle.std.specs.Prelude.{ℕ, List, ◌++◌, map, codes}
use Rattle.pm_journal.specs.declared.acts.Entry.{Entry}
use Rattle.explain_text.specs.Destinations.{destinations_of}
use Rattle.explain_text.specs.declared.destination.Destination.{Destination}
use Rattle.explain_text.specs.declared.destination.Destination.TheVariants.{File, Folder, Program, Forward, Output}

-- a destination as people are told it: a mailbox or a directory by its name
abbrev pub destination_name : Destination → List ℕ
destination_name (File name) = name
destination_name (Folder name) = name
destination_name (Program line) = codes "| " ++ line
destination_name (Forward addresses) = codes "forward " ++ addresses
destination_name Output = codes "standard output"

-- the destinations of a run by these names, in order
abbrev pub destination_names : List Entry → List (List ℕ)
destination_names entries = map destination_name (destinations_of entries)
