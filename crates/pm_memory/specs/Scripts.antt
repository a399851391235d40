-- What children do.
use Rattle.std.specs.Prelude.{List, [], ◌∷◌, None}
use Rattle.pm_host.specs.declared.answers.Finished.TheVariants.{Code}
use Rattle.pm_host.specs.declared.command.Script.{Script}

-- what a child does for which there is no script: it takes all its input, gives no output and ends with code 0
abbrev pub silent_script : Script
silent_script = record { code = Code 0; closes_after = None; output = [] }

-- the first of these scripts
abbrev pub next_script : List Script → Script
next_script [] = silent_script
next_script (s ∷ ss) = s
