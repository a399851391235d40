-- What comes of a statement, as the meaning has it.
use Rattle.pm_meaning.specs.Minds.{Mind}
use Rattle.pm_meaning.specs.Turns.{Turn, GoesOn, Halts, Includes, Switches, EndsFile}
use Rattle.pm_run.specs.declared.turned.Turned.{Turned}
use Rattle.pm_run.specs.declared.turned.Turned.TheVariants as turned

-- the turn that the process takes
abbrev pub turn_in : Turned → Mind → Turn
turn_in turned.Goes p = GoesOn p
turn_in (turned.Halts end) p = Halts end p
turn_in (turned.Includes name) p = Includes name p
turn_in (turned.Switches name) p = Switches name p
turn_in turned.EndsFile p = EndsFile p
