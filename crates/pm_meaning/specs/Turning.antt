-- What the code's answers stand for.
use Rattle.std.specs.Prelude.{Option, Some, None}
use Rattle.pm_meaning.specs.Minds.{Mind}
use Rattle.pm_meaning.specs.Turns.{Turn, GoesOn, Halts}
use Rattle.pm_meaning.specs.declared.process.End.{End}

-- what comes of a statement: without an end the process goes on
abbrev pub turn_of : Option End → Mind → Turn
turn_of None p = GoesOn p
turn_of (Some end) p = Halts end p
