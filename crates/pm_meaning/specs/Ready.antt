-- What the code's outputs stand for.
use Rattle.pm_meaning.specs.Delivering.{Ready}
use Rattle.pm_meaning.specs.Minds.{Mind}
use Rattle.pm_meaning.specs.declared.outputs.Ready.{Ready as Outputs}

-- the outputs of an action's texts, with the process then
abbrev pub ready_of : Outputs → Mind → Ready
ready_of ready p = record { lock_outputs = ready.lock_outputs.items; outputs = ready.outputs.items; mind = p }

-- nothing but that it was told
abbrev pub told : Unit {0}
told = tt
