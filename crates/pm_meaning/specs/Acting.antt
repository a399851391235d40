-- What a recipe does that is executed and has no block.
use Rattle.pm_recipe.specs.Tree.{Top, Act, Mailbox, Pipe, Capture, Forward, WriteOut, Block}
use Rattle.pm_journal.specs.Plan.{Plan, Ends, and_then}
use Rattle.pm_meaning.specs.Delivering.{deliver}
use Rattle.pm_meaning.specs.Minds.{Mind}
use Rattle.pm_meaning.specs.ProgramActions.{pipe, capture_line, forward, write_out}
use Rattle.pm_meaning.specs.Turns.{Turn, GoesOn, Halts, ActEnd}
use Rattle.pm_meaning.specs.declared.acted.Acted.{Acted}
use Rattle.pm_meaning.specs.declared.acted.Acted.TheVariants.{Delivered, Went}
use Rattle.pm_meaning.specs.declared.process.End.TheVariants as end

-- blocks are entered, and don't come here
abbrev pub act_on : Top → Act → Mind → Plan ActEnd
act_on top (Mailbox text) p = deliver top.flags top.lock text p
act_on top (Pipe line) p = pipe top.flags top.lock line p
act_on top (Capture name line) p = capture_line top.flags top.lock name line p
act_on top (Forward text) p = forward top.flags top.lock text p
act_on top WriteOut p = write_out top.flags top.lock p
act_on top (Block trees) p = Ends (record { acted = Went; mind = p })

-- a delivery for good ends the process, and after any other action it goes on
abbrev pub acted_turn : Acted → Mind → Turn
acted_turn Delivered p = Halts end.Delivered p
acted_turn other p = GoesOn p

-- what comes after an action
abbrev pub turn_after : ActEnd → Turn
turn_after came = acted_turn came.acted came.mind

-- a recipe's action as a statement
abbrev pub acting : Top → Act → Mind → Plan Turn
acting top act p = and_then (act_on top act p) (λ came. Ends (turn_after came))
