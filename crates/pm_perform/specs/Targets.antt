-- Deliveries whose lock file and destinations are known.
use Rattle.std.specs.Prelude.{ℕ, List}
use Rattle.pm_journal.specs.Plan.{Plan}
use Rattle.pm_meaning.specs.Delivering.{file_and_say}
use Rattle.pm_meaning.specs.Minds.{Mind}
use Rattle.pm_meaning.specs.Turns.{ActEnd}
use Rattle.pm_recipe.specs.declared.tree.Flags.{Flags}
use Rattle.pm_perform.specs.declared.target.Target.{Target}

-- the mail is delivered there, and what came of it is told
abbrev pub file_at : Flags → List ℕ → Mind → Target → Plan ActEnd
file_at flags text p target = file_and_say flags target.lock text target.destinations.items p
