-- What tasks ask of the outside, with all that is wanted for it.
use Rattle.std.specs.Prelude.{Bool, ◌≡◌, ℕ, false, true, List, length, codes, if◌then◌else◌}
use Rattle.pm_recipe.specs.declared.tree.Flags.{Flags}
use Rattle.pm_journal.specs.Plan.{Plan}
use Rattle.pm_meaning.specs.Minds.{Mind}
use Rattle.pm_meaning.specs.ProgramActions.{Purpose, Delivers, Filters, Captures, Task, Tried, Trying, is_fine, feed, filter_mail, capture, write}
use Rattle.pm_meaning.specs.declared.process.Outcome.{Outcome}
use Rattle.pm_meaning.specs.declared.process.Trial.{Trial}
use Rattle.pm_perform.specs.Copies.{remembered, with_kept}
use Rattle.pm_perform.specs.declared.kept.Kept.{Kept}
use Rattle.pm_perform.specs.declared.errands.Errand.{Errand}
use Rattle.pm_perform.specs.declared.errands.Errand.TheVariants.{Feed, Filter, Capture, Write}
use Rattle.pm_perform.specs.declared.tasks.Purpose.{Purpose as CodePurpose}
use Rattle.pm_perform.specs.declared.tasks.Purpose.TheVariants.{Delivers as CodeDelivers, Filters as CodeFilters, Captures as CodeCaptures}
use Rattle.pm_perform.specs.declared.tasks.Task.{Task as CodeTask}

-- what for a task hands the mail on, as the meaning sees it
abbrev pub purpose_of : CodePurpose → Purpose
purpose_of (CodeDelivers destination) = Delivers destination.now
purpose_of CodeFilters = Filters
purpose_of (CodeCaptures name) = Captures name.now

-- a task as the meaning sees it
abbrev pub task_of : CodeTask → Task
task_of t = record { flags = t.flags; lock = t.lock.now; automatic = t.automatic.now; text = t.text.now; purpose = purpose_of t.purpose }

-- what was tried, with the process then
abbrev pub tried_of : Outcome → Mind → Tried
tried_of outcome p = record { outcome = outcome; mind = p }

-- what was tried with an rcfile, with the process then
abbrev pub trying_of : Trial → Mind → Trying
trying_of trial p = record { trial = trial; mind = p }

-- only where it was done the process remembers so
abbrev pub kept_if : Outcome → Kept → Mind → Mind
kept_if outcome kept p = if is_fine outcome then with_kept kept p else p

-- the errand is this work
abbrev pub IsWork : Flags → Errand → (Mind → Plan Tried) → Type 0
IsWork flags (Feed command input kept) work = (folder : List ℕ) × (kept ≡ remembered folder (length input)) × (work ≡ feed flags folder command input)
IsWork flags (Filter command input) work = work ≡ filter_mail flags command input
IsWork flags (Capture command input name) work = work ≡ capture flags name command input
IsWork flags (Write piece kept) work = (kept ≡ remembered (codes "|") (length piece)) × (work ≡ write piece)

-- the errand hands the mail on for good: to a program, or to standard output
abbrev pub is_for_good : Errand → Bool
is_for_good (Feed command input kept) = true
is_for_good (Write piece kept) = true
is_for_good other = false
