-- Actions that hand the mail to a program or write it to standard output, once their lock files are known.
use Rattle.std.specs.Prelude.{ℕ, List, Option}
use Rattle.pm_journal.specs.Plan.{Plan}
use Rattle.pm_meaning.specs.Minds.{Mind}
use Rattle.pm_meaning.specs.ProgramActions.{Task, Tried, fed_piece, told_first, try_and_say, work_of}
use Rattle.pm_meaning.specs.Turns.{ActEnd}
use Rattle.pm_perform.specs.declared.job.Job.{Job}

-- the work is done under this lock file, and what came of it is told
abbrev pub try_at : Task → (Mind → Plan Tried) → Mind → Option (List ℕ) → Plan ActEnd
try_at t work p lock = told_first t p (try_and_say t lock work p)

-- the program gets the mail under the lock file, and what came of it is told
abbrev pub run_at : Task → Mind → Job → Plan ActEnd
run_at t p job = try_at t (work_of t.purpose t.flags (fed_piece t.flags p) job.command) p job.lock
