-- What comes next in a run, and how it goes on from there.
use Rattle.std.specs.Prelude.{◌≡◌, map}
use Rattle.pm_journal.specs.JournalState.{JournalState}
use Rattle.pm_journal.specs.Entries.{View}
use Rattle.pm_journal.specs.Walking.{Next, Go, Stop, Reaches, Completes}
use Rattle.pm_meaning.specs.Courses.{Course, next_process, advance}
use Rattle.pm_meaning.specs.declared.ending.Ending.{Ending}
use Rattle.pm_run.specs.Copies.{task_of}
use Rattle.pm_run.specs.RunningOut.{GaveUp}
use Rattle.pm_run.specs.declared.queue.Queue.{Queue}
use Rattle.pm_run.specs.declared.process.Counts.{Counts}

-- what comes after a process whose run has counted so much: the first of the copies, or the end
abbrev pub next_in : Queue → Ending → Counts → Next Course Ending
next_in queue first counts = next_process (map task_of queue.copies.items) queue.made first counts.placed counts.openings

-- from what came next the run went on to what comes next now
abbrev pub GoesOn : Next Course Ending → Next Course Ending → JournalState → JournalState → View → View → Type 0
GoesOn (Go c) (Go d) x y a b = Reaches {X = Ending} advance c d x y a b
GoesOn (Go c) (Stop e) x y a b = Completes advance c e x y a b
GoesOn (Stop e) next x y a b = (next ≡ Stop e) × (y ≡ x) × (b ≡ a)

-- memory was wanting in it where it may be, and the held locks were given back
abbrev pub GivesUp : Next Course Ending → JournalState → JournalState → View → View → Type 0
GivesUp (Go c) x y a b = GaveUp c x y a b
GivesUp (Stop e) x y a b = ⊥
