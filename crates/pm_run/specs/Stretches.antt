-- A stretch of a process, and of a run.
use Rattle.std.specs.Prelude.{Option, Result, IfOk, OnErr}
use Rattle.pm_bytes.specs.declared.error.Memory.{Memory}
use Rattle.pm_journal.specs.JournalState.{JournalState}
use Rattle.pm_journal.specs.Entries.{View}
use Rattle.pm_journal.specs.Walking.{Reaches}
use Rattle.pm_meaning.specs.Courses.{now_at, advance}
use Rattle.pm_meaning.specs.Running.{State, Event, step}
use Rattle.pm_run.specs.Copies.{others_of}
use Rattle.pm_run.specs.RunningOut.{MayRunOut, RunMayRunOut, RunsOut}
use Rattle.pm_run.specs.declared.queue.Queue.{Queue}
use Rattle.pm_meaning.specs.declared.ending.Ending.{Ending}

-- the process went on to the state that the answer stands for, or memory was wanting in it where it may be
abbrev pub Walks : {A : Type 0} → State → (A → State) → Result A Memory → JournalState → JournalState → View → View → Type 0
Walks s to answer old new before after =
    IfOk answer (λ a. Reaches {X = Event} step s (to a) old new before after) × OnErr answer (RunsOut {X = Event} step MayRunOut s old new before after)

-- the same of the run, whose first process ended so or goes on: other copies wait after the stretch than before it
abbrev pub Proceeds : {A : Type 0} → Queue → Queue → State → (A → State) → Result A Memory → JournalState → JournalState → View → View → Type 0
Proceeds queue later s to answer old new before after =
    (first : Option Ending) → IfOk answer (λ a. Reaches {X = Ending} advance (now_at (others_of queue first) s) (now_at (others_of later first) (to a)) old new before after)
    × OnErr answer (RunsOut {X = Ending} advance RunMayRunOut (now_at (others_of queue first) s) old new before after)
