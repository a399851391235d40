-- A process that is to be run, and what comes of it.
use Rattle.std.specs.Prelude.{◌≡◌, List, ◌∷◌, map, reverse, Option, Some, None, true, false, [], ℕ}
use Rattle.pm_journal.specs.JournalState.{JournalState}
use Rattle.pm_journal.specs.Entries.{View}
use Rattle.pm_journal.specs.Executed.{GivesEach}
use Rattle.pm_journal.specs.Held.{Keeping}
use Rattle.pm_journal.specs.Walking.{Reaches}
use Rattle.pm_meaning.specs.Apart.{bare, state_of}
use Rattle.pm_meaning.specs.Courses.{Course, Others, now_at, advance}
use Rattle.pm_meaning.specs.Minds.{Mind}
use Rattle.pm_meaning.specs.Running.{State, Running, Opening, Over, OpeningRule, Task as Meant}
use Rattle.pm_meaning.specs.declared.ending.Ending.{Ending}
use Rattle.pm_meaning.specs.declared.mind.Mind.{Mind as Parts}
use Rattle.pm_meaning.specs.declared.mind.Opening.{Opening as Opens}
use Rattle.pm_meaning.specs.declared.mind.Shared.{Shared}
use Rattle.pm_meaning.specs.declared.process.End.{End}
use Rattle.pm_meaning.specs.declared.process.End.TheVariants.{Delivered, FellOff, NoRc, HostOff}
use Rattle.pm_run.specs.Copies.{task_of}
use Rattle.pm_run.specs.Ends.{rule_of_opening}
use Rattle.pm_run.specs.HeldLocks.{AllRight, only}
use Rattle.pm_run.specs.Nested.{are_nested, frame_of, items_in}
use Rattle.pm_run.specs.RunningOut.{RunMayRunOut, RunsOut}
use Rattle.pm_run.specs.declared.frames.RcFrame.{RcFrame}
use Rattle.pm_run.specs.declared.parts.ProcessEnd.{ProcessEnd}
use Rattle.pm_run.specs.declared.parts.ProcessEnd.TheVariants as ended
use Rattle.pm_run.specs.declared.queue.Queue.{Queue}
use Rattle.pm_run.specs.declared.remaining.Begun.{Begun}
use Rattle.pm_run.specs.declared.remaining.Begun.TheVariants as begun
use Rattle.pm_run.specs.declared.task.Task.{Task}

-- the tasks that wait
abbrev pub tasks_of : Queue → List Meant
tasks_of queue = map task_of queue.copies.items

-- the task is that of this copy of a process
pub record IsTask (task : Task) (t : Meant) : Type 0 where
  pub items : items_in (map frame_of task.frames.items) ≡ t.items
  pub opening : task.opening ≡ None
  pub mind : state_of task.mind t.mind.host_name t.mind.placed ≡ bare t.mind
  pub rcfiles : task.mind.rcfiles.items ≡ t.mind.later
  pub rcfile : task.rcfile ≡ t.mind.rcfile

-- the first of the tasks is this one, and the others go on to wait
abbrev pub IsNext : Task → List Meant → List Meant → Type 0
IsNext task old new = (t : Meant) × (old ≡ t ∷ new) × IsTask task t

-- rcfiles in progress are nested
abbrev pub AreBegun : Begun → Type 0
AreBegun (begun.Opens rule names) = Unit {0}
AreBegun (begun.GoesOn frames) = are_nested (map frame_of frames.items) ≡ true

-- where a process begins
abbrev pub begun_at : Begun → Mind → State
begun_at (begun.Opens rule names) p = Opening (rule_of_opening rule) (reverse names.items) p
begun_at (begun.GoesOn frames) p = Running (items_in (map frame_of frames.items)) p

-- how the first rcfile is opened
abbrev pub rule_by : Opens → OpeningRule
rule_by o = record { is_implied = o.implied; keeps_folder = o.keep_base }

-- the process of these parts, in the rcfile of this name and in a run that has counted so much
abbrev pub process_of : Parts → List ℕ → Shared → Mind
process_of m rcfile s = record (state_of m s.host_name s.placed) { rcfile = rcfile; openings = s.openings }

-- where a process begins: at its first rcfile, or as a copy with these in progress
abbrev pub started : Option Opens → List RcFrame → List (List ℕ) → Mind → State
started (Some o) frames rcfiles p = Opening (rule_by o) rcfiles (record p { filter = o.under_m })
started None frames rcfiles p = Running (items_in (map frame_of frames)) (record p { is_clone = true; later = rcfiles })

-- the same of a task
abbrev pub begins : Task → Shared → State
begins t s = started t.opening t.frames.items t.mind.rcfiles.items (process_of t.mind t.rcfile s)

-- what a process of a run is given, and what it leaves
pub record Stand : Type 0 where
  pub queue : Queue
  pub shared : Shared
  pub journal : JournalState
  pub view : View

-- the other processes of the run
abbrev pub others_in : Stand → Option Ending → Others
others_in stand first = record { queue = tasks_of stand.queue; made = stand.shared.clones; first = first }

-- a process without how the program was called, which rcfile it reads and whether it is a copy
abbrev pub seen : Mind → Mind
seen p = record p { filter = false; fails_softly = false; rcfile = []; is_clone = false }

-- the same by its parts
abbrev pub seen_by : Parts → Shared → Mind
seen_by m s = record (process_of m [] s) { later = m.rcfiles.items }

-- the process went on to this end, and these parts are left of it
abbrev pub ComesTo : End → Parts → State → Stand → Stand → Type 0
ComesTo end m s old new =
    (p : Mind) × (seen p ≡ seen_by m new.shared)
    × ((first : Option Ending) → Reaches {X = Ending} advance (now_at (others_in old first) s) (now_at (others_in new first) (Over end p)) old.journal new.journal old.view new.view)

-- memory was wanting in it where it may be, and then each lock that it held was given back, the last taken first
pub record GivesUpAll (c : Course) (old new : JournalState) (before after : View) : Type 0 where
  pub held : List (List ℕ)
  pub journal : JournalState
  pub view : View
  pub out : RunsOut {X = Ending} advance RunMayRunOut c old journal before view
  pub keeping : Keeping journal held
  pub gives : GivesEach held journal new view after

-- what came of a process
abbrev pub Processes : ProcessEnd → State → Stand → Stand → Type 0
Processes (ended.Delivered m) s old new = ComesTo Delivered m s old new
Processes (ended.FellOff m) s old new = ComesTo FellOff m s old new
Processes (ended.HostOff m) s old new = ComesTo HostOff m s old new
Processes (ended.NoRc m) s old new = ComesTo NoRc m s old new
Processes ended.Memory s old new =
    (first : Option Ending) → GivesUpAll (now_at (others_in old first) s) old.journal new.journal old.view new.view

-- the locks that a process has left held
abbrev pub locks_at : ProcessEnd → List (List ℕ)
locks_at (ended.Delivered m) = m.locks.names
locks_at (ended.FellOff m) = m.locks.names
locks_at (ended.HostOff m) = m.locks.names
locks_at (ended.NoRc m) = m.locks.names
locks_at ended.Memory = []

-- after its end a process holds LOCKFILE's lock alone, and each copy that waits begins with the locks of its blocks
abbrev pub EndsRight : ProcessEnd → List Meant → Type 0
EndsRight (ended.Delivered m) tasks = (m.locks.names ≡ only m.global) × AllRight tasks
EndsRight (ended.FellOff m) tasks = (m.locks.names ≡ only m.global) × AllRight tasks
EndsRight (ended.HostOff m) tasks = (m.locks.names ≡ only m.global) × AllRight tasks
EndsRight (ended.NoRc m) tasks = (m.locks.names ≡ only m.global) × AllRight tasks
EndsRight ended.Memory tasks = Unit {0}
