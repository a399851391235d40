-- The meaning of a run: one process after another, the first one and the copies that were made for blocks.
use Rattle.std.specs.Prelude.{ℕ, ◌+◌, nat_le, List, [], ◌∷◌, ◌++◌, Option, Some, None, if◌then◌else◌}
use Rattle.pm_recipe.specs.Tree.{Trees}
use Rattle.pm_bytes.specs.declared.environment.Environ.{Environ}
use Rattle.pm_journal.specs.Plan.{Plan, Ends, and_then}
use Rattle.pm_journal.specs.Walking.{Next, Stop, Go}
use Rattle.pm_meaning.specs.Minds.{Mind}
use Rattle.pm_meaning.specs.Chains.{succeeded}
use Rattle.pm_meaning.specs.Running.{State, Arrived, Running, Refusing, Item, Task, Event, Ended, WantsClone, clone_of, step}
use Rattle.pm_meaning.specs.declared.command_line.CommandLine.{CommandLine}
use Rattle.pm_meaning.specs.declared.ending.Ending.{Ending}

-- the copies that wait for the process's end, the first one first, how many the run has made, and how its first process ended, once
-- it has
pub record Others : Type 0 where
  pub queue : List Task
  pub made : ℕ
  pub first : Option Ending

-- where the process stands, and the others
pub record Course : Type 0 where
  pub at : State
  pub others : Others

-- the process stands here
abbrev pub now_at : Others → State → Course
now_at others s = record { at = s; others = others }

-- how the first process ended: so, unless it ended before
abbrev pub first_end : Option Ending → Ending → Ending
first_end None ending = ending
first_end (Some first) ending = first

-- a copy begins with what the run has counted since: how many times it has filed mail in a folder, and how many rcfiles it has opened
abbrev pub resumed : Mind → ℕ → ℕ → Mind
resumed mind placed openings = record mind { placed = placed; openings = openings }

-- after a process the first of the copies begins; without one the run is over
abbrev pub next_process : List Task → ℕ → Ending → ℕ → ℕ → Next Course Ending
next_process [] made first placed openings = Stop first
next_process (task ∷ tasks) made first placed openings =
    Go (now_at (record { queue = tasks; made = made; first = Some first }) (Running task.items (resumed task.mind placed openings)))

-- one copy more, at the end of the queue
abbrev pub with_copy : Task → Others → Others
with_copy task o = record o { queue = o.queue ++ task ∷ []; made = o.made + 1 }

-- a copy is made for a block, and its recipe succeeded, unless the run has made 16
abbrev pub make_clone : Trees → List Item → Mind → Others → Next Course Ending
make_clone trees items p o =
    if nat_le 16 o.made then Go (now_at o (Refusing items p)) else Go (now_at (with_copy (clone_of trees items p) o) (Running items (succeeded p)))

-- what comes of an event
abbrev pub happened : Others → Event → Next Course Ending
happened o (Ended ending p) = next_process o.queue o.made (first_end o.first ending) p.placed p.openings
happened o (WantsClone trees items p) = make_clone trees items p o

-- what comes of a process's step
abbrev pub onward : Others → Next State Event → Next Course Ending
onward o (Go s) = Go (now_at o s)
onward o (Stop event) = happened o event

-- one step of the run is one of its process
abbrev pub advance : Course → Plan (Next Course Ending)
advance c = and_then (step c.at) (λ next. Ends (onward c.others next))

-- no copy was made, and the first process runs
abbrev pub alone : Others
alone = record { queue = []; made = 0; first = None }

-- the run begins with its command line and these bytes of the mail
abbrev pub run_of : CommandLine → Environ → List ℕ → Course
run_of line env bytes = now_at alone (Arrived line env bytes)
