-- Copies of a process for blocks, as the meaning sees them.
use Rattle.std.specs.Prelude.{ℕ, ◌-◌, List, [], ◌∷◌, map, drop, Option, None}
use Rattle.pm_recipe.specs.Tree.{Trees}
use Rattle.pm_code.specs.Ahead.{first, lists_of}
use Rattle.pm_meaning.specs.Minds.{mind_of}
use Rattle.pm_meaning.specs.declared.chain.Chain.{Chain}
use Rattle.pm_meaning.specs.Courses.{Others}
use Rattle.pm_meaning.specs.Running.{Task}
use Rattle.pm_meaning.specs.declared.ending.Ending.{Ending}
use Rattle.pm_run.specs.Frames.{steps_of}
use Rattle.pm_run.specs.Nested.{Frame, frame_of, items_in}
use Rattle.pm_run.specs.declared.frames.Open.{Open}
use Rattle.pm_run.specs.declared.frames.Frames.{Frames}
use Rattle.pm_run.specs.declared.task.Copy.{Copy}
use Rattle.pm_run.specs.declared.queue.Queue.{Queue}

-- a copy with what it has to do
abbrev pub task_of : Copy → Task
task_of copy = record { items = items_in (map frame_of copy.frames.items); mind = mind_of copy.process }

-- the copies that wait, and how many were made, where the first process ended so, or goes on
abbrev pub others_of : Queue → Option Ending → Others
others_of queue first = record { queue = map task_of queue.copies.items; made = queue.made; first = first }

-- the statements of the block that begins at this place
abbrev pub block_at : ℕ → Frames → Trees
block_at place f = first (lists_of (drop place (steps_of f)))

-- an open block in a copy
abbrev pub unlocked_block : Open → Open
unlocked_block block = record block { lock = None }

-- an rcfile in a copy
abbrev pub unlocked_frame : Frame → Frame
unlocked_frame f = record f { blocks = map unlocked_block f.blocks }

-- the one in progress, in the block that begins at this place and whose recipe has this chain
abbrev pub entered_frame : ℕ → Chain → Frame → Frame
entered_frame place chain f =
    record f { place = place; blocks = record { enter = place - 1; saved = chain; lock = None } ∷ map unlocked_block f.blocks }

-- the rcfiles of a copy for this block: the same as those of its process, but without locks
abbrev pub copied_frames : ℕ → Chain → List Frame → List Frame
copied_frames place chain [] = []
copied_frames place chain (f ∷ fs) = entered_frame place chain f ∷ map unlocked_frame fs
