-- The rcfiles in progress of a process, one after the other.
use Rattle.std.specs.Prelude.{ℕ, Bool, true, false, List, [], ◌∷◌, drop, Option, Some, None}
use Rattle.pm_code.specs.Flat.{Flat, flats_of}
use Rattle.pm_code.specs.Ahead.{lists_of}
use Rattle.pm_meaning.specs.Running.{Item, FileEnd}
use Rattle.pm_run.specs.Frames.{weave}
use Rattle.pm_run.specs.declared.frames.Open.{Open}
use Rattle.pm_run.specs.declared.frames.RcFrame.{RcFrame}
use Rattle.pm_run.specs.declared.frames.Waiting.{Waiting}
use Rattle.pm_run.specs.declared.frames.Frames.{Frames}

-- an rcfile in progress, with its code as a list of steps
pub record Frame : Type 0 where
  pub steps : List Flat
  pub place : ℕ
  pub blocks : List Open
  pub back : Option (List ℕ)

-- the same of the code's
abbrev pub frame_of : RcFrame → Frame
frame_of f = record { steps = flats_of f.code.steps.items; place = f.place; blocks = f.blocks.items; back = f.back }

-- the rcfile of this name comes back, and then this comes
abbrev pub back_then : Option (List ℕ) → List Item → List Item
back_then None rest = rest
back_then (Some name) rest = FileEnd name ∷ rest

-- what is left of these rcfiles, the innermost first
abbrev pub items_in : List Frame → List Item
items_in [] = []
items_in (f ∷ fs) = weave (lists_of (drop f.place f.steps)) f.blocks (back_then f.back (items_in fs))

-- after an rcfile that names the one that comes back that one stands, and after the outermost none does
abbrev pub goes_back : Option (List ℕ) → List Frame → Bool
goes_back None [] = true
goes_back (Some name) (f ∷ fs) = goes_back f.back fs
goes_back other fs = false

-- only the outermost one names none
abbrev pub are_nested : List Frame → Bool
are_nested [] = true
are_nested (f ∷ fs) = goes_back f.back fs

-- the first of those that wait comes back
abbrev pub name_first : List Waiting → Option (List ℕ)
name_first [] = None
name_first (w ∷ ws) = Some w.name

-- one that waits, if this one comes back at its own end
abbrev pub frame_waiting : Waiting → Option (List ℕ) → Frame
frame_waiting w back = record { steps = flats_of w.code.steps.items; place = w.place; blocks = w.blocks.items; back = back }

-- those that wait
abbrev pub outer_frames : List Waiting → List Frame
outer_frames [] = []
outer_frames (w ∷ ws) = frame_waiting w (name_first ws) ∷ outer_frames ws

-- the one in progress
abbrev pub frame_in : Frames → Frame
frame_in f = record { steps = flats_of f.code.steps.items; place = f.place; blocks = f.blocks.items; back = name_first f.outer.items }

-- all of a process that runs
abbrev pub frames_in : Frames → List Frame
frames_in f = frame_in f ∷ outer_frames f.outer.items

-- the same of a process that may have none
abbrev pub frames_if : Option Frames → List Frame
frames_if None = []
frames_if (Some f) = frames_in f
