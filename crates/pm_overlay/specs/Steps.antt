-- What a call does to a tree with the changes of a run.
use Rattle.std.specs.Prelude.{◌≡◌, ℕ, ℤ, List, take, Option, None}
use Rattle.pm_host.specs.World.{World, Step, LooksRight, ReadsRight, age_at, world_with, grown}
use Rattle.pm_host.specs.Told.{HostView}
use Rattle.pm_host.specs.declared.answers.Aged.{Aged}
use Rattle.pm_host.specs.declared.answers.Child.{Child}
use Rattle.pm_host.specs.declared.answers.Got.{Got}
use Rattle.pm_host.specs.declared.answers.Got.TheVariants.{Got as GotSome, Failed as GotFailed}
use Rattle.pm_host.specs.declared.answers.Aged.TheVariants.{Age as AgeOf, Absent as AgeAbsent, Failed as AgeFailed}
use Rattle.pm_host.specs.declared.answers.Looked.{Looked}
use Rattle.pm_host.specs.declared.answers.Looked.TheVariants.{File as LookedFile, Folder as LookedFolder, Nothing, Failed as LookFailed}
use Rattle.pm_host.specs.declared.calls.Answer.{Answer}
use Rattle.pm_host.specs.declared.calls.Call.{Call}
use Rattle.pm_host.specs.declared.nodes.Node.{Node}
use Rattle.pm_overlay.specs.Base.{Holds, Stays}
use Rattle.pm_overlay.specs.declared.changed.Changed.{Changed}
use Rattle.pm_overlay.specs.Changes.{Changes, changed, over}

-- what the base tells, the changes over it, and the seconds of sleep
pub record Layer : Type 0 where
  pub base : Option World
  pub changes : Changes
  pub slept : ℕ

-- these three
abbrev pub layer : Option World → Changes → ℕ → Layer
layer base changes slept = record { base = base; changes = changes; slept = slept }

-- The base stays. Where it tells its tree, this holds of that tree, of what the old changes made of it, and of what the new
-- ones make of it.
pub record Alters (R : World → World → World → Type 0) (old new : Layer) : Type 0 where
  pub base : Stays old.base new.base
  pub does : Holds new.base (λ w. R w (over old.changes old.slept w) (over new.changes new.slept w))

-- one call with its answer is a step of the tree with the changes over it
abbrev pub IsStep : Call → Answer → Layer → Layer → Type 0
IsStep call answer old new = Alters (λ base before after. Step call answer before after) old new

-- the tree with its changes is as it was
abbrev pub IsSame : Layer → Layer → Type 0
IsSame old new = Alters (λ base before after. after ≡ before) old new

-- the name has what this change makes of it
abbrev pub Has : List ℕ → Changed → Layer → Layer → Type 0
Has name this old new = Alters (λ base before after. after ≡ world_with before name (changed this base)) old new

-- a file of this length stands at the name, and all is as it was
abbrev pub HoldsFile : List ℕ → ℕ → Layer → Layer → Type 0
HoldsFile name len old new = Alters (λ base before after. LooksRight (before.nodes name) (LookedFile len) → after ≡ before) old new

-- the name has what this makes of what stood there
abbrev pub Becomes : List ℕ → (Option Node → Option Node) → Layer → Layer → Type 0
Becomes name f old new = Alters (λ base before after. after ≡ world_with before name (f (before.nodes name))) old new

-- the file of this length at the name has the piece at its end
abbrev pub Grows : List ℕ → ℕ → List ℕ → Layer → Layer → Type 0
Grows name len piece old new = Alters (λ base before after. LooksRight (before.nodes name) (LookedFile len) → after ≡ world_with before name (grown (before.nodes name) piece)) old new

-- the other name has what this one has
abbrev pub Copies : List ℕ → List ℕ → Layer → Layer → Type 0
Copies from to old new = Alters (λ base before after. after ≡ world_with before to (before.nodes from)) old new

-- a file of this length stands at the name
abbrev pub IsFileAt : List ℕ → ℕ → Layer → Type 0
IsFileAt name len at = Holds at.base (λ w. LooksRight ((over at.changes at.slept w).nodes name) (LookedFile len))

-- nothing stands at the name
abbrev pub IsFree : List ℕ → Layer → Type 0
IsFree name at = Holds at.base (λ w. (over at.changes at.slept w).nodes name ≡ None)

-- the bytes that a read gave are right
abbrev pub ReadsAs : Option Node → ℕ → Got → List ℕ → Type 0
ReadsAs here at (GotSome n) room = ReadsRight here at (take n room)
ReadsAs here at GotFailed room = Unit {0}

-- the answer is this length, if it is one
abbrev pub IsLength : ℕ → Looked → Type 0
IsLength len (LookedFile n) = n ≡ len
IsLength len LookedFolder = ⊥
IsLength len Nothing = ⊥
IsLength len LookFailed = Unit {0}

-- the answer is the age of a file that was made at this moment, if it is one
abbrev pub IsAge : ℤ → ℤ → Aged → Type 0
IsAge now made (AgeOf seconds) = seconds ≡ age_at now made
IsAge now made AgeAbsent = ⊥
IsAge now made AgeFailed = Unit {0}

-- what a host tells that tells its count of faults and whether a child runs, and nothing of its files and calls
abbrev pub quiet : ℕ → Child → HostView
quiet faults child = record { world = None; calls = None; faults = faults; child = child }
