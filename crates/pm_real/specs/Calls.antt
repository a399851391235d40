-- What the calls of a host leave of the file that is kept open.
use Rattle.std.specs.Prelude.{◌≡◌, ◌⊎◌, ℕ, List, Option, Some, None, Result, Ok, Err, option_map}
use Rattle.std.specs.Io.KnownBytes.{Appends}
use Rattle.pm_host.specs.declared.answers.Cut.{Cut}
use Rattle.pm_host.specs.declared.answers.Cut.TheVariants.{Cut as WasCut, Failed as CutFailed}
use Rattle.pm_host.specs.declared.answers.Got.{Got}
use Rattle.pm_host.specs.declared.answers.Got.TheVariants.{Got as GotSome, Failed as GotFailed}
use Rattle.pm_host.specs.declared.answers.Looked.{Looked}
use Rattle.pm_host.specs.declared.answers.Looked.TheVariants.{File}
use Rattle.pm_host.specs.declared.answers.Made.{Made}
use Rattle.pm_host.specs.declared.answers.Made.TheVariants.{Made as MadeNew}
use Rattle.pm_host.specs.declared.answers.Removed.{Removed}
use Rattle.pm_host.specs.declared.answers.Removed.TheVariants.{Removed as RemovedIt, Absent, Failed as RemoveFailed}
use Rattle.pm_host.specs.declared.answers.Took.{Took}
use Rattle.pm_host.specs.declared.answers.Took.TheVariants.{Took as TookSome, Failed as TookFailed}
use Rattle.pm_real.specs.View.{FileView}
use Rattle.pm_real.specs.Kept.{in_use, just_opened, found_again, made_target, appended, read_past, cut_to}
use Rattle.pm_real.specs.declared.inode.Inode.{Inode}
use Rattle.pm_real.specs.declared.mode.Mode.{Mode}
use Rattle.pm_real.specs.declared.mode.Mode.TheVariants.{Appending}
use Rattle.pm_real.specs.declared.opened.Opened.{Opened}

-- what is known of the open file
abbrev pub state_of : {F : Type 0} → Option (Opened F) → Option FileView
state_of opened = option_map (λ o. o.state) opened

-- a call on an open file that reads, appends, or cuts, by its answer
abbrev pub IsAfterRead : Option ℕ → FileView → FileView → Type 0
IsAfterRead (Some count) before now = (now ≡ before) ⊎ (now ≡ read_past count before)
IsAfterRead None before now = now ≡ before

abbrev pub IsAfterAppend : Option ℕ → FileView → FileView → Type 0
IsAfterAppend (Some count) before now = now ≡ appended count before
IsAfterAppend None before now = now ≡ before

abbrev pub IsCut : ℕ → FileView → FileView → Type 0
IsCut len before now = (size : ℕ) × (cut_to size len before ≡ Some now)

abbrev pub IsAfterCut : {E : Type 0} → ℕ → Result (Unit {0}) E → FileView → FileView → Type 0
IsAfterCut len (Ok _) before now = IsCut len before now
IsAfterCut len (Err _) before now = (now ≡ before) ⊎ IsCut len before now

-- a call by a name: it uses the file that is open, if that was opened by this name for this, and else opens one; if none
-- can be opened, none is open
abbrev pub IsUsed : List ℕ → Mode → (FileView → FileView → Type 0) → Option FileView → Option FileView → Type 0
IsUsed name mode Call before None = Unit {0}
IsUsed name mode Call before (Some now) = Call (in_use name mode before) now

-- one that did something left a file open
abbrev pub IsUsedBy : List ℕ → Mode → (FileView → FileView → Type 0) → Option FileView → Option FileView → Type 0
IsUsedBy name mode Call before None = ⊥
IsUsedBy name mode Call before (Some now) = Call (in_use name mode before) now

-- a file was just made by this name, or the target of a symbolic link of this name
abbrev pub IsMade : List ℕ → Option FileView → Type 0
IsMade name now = (now ≡ Some (just_opened name Appending)) ⊎ (now ≡ Some (made_target (just_opened name Appending)))

-- the open file was cut to nothing, or wasn't
abbrev pub IsEmptied : Removed → Option FileView → Option FileView → Type 0
IsEmptied RemovedIt (Some before) (Some now) = IsCut 0 before now
IsEmptied Absent before now = ⊥
IsEmptied RemoveFailed (Some before) (Some now) = (now ≡ before) ⊎ IsCut 0 before now
IsEmptied RemoveFailed None None = Unit {0}
IsEmptied answer before now = ⊥

-- a file was made by this name, by the answer of a host; after any other answer none is open
abbrev pub IsMadeBy : {F : Type 0} → Made → List ℕ → Option (Opened F) → Type 0
IsMadeBy MadeNew name opened = IsMade name (state_of opened)
IsMadeBy other name opened = opened ≡ None

-- the file that was open stays open as it is, as one that a look at this name found there
abbrev pub StaysOpen : {F : Type 0} → List ℕ → Option (Opened F) → Option (Opened F) → Type 0
StaysOpen name (Some before) (Some now) =
    (found_again name (Some before.state) ≡ Some now.state) × (now.file ≡ before.file)
StaysOpen name before now = ⊥

-- the file that is open, if one is, is known to be the one that was found
abbrev pub IsThatFile : {F : Type 0} → Option Inode → Option (Opened F) → Type 0
IsThatFile (Some inode) (Some opened) = opened.inode ≡ Some inode
IsThatFile None (Some opened) = ⊥
IsThatFile found None = Unit {0}

-- a look at this name, by its answer: none is open, or the file that was, but that only if a file was found
abbrev pub IsLookedAt : {F : Type 0} → Looked → List ℕ → Option (Opened F) → Option (Opened F) → Type 0
IsLookedAt (File size) name before now = (now ≡ None) ⊎ StaysOpen name before now
IsLookedAt other name before now = now ≡ None

-- a sync changes nothing of what is known of the file
abbrev pub Stays : FileView → FileView → Type 0
Stays before now = now ≡ before

-- an append by this name
abbrev pub Adds : List ℕ → Option ℕ → Option FileView → Option FileView → Type 0
Adds name (Some count) before now = IsUsedBy name Appending (IsAfterAppend (Some count)) before now
Adds name None before now = IsUsed name Appending (IsAfterAppend None) before now

-- these bytes were added to the file that was open, as far as its contents are known
abbrev pub AddedTo : {F : Type 0} → (F → Option (List ℕ)) → List ℕ → Option (Opened F) → Option (Opened F) → Type 0
AddedTo contents bytes (Some before) (Some now) = Appends (contents before.file) (contents now.file) bytes
AddedTo contents bytes before now = ⊥

-- a cut, by the answer of a host
abbrev pub IsCutBy : Cut → ℕ → FileView → FileView → Type 0
IsCutBy WasCut len before now = IsCut len before now
IsCutBy CutFailed len before now = (now ≡ before) ⊎ IsCut len before now

-- how many bytes came
abbrev pub came_of : Got → Option ℕ
came_of (GotSome count) = Some count
came_of GotFailed = None

-- how many bytes were taken
abbrev pub count_of : Took → Option ℕ
count_of (TookSome count) = Some count
count_of TookFailed = None
