-- What a delivery to a folder leaves.
use Rattle.std.specs.Prelude.{◌≡◌, ◌≤◌, ◌⊎◌, ℕ, false, List, [], ◌∷◌, ◌++◌, length, take, Option, Some, None, bytes_eq}
use Rattle.pm_host.specs.World.{World}
use Rattle.pm_host.specs.Runs.{logged}
use Rattle.pm_host.specs.declared.nodes.Node.{Node}
use Rattle.pm_host.specs.declared.nodes.Node.TheVariants.{File as AFile, Folder as AFolder}
use Rattle.pm_host.specs.declared.answers.Synced.TheVariants.{Synced as SyncedDone}
use Rattle.pm_host.specs.declared.answers.Moved.TheVariants.{Moved as MovedDone}
use Rattle.pm_host.specs.declared.calls.Call.TheVariants.{Sync, Rename}
use Rattle.pm_host.specs.declared.calls.Answer.TheVariants.{Sync as AnswerSync, Rename as AnswerRename}
use Rattle.pm_host.specs.declared.calls.Logged.{Logged}
use Rattle.pm_journal.specs.Naming.{maildir_folders}
use Rattle.pm_journal.specs.declared.placing.FolderKind.{FolderKind}
use Rattle.pm_journal.specs.declared.placing.FolderKind.TheVariants.{Maildir, Mh, Plain}
use Rattle.pm_journal.specs.declared.acts.Reply.{Reply}
use Rattle.pm_journal.specs.declared.acts.Reply.TheVariants.{Placed, TornAt}

-- the folders that a delivery makes where nothing stands
abbrev pub folders_of : FolderKind → List ℕ → List (List ℕ)
folders_of Maildir folder = maildir_folders folder
folders_of Mh folder = folder ∷ []
folders_of Plain folder = []

-- it is one of these names
abbrev pub IsOneOf : List ℕ → List (List ℕ) → Type 0
IsOneOf name [] = ⊥
IsOneOf name (n ∷ ns) = (name ≡ n) ⊎ IsOneOf name ns

-- what stands at a name is as before; or it is the name of one of these folders, and the folder was made where nothing stood
abbrev pub SameOrMade : List (List ℕ) → List ℕ → Option Node → Option Node → Type 0
SameOrMade folders name old new = (new ≡ old) ⊎ (IsOneOf name folders × (old ≡ None) × (new ≡ Some AFolder))

-- some of these folders were made, and nothing else
pub record OnlyFolders (folders : List (List ℕ)) (old new : World) : Type 0 where
  pub each : (name : List ℕ) → SameOrMade folders name (old.nodes name) (new.nodes name)

-- one file was made of these bytes where nothing stood, and besides it some of these folders alone
pub record AddsFile (folders : List (List ℕ)) (name bytes : List ℕ) (old new : World) : Type 0 where
  pub was_free : old.nodes name ≡ None
  pub file : new.nodes name ≡ Some (AFile (record { bytes = bytes; made = old.moment }))
  pub others : (other : List ℕ) → bytes_eq name other ≡ false → SameOrMade folders other (old.nodes other) (new.nodes other)

-- the first bytes of the piece, as many as are stated, are in a new file
pub record AddsFileFront (folders : List (List ℕ)) (name piece : List ℕ) (count : ℕ) (old new : World) : Type 0 where
  pub within : count ≤ length piece
  pub adds : AddsFile folders name (take count piece) old new

-- a placed piece is one new file, a torn one a new file with the stated front, and any other reply leaves no file
abbrev pub PlacesRight : List (List ℕ) → List ℕ → Reply → World → World → Type 0
PlacesRight folders piece (Placed name) old new = AddsFile folders name piece old new
PlacesRight folders piece (TornAt name count) old new = AddsFileFront folders name piece count old new
PlacesRight folders piece other old new = OnlyFolders folders old new

-- after the sync of a file nothing follows, and this is its name; or it was moved to this name
abbrev pub StoredEnd : List ℕ → List ℕ → List Logged → Type 0
StoredEnd at name back = ((back ≡ []) × (name ≡ at)) ⊎ (back ≡ logged (Rename at name) (AnswerRename MovedDone) ∷ [])

-- the last call, or the last before a move to this name, brought the file to the store
pub record IsStored (name : List ℕ) (calls : List Logged) : Type 0 where
  pub at : List ℕ
  pub front : List Logged
  pub back : List Logged
  pub is : calls ≡ front ++ logged (Sync at) (AnswerSync SyncedDone) ∷ back
  pub ends : StoredEnd at name back
