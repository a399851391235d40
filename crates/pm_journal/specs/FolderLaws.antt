-- Laws of deliveries to folders.
use Rattle.std.specs.Prelude.{◌≡◌, ℕ, List, ◌++◌}
use Rattle.pm_host.specs.World.{World}
use Rattle.pm_host.specs.Runs.{after_calls, AllRight, SomeFailed, child_after}
use Rattle.pm_host.specs.declared.answers.Child.{Child}
use Rattle.pm_host.specs.declared.calls.Logged.{Logged}
use Rattle.pm_journal.specs.Entries.{IsFaulty}
use Rattle.pm_journal.specs.Placing.{PlaceGroup, after_place}
use Rattle.pm_journal.specs.Filed.{folders_of, PlacesRight, IsStored}
use Rattle.pm_journal.specs.Replies.{IsPlaceReply}
use Rattle.pm_journal.specs.declared.placing.FolderKind.{FolderKind}
use Rattle.pm_journal.specs.declared.placing.Stamp.{Stamp}
use Rattle.pm_journal.specs.declared.acts.Reply.{Reply}
use Rattle.pm_journal.specs.declared.acts.Reply.TheVariants.{Placed}

-- the tree of files is what the reply and the folders that were made say
abbrev pub PlacesMakeTree : Type 0
PlacesMakeTree = (kind : FolderKind) (folder prefix piece : List ℕ) (stamp : Stamp) (reply : Reply) (calls : List Logged) (w : World) → PlaceGroup kind folder prefix piece stamp reply calls
    → AllRight calls w → after_calls calls w ≡ after_place reply piece calls w

-- a placed piece is one new file, which holds it; a torn one is a new file with the stated front; any other is no file
abbrev pub PlacesStand : Type 0
PlacesStand = (kind : FolderKind) (folder prefix piece : List ℕ) (stamp : Stamp) (reply : Reply) (calls : List Logged) (w : World) → PlaceGroup kind folder prefix piece stamp reply calls
    → AllRight calls w → PlacesRight (folders_of kind folder) piece reply w (after_calls calls w)

-- a reply that tells of a fault has a failed call
abbrev pub PlaceFaultsHaveCalls : Type 0
PlaceFaultsHaveCalls = (kind : FolderKind) (folder prefix piece : List ℕ) (stamp : Stamp) (reply : Reply) (calls : List Logged) → PlaceGroup kind folder prefix piece stamp reply calls
    → IsFaulty reply → SomeFailed calls

-- the calls of a delivery to a folder give it a reply that it can have
abbrev pub PlaceRepliesFit : Type 0
PlaceRepliesFit = (kind : FolderKind) (folder prefix piece : List ℕ) (stamp : Stamp) (reply : Reply) (calls : List Logged) → PlaceGroup kind folder prefix piece stamp reply calls → IsPlaceReply reply

-- a piece is placed only where its file was synced to disk before
abbrev pub PlacedIsStored : Type 0
PlacedIsStored = (kind : FolderKind) (folder prefix piece : List ℕ) (stamp : Stamp) (name : List ℕ) (calls : List Logged) → PlaceGroup kind folder prefix piece stamp (Placed name) calls → IsStored name calls

-- of calls one after the other, those of a delivery to a folder are known
abbrev pub OnePlace : Type 0
OnePlace = (kind : FolderKind) (folder prefix piece : List ℕ) (stamp : Stamp) (reply : Reply) (calls others later rest : List Logged) → PlaceGroup kind folder prefix piece stamp reply calls
    → PlaceGroup kind folder prefix piece stamp reply others → calls ++ later ≡ others ++ rest → calls ≡ others

-- a delivery to a folder starts no child and ends none
abbrev pub PlacesLeaveChildren : Type 0
PlacesLeaveChildren = (kind : FolderKind) (folder prefix piece : List ℕ) (stamp : Stamp) (reply : Reply) (calls : List Logged) (child : Child) → PlaceGroup kind folder prefix piece stamp reply calls
    → child_after calls child ≡ child
