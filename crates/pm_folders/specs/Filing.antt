-- A piece is filed, call by call.
use Rattle.std.specs.Prelude.{◌≡◌, ℕ, Bool, List, length, drop, ◌++◌, Option, Some, None, is_some, Result, Ok, Err}
use Rattle.pm_host.specs.Told.{HostView, Makes}
use Rattle.pm_host.specs.Runs.{Ran}
use Rattle.pm_host.specs.declared.answers.Removed.{Removed}
use Rattle.pm_host.specs.declared.calls.Call.TheVariants.{Remove}
use Rattle.pm_host.specs.declared.calls.Answer.TheVariants.{Remove as AnswerRemove}
use Rattle.pm_host.specs.declared.calls.Logged.{Logged}
use Rattle.pm_journal.specs.Placing.{FileState, Writing, Removing, Ended, stored, heard_remove, FileWalks, TryGroup, Tries, PlaceGroup, LeftPlace, MakesFolders}
use Rattle.pm_journal.specs.declared.placing.FolderKind.{FolderKind}
use Rattle.pm_journal.specs.declared.placing.Stamp.{Stamp}
use Rattle.pm_journal.specs.declared.placing.Candidate.{Candidate}
use Rattle.pm_journal.specs.declared.placing.FileEnd.{FileEnd}
use Rattle.pm_journal.specs.declared.acts.Reply.{Reply}
use Rattle.pm_journal.specs.declared.acts.Reply.TheVariants.{Placed, TornAt, NamesOut as ReplyNamesOut, Undone as ReplyUndone}
use Rattle.pm_folders.specs.declared.tries.PlaceEnd.{PlaceEnd}
use Rattle.pm_folders.specs.declared.tries.PlaceEnd.TheVariants.{Done, Undone, Torn, NamesOut, Memory}

-- the filing under one name went on from one state to another
pub record Goes (c : Candidate) (piece : List ℕ) (from to : FileState) (before after : HostView) : Type 0 where
  pub calls : List Logged
  pub ran : Ran calls before after
  pub walk : FileWalks c piece from calls to

-- the piece was filed under one name, with this end
pub record Tried (c : Candidate) (piece : List ℕ) (end : FileEnd) (before after : HostView) : Type 0 where
  pub calls : List Logged
  pub ran : Ran calls before after
  pub group : TryGroup c piece end calls

-- where the filing stands after the appends
abbrev pub after_writing : {T : Type 0} → Result T ℕ → ℕ → FileState
after_writing (Ok x) len = Writing len
after_writing (Err taken) len = Removing taken

-- the bytes were added to the file
abbrev pub Writes : {T : Type 0} → Candidate → List ℕ → Result T ℕ → HostView → HostView → Type 0
Writes c piece result before after = Goes c piece (Writing 0) (after_writing result (length piece)) before after

-- where the filing stands after the sync
abbrev pub after_storing : {T : Type 0} → Result T ℕ → Bool → FileState
after_storing (Ok x) moves = stored moves
after_storing (Err taken) moves = Removing taken

-- the bytes were added to the file, and it was synced to disk
abbrev pub Stores : {T : Type 0} → Candidate → List ℕ → Result T ℕ → HostView → HostView → Type 0
Stores c piece result before after = Goes c piece (Writing 0) (after_storing result (is_some c.to)) before after

-- one `remove` of the file that was made
pub record RemovesMade (c : Candidate) (gone left end : FileEnd) (before after : HostView) : Type 0 where
  pub removed : Removed
  pub makes : Makes (Remove c.at) (AnswerRemove removed) before after
  pub leads : heard_remove gone left (AnswerRemove removed) ≡ Ended end

-- the reply of the act; want of memory is none
abbrev pub place_reply : PlaceEnd → Option Reply
place_reply (Done name) = Some (Placed name)
place_reply Undone = Some ReplyUndone
place_reply (Torn name taken) = Some (TornAt name taken)
place_reply NamesOut = Some ReplyNamesOut
place_reply Memory = None

-- the names were tried in order, with this reply
pub record TriesAll (all : List Candidate) (piece : List ℕ) (end : PlaceEnd) (before after : HostView) : Type 0 where
  pub reply : Reply
  pub reply_is : place_reply end ≡ Some reply
  pub calls : List Logged
  pub ran : Ran calls before after
  pub tries : Tries all piece reply calls

-- so many names were taken: what comes of the rest comes of all
pub record TriedSoFar (all : List Candidate) (k : ℕ) (piece : List ℕ) (before after : HostView) : Type 0 where
  pub calls : List Logged
  pub ran : Ran calls before after
  pub goes_on : (reply : Reply) (later : List Logged) → Tries (drop k all) piece reply later → Tries all piece reply (calls ++ later)

-- these calls file the piece in the folder with this reply; where there is none, the filing was left off before any file was made
abbrev pub EndsPlace : FolderKind → List ℕ → List ℕ → List ℕ → Stamp → Option Reply → List Logged → Type 0
EndsPlace kind folder prefix piece stamp (Some reply) calls = PlaceGroup kind folder prefix piece stamp reply calls
EndsPlace kind folder prefix piece stamp None calls = LeftPlace kind folder calls

-- the piece was filed in the folder so
pub record PlacesIn (kind : FolderKind) (folder prefix piece : List ℕ) (stamp : Stamp) (end : PlaceEnd) (before after : HostView) : Type 0 where
  pub calls : List Logged
  pub ran : Ran calls before after
  pub group : EndsPlace kind folder prefix piece stamp (place_reply end) calls

-- the folders were made in order; whether all are there
pub record MakesAll (folders : List (List ℕ)) (all : Bool) (before after : HostView) : Type 0 where
  pub calls : List Logged
  pub ran : Ran calls before after
  pub makes : MakesFolders folders all calls

-- so many folders were made: what comes of the rest comes of all
pub record MadeSoFar (folders : List (List ℕ)) (k : ℕ) (before after : HostView) : Type 0 where
  pub calls : List Logged
  pub ran : Ran calls before after
  pub goes_on : (all : Bool) (later : List Logged) → MakesFolders (drop k folders) all later → MakesFolders folders all (calls ++ later)
