-- Which calls file a piece in a folder.
use Rattle.std.specs.Prelude.{◌≡◌, ◌≤◌, ◌⊎◌, ℕ, ◌+◌, Bool, true, false, List, [], ◌∷◌, ◌++◌, length, take, drop, Option, Some, None, is_some, nat_eq}
use Rattle.pm_host.specs.World.{World, world_with, after_make_folder}
use Rattle.pm_host.specs.Runs.{logged, Transitions}
use Rattle.pm_host.specs.declared.nodes.Node.TheVariants.{File as AFile}
use Rattle.pm_host.specs.declared.answers.Took.TheVariants.{Took as TookSome}
use Rattle.pm_host.specs.declared.answers.Synced.TheVariants.{Synced as SyncedDone}
use Rattle.pm_host.specs.declared.answers.Made.TheVariants.{Made as MadeNew, Exists, Failed as MadeFailed}
use Rattle.pm_host.specs.declared.answers.Removed.TheVariants.{Removed as RemovedDone, Absent}
use Rattle.pm_host.specs.declared.answers.Moved.TheVariants.{Moved as MovedDone, Taken as MoveTaken}
use Rattle.pm_host.specs.declared.calls.Call.{Call}
use Rattle.pm_host.specs.declared.calls.Call.TheVariants.{Create, Sync, Rename, Remove, MakeFolder, Names}
use Rattle.pm_host.specs.declared.calls.Answer.{Answer}
use Rattle.pm_host.specs.declared.calls.Answer.TheVariants.{Create as AnswerCreate, Append as AnswerAppend, Sync as AnswerSync, Rename as AnswerRename, Remove as AnswerRemove, MakeFolder as AnswerMakeFolder, Names as AnswerNames, Failed as AnswerFailed}
use Rattle.pm_host.specs.declared.calls.Logged.{Logged}
use Rattle.pm_journal.specs.Appending.{IsOffer}
use Rattle.pm_journal.specs.Naming.{Numbered, plain_candidate, maildir_candidate, mh_candidate, maildir_folders, first_number}
use Rattle.pm_journal.specs.declared.placing.FolderKind.{FolderKind}
use Rattle.pm_journal.specs.declared.placing.FolderKind.TheVariants.{Maildir, Mh, Plain}
use Rattle.pm_journal.specs.declared.placing.Stamp.{Stamp}
use Rattle.pm_journal.specs.declared.placing.Candidate.{Candidate}
use Rattle.pm_journal.specs.declared.placing.FileEnd.{FileEnd}
use Rattle.pm_journal.specs.declared.placing.FileEnd.TheVariants.{Filed, Taken, Undone as FileUndone, Torn as FileTorn}
use Rattle.pm_journal.specs.declared.acts.Reply.{Reply}
use Rattle.pm_journal.specs.declared.acts.Reply.TheVariants.{Placed, TornAt, NamesOut, Undone}

-- where the filing under one name stands: the file is to be made; so many bytes were added; the whole file is to be moved;
-- its place was taken, or a call failed, and the file is to be removed; it has ended
pub data FileState : Type 0 where
  Creating : FileState
  Writing : ℕ → FileState
  Moving : FileState
  Clearing : FileState
  Removing : ℕ → FileState
  Ended : FileEnd → FileState

-- the move of a file that has another name to go to
abbrev pub MoveAsks : List ℕ → Option (List ℕ) → Call → Type 0
MoveAsks at (Some to) call = call ≡ Rename at to
MoveAsks at None call = ⊥

-- more of the piece is offered, and once all is taken the file is synced to disk
abbrev pub WriteAsks : Bool → List ℕ → List ℕ → Call → Type 0
WriteAsks true at left call = call ≡ Sync at
WriteAsks false at left call = IsOffer at left call

-- the call by which the filing goes on
abbrev pub FileAsks : Candidate → List ℕ → FileState → Call → Type 0
FileAsks c piece Creating call = call ≡ Create c.at
FileAsks c piece (Writing taken) call = WriteAsks (nat_eq taken (length piece)) c.at (drop taken piece) call
FileAsks c piece Moving call = MoveAsks c.at c.to call
FileAsks c piece Clearing call = call ≡ Remove c.at
FileAsks c piece (Removing taken) call = call ≡ Remove c.at
FileAsks c piece (Ended end) call = ⊥

-- after a `create`
abbrev pub heard_create : Answer → FileState
heard_create (AnswerCreate MadeNew) = Writing 0
heard_create (AnswerCreate Exists) = Ended Taken
heard_create other = Ended FileUndone

-- the file is whole and in the store
abbrev pub stored : Bool → FileState
stored true = Moving
stored false = Ended Filed

-- after an `append`, or the `sync` after the last one
abbrev pub heard_write : Bool → ℕ → Answer → FileState
heard_write moves taken (AnswerAppend (TookSome n)) = Writing (taken + n)
heard_write moves taken (AnswerSync SyncedDone) = stored moves
heard_write moves taken other = Removing taken

-- after the `rename` of the whole file, which has so many bytes
abbrev pub heard_move : ℕ → Answer → FileState
heard_move len (AnswerRename MovedDone) = Ended Filed
heard_move len (AnswerRename MoveTaken) = Clearing
heard_move len other = Removing len

-- after a `remove` of the file
abbrev pub heard_remove : FileEnd → FileEnd → Answer → FileState
heard_remove gone left (AnswerRemove RemovedDone) = Ended gone
heard_remove gone left (AnswerRemove Absent) = Ended gone
heard_remove gone left other = Ended left

-- how the filing of so many bytes goes on after an answer
abbrev pub file_heard : Bool → ℕ → FileState → Answer → FileState
file_heard moves len Creating answer = heard_create answer
file_heard moves len (Writing taken) answer = heard_write moves taken answer
file_heard moves len Moving answer = heard_move len answer
file_heard moves len Clearing answer = heard_remove Taken (FileTorn len) answer
file_heard moves len (Removing taken) answer = heard_remove FileUndone (FileTorn taken) answer
file_heard moves len (Ended end) answer = Ended end

-- these calls lead the filing under this name from one state to another
abbrev pub FileWalks : Candidate → List ℕ → FileState → List Logged → FileState → Type 0
FileWalks c piece from calls to = Transitions (FileAsks c piece) (file_heard (is_some c.to) (length piece)) from calls to

-- these calls file the piece under one name, with this end
abbrev pub TryGroup : Candidate → List ℕ → FileEnd → List Logged → Type 0
TryGroup c piece end calls = FileWalks c piece Creating calls (Ended end)

-- the name of the file once it is filed
abbrev pub final_name : List ℕ → Option (List ℕ) → List ℕ
final_name at (Some to) = to
final_name at None = at

-- the reply of a filing that ended so under its last name
abbrev pub try_reply : Candidate → FileEnd → Reply
try_reply c Filed = Placed (final_name c.at c.to)
try_reply c Taken = NamesOut
try_reply c FileUndone = Undone
try_reply c (FileTorn taken) = TornAt c.at taken

-- no other name is tried
abbrev pub IsSettled : FileEnd → Type 0
IsSettled Taken = ⊥
IsSettled other = Unit {0}

-- the piece was filed under this name, or a call failed
pub record LastTry (c : Candidate) (piece : List ℕ) (reply : Reply) (calls : List Logged) : Type 0 where
  pub end : FileEnd
  pub settled : IsSettled end
  pub reply_is : reply ≡ try_reply c end
  pub group : TryGroup c piece end calls

-- the names are tried in order, until one isn't taken
abbrev pub Tries : List Candidate → List ℕ → Reply → List Logged → Type 0
Tries [] piece reply calls = (reply ≡ NamesOut) × (calls ≡ [])
Tries (c ∷ cs) piece reply calls =
    LastTry c piece reply calls
    ⊎ ((first : List Logged) × (rest : List Logged) × (calls ≡ first ++ rest) × TryGroup c piece Taken first × Tries cs piece reply rest)

-- after a `make_folder`: the rest follows, or it was the last and failed
abbrev pub AfterMaking : Answer → Bool → List Logged → Type 0 → Type 0
AfterMaking (AnswerMakeFolder MadeNew) all later more = more
AfterMaking (AnswerMakeFolder Exists) all later more = more
AfterMaking (AnswerMakeFolder MadeFailed) all later more = (all ≡ false) × (later ≡ [])
AfterMaking other all later more = ⊥

-- the folders are made in order; whether all are there
abbrev pub MakesFolders : List (List ℕ) → Bool → List Logged → Type 0
MakesFolders [] all calls = (all ≡ true) × (calls ≡ [])
MakesFolders (n ∷ ns) all [] = ⊥
MakesFolders (n ∷ ns) all (c ∷ cs) = (c.call ≡ MakeFolder n) × AfterMaking c.answer all cs (MakesFolders ns all cs)

-- a folder couldn't be made
pub record NoFolder (folders : List (List ℕ)) (reply : Reply) (calls : List Logged) : Type 0 where
  pub reply_is : reply ≡ Undone
  pub makes : MakesFolders folders false calls

-- the piece is filed under one of 100 names
pub record Numbers (make : ℕ → Candidate) (piece : List ℕ) (reply : Reply) (calls : List Logged) : Type 0 where
  pub all : List Candidate
  pub are : Numbered make all
  pub tries : Tries all piece reply calls

-- the folders of the maildir are made, and then the piece is filed
pub record MaildirGroup (folder piece : List ℕ) (stamp : Stamp) (reply : Reply) (calls : List Logged) : Type 0 where
  pub makes : List Logged
  pub tries : List Logged
  pub calls_are : calls ≡ makes ++ tries
  pub made : MakesFolders (maildir_folders folder) true makes
  pub numbers : Numbers (maildir_candidate folder stamp) piece reply tries

-- after `names`
abbrev pub AfterNames : List ℕ → List ℕ → Answer → Reply → List Logged → Type 0
AfterNames folder piece (AnswerNames parts) reply tries = Numbers (mh_candidate folder (first_number parts)) piece reply tries
AfterNames folder piece AnswerFailed reply tries = (reply ≡ Undone) × (tries ≡ [])
AfterNames folder piece other reply tries = ⊥

-- the folder is made, its names are asked, and then the piece is filed
pub record MhGroup (folder piece : List ℕ) (reply : Reply) (calls : List Logged) : Type 0 where
  pub makes : List Logged
  pub answer : Answer
  pub tries : List Logged
  pub calls_are : calls ≡ makes ++ (logged (Names folder) answer ∷ tries)
  pub made : MakesFolders (folder ∷ []) true makes
  pub filed : AfterNames folder piece answer reply tries

-- these calls file the piece in the folder, with this reply
abbrev pub PlaceGroup : FolderKind → List ℕ → List ℕ → List ℕ → Stamp → Reply → List Logged → Type 0
PlaceGroup Maildir folder prefix piece stamp reply calls = NoFolder (maildir_folders folder) reply calls ⊎ MaildirGroup folder piece stamp reply calls
PlaceGroup Mh folder prefix piece stamp reply calls = NoFolder (folder ∷ []) reply calls ⊎ MhGroup folder piece reply calls
PlaceGroup Plain folder prefix piece stamp reply calls = Numbers (plain_candidate folder prefix stamp) piece reply calls

-- the filing in an MH folder was left off: before any call, or with `names`
pub record LeftNames (folder : List ℕ) (calls : List Logged) : Type 0 where
  pub makes : List Logged
  pub answer : Answer
  pub calls_are : calls ≡ makes ++ (logged (Names folder) answer ∷ [])
  pub made : MakesFolders (folder ∷ []) true makes

-- the filing was left off for want of memory, before any file was made
abbrev pub LeftPlace : FolderKind → List ℕ → List Logged → Type 0
LeftPlace Mh folder calls = (calls ≡ []) ⊎ LeftNames folder calls
LeftPlace other folder calls = calls ≡ []

-- a file of these bytes, made at this moment
abbrev pub with_new : World → List ℕ → List ℕ → World
with_new w name bytes = world_with w name (Some (AFile (record { bytes = bytes; made = w.moment })))

-- the world with the folder that a call made
abbrev pub folder_by : Call → Answer → World → World
folder_by (MakeFolder name) answer w = after_make_folder answer name w
folder_by call answer w = w

-- the world with the folders that all these calls made
abbrev pub with_folders : List Logged → World → World
with_folders [] w = w
with_folders (c ∷ cs) w = with_folders cs (folder_by c.call c.answer w)

-- the file with the piece, or with its front where it couldn't be removed
abbrev pub after_placed : Reply → List ℕ → World → World
after_placed (Placed name) piece w = with_new w name piece
after_placed (TornAt name taken) piece w = with_new w name (take taken piece)
after_placed other piece w = w

-- the folders that were made, and besides the file with the piece, or with its front where it couldn't be removed
abbrev pub after_place : Reply → List ℕ → List Logged → World → World
after_place reply piece calls w = after_placed reply piece (with_folders calls w)

-- nothing stood at the name of the file
abbrev pub WasFree : Reply → World → Type 0
WasFree (Placed name) w = w.nodes name ≡ None
WasFree (TornAt name taken) w = w.nodes name ≡ None
WasFree other w = Unit {0}

-- no more bytes are stated than the piece has
abbrev pub FitsPiece : Reply → List ℕ → Type 0
FitsPiece (TornAt name taken) piece = taken ≤ length piece
FitsPiece other piece = Unit {0}
