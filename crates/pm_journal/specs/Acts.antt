-- Acts whose reply the caller doesn't see whole.
use Rattle.std.specs.Prelude.{◌≡◌, ℕ, Bool, List, ◌∷◌, Option}
use Rattle.pm_host.specs.declared.calls.Logged.{Logged}
use Rattle.pm_journal.specs.JournalState.{JournalState}
use Rattle.pm_journal.specs.Entries.{View}
use Rattle.pm_journal.specs.Executed.{Executes, UnfinishedCalls, TakesCalls}
use Rattle.pm_journal.specs.Noted.{NotesAct}
use Rattle.pm_journal.specs.Plan.{ask}
use Rattle.pm_journal.specs.declared.acts.Act.{Act}
use Rattle.pm_journal.specs.declared.acts.Act.TheVariants.{ReadFile, Place, Run}
use Rattle.pm_journal.specs.declared.acts.Reply.{Reply}
use Rattle.pm_journal.specs.declared.locking.LockEnd.{LockEnd}
use Rattle.pm_journal.specs.declared.locking.LockEnd.TheVariants.{Held}
use Rattle.pm_journal.specs.Contents.{content_of}
use Rattle.pm_journal.specs.Sayings.{say_act}
use Rattle.pm_host.specs.declared.command.Command.{Command}
use Rattle.pm_journal.specs.Outcomes.{run_end, folder_end, is_missing, last_missing}
use Rattle.pm_journal.specs.declared.children.RunEnd.{RunEnd}
use Rattle.pm_journal.specs.declared.placing.FolderEnd.{FolderEnd}
use Rattle.pm_journal.specs.declared.effects.Filing.{Filing}

-- the file was read, with some reply that has this content, and noted
pub record NotesRead (name : List ℕ) (content : Option (List ℕ)) (old new : JournalState) (before after : View) : Type 0 where
  pub reply : Reply
  pub content_is : content ≡ content_of reply
  pub notes : NotesAct (ReadFile name) reply old new before after

-- the text was said in a file, or on `err`, with some reply
pub record SaysTo (to : Option (List ℕ)) (text : List ℕ) (old new : JournalState) (before after : View) : Type 0 where
  pub reply : Reply
  pub executes : Executes (ask (say_act to text)) reply old new before after

-- the file was read, with some reply that has this content: the entry of the reply is the journal's last one
pub record ReadsWhole (name : List ℕ) (content : Option (List ℕ)) (old new : JournalState) (before after : View) : Type 0 where
  pub reply : Reply
  pub content_is : content ≡ content_of reply
  pub missing : last_missing new.entries ≡ is_missing reply
  pub executes : Executes (ask (ReadFile name)) reply old new before after

-- the act that files a piece in a folder
abbrev pub place_act : Filing → Act
place_act f = Place f.kind f.folder f.prefix f.piece f.stamp

-- the piece was filed in the folder, with some reply that has this end, and noted
pub record NotesPlace (f : Filing) (end : FolderEnd) (old new : JournalState) (before after : View) : Type 0 where
  pub reply : Reply
  pub end_is : end ≡ folder_end reply
  pub notes : NotesAct (place_act f) reply old new before after

-- the program was run, with some reply that has this end, and noted
pub record NotesRun (command : Command) (input : List ℕ) (want : Bool) (end : RunEnd) (old new : JournalState) (before after : View) : Type 0 where
  pub reply : Reply
  pub end_is : end ≡ run_end reply
  pub notes : NotesAct (Run command input want) reply old new before after

-- an act was left off after these calls
pub record LeavesAct (act : Act) (before after : View) : Type 0 where
  pub calls : List Logged
  pub unfinished : UnfinishedCalls act calls
  pub took : TakesCalls calls before after

-- the held locks after the taking of a lock
abbrev pub after_taking : LockEnd → List ℕ → List (List ℕ) → List (List ℕ)
after_taking (Held sleeps forced) name names = name ∷ names
after_taking other name names = names
