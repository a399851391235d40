-- Appends, answer by answer, and the replies of readings.
use Rattle.std.specs.Prelude.{◌≡◌, ℕ, true, false, List, [], ◌∷◌}
use Rattle.pm_host.specs.declared.answers.Cut.TheVariants.{Cut, Failed as CutFailed}
use Rattle.pm_host.specs.declared.answers.Looked.TheVariants.{File, Folder, Nothing, Failed as LookFailed}
use Rattle.pm_host.specs.declared.answers.Made.TheVariants.{Made, Exists, Failed as MadeFailed}
use Rattle.pm_host.specs.declared.answers.Removed.TheVariants.{Removed, Absent, Failed as RemoveFailed}
use Rattle.pm_host.specs.declared.answers.Synced.TheVariants.{Synced, Failed as SyncFailed}
use Rattle.pm_host.specs.declared.answers.Took.TheVariants.{Took, Failed as TookFailed}
use Rattle.pm_host.specs.declared.calls.Answer.{Answer}
use Rattle.pm_host.specs.declared.calls.Answer.TheVariants.{Look as Looked, Create as Created, Append as Appended, Sync as Stored, Cut as CutBack, Remove as Gave}
use Rattle.pm_journal.specs.Appending.{append_step}
use Rattle.pm_journal.specs.declared.acts.Reply.TheVariants.{Missing as ReplyMissing, NotPlain as ReplyNotPlain, Faulted as ReplyFaulted}
use Rattle.pm_journal.specs.declared.appending.AppendEnd.TheVariants.{Done, Undone, Torn, IsFolder, Raced}
use Rattle.pm_journal.specs.declared.appending.AppendStep.{AppendStep}
use Rattle.pm_journal.specs.declared.appending.AppendStep.TheVariants.{Look, Create, Append, Sync, Cut as CutTo, Remove, Finish}
use Rattle.pm_append.specs.Machine.{Machine, appending, appending_heard}
use Rattle.pm_journal.specs.Contents.{read_reply}
use Rattle.pm_journal.specs.declared.reading.ReadEnd.TheVariants.{Missing, NotPlain, Faulted}

-- what an append asks, one step after the other, while these answers come
abbrev pub asked : Machine → List Answer → List AppendStep
asked m [] = append_step m.len m.sync m.at ∷ []
asked m (a ∷ more) = append_step m.len m.sync m.at ∷ asked (appending_heard m a) more

-- a delivery of so many bytes, which ends with a sync
abbrev pub delivery : ℕ → Machine
delivery len = appending len true

-- what holds of them
pub record Examples : Type 0 where
  -- a piece of 5 bytes is added to a file of 3 in two parts
  pub two_parts : asked (delivery 5) (Looked (File 3) ∷ Appended (Took 2) ∷ Appended (Took 3) ∷ Stored Synced ∷ []) ≡ Look ∷ Append 0 ∷ Append 2 ∷ Sync ∷ Finish Done ∷ []
  -- where nothing stands, the file is made
  pub new_file : asked (delivery 5) (Looked Nothing ∷ Created Made ∷ Appended (Took 5) ∷ Stored Synced ∷ []) ≡ Look ∷ Create ∷ Append 0 ∷ Sync ∷ Finish Done ∷ []
  pub no_bytes : asked (delivery 0) (Looked Nothing ∷ Created Made ∷ Stored Synced ∷ []) ≡ Look ∷ Create ∷ Sync ∷ Finish Done ∷ []
  -- a line of the log is done without a sync
  pub log_line : asked (appending 5 false) (Looked (File 3) ∷ Appended (Took 5) ∷ []) ≡ Look ∷ Append 0 ∷ Finish Done ∷ []
  pub first_log_line : asked (appending 5 false) (Looked Nothing ∷ Created Made ∷ Appended (Took 5) ∷ []) ≡ Look ∷ Create ∷ Append 0 ∷ Finish Done ∷ []
  -- a directory stands there, or others made the file meanwhile
  pub directory : asked (delivery 5) (Looked Folder ∷ []) ≡ Look ∷ Finish IsFolder ∷ []
  pub raced : asked (delivery 5) (Looked Nothing ∷ Created Exists ∷ []) ≡ Look ∷ Create ∷ Finish Raced ∷ []
  -- a failed call before any byte is taken leaves nothing to undo in a file that was there
  pub no_look : asked (delivery 5) (Looked LookFailed ∷ []) ≡ Look ∷ Finish Undone ∷ []
  pub no_create : asked (delivery 5) (Looked Nothing ∷ Created MadeFailed ∷ []) ≡ Look ∷ Create ∷ Finish Undone ∷ []
  pub no_part : asked (delivery 5) (Looked (File 3) ∷ Appended TookFailed ∷ []) ≡ Look ∷ Append 0 ∷ Finish Undone ∷ []
  -- after a part such a file is cut to its old length
  pub cut_back : asked (delivery 5) (Looked (File 3) ∷ Appended (Took 2) ∷ Appended TookFailed ∷ CutBack Cut ∷ []) ≡ Look ∷ Append 0 ∷ Append 2 ∷ CutTo 3 ∷ Finish Undone ∷ []
  pub torn : asked (delivery 5) (Looked (File 3) ∷ Appended (Took 2) ∷ Appended TookFailed ∷ CutBack CutFailed ∷ []) ≡ Look ∷ Append 0 ∷ Append 2 ∷ CutTo 3 ∷ Finish (Torn 2) ∷ []
  -- a file that was made is removed, with or without a part; one that is gone by then is undone too
  pub removed : asked (delivery 5) (Looked Nothing ∷ Created Made ∷ Appended TookFailed ∷ Gave Removed ∷ []) ≡ Look ∷ Create ∷ Append 0 ∷ Remove ∷ Finish Undone ∷ []
  pub gone_by_then : asked (delivery 5) (Looked Nothing ∷ Created Made ∷ Appended (Took 2) ∷ Appended TookFailed ∷ Gave Absent ∷ [])
      ≡ Look ∷ Create ∷ Append 0 ∷ Append 2 ∷ Remove ∷ Finish Undone ∷ []
  pub left_there : asked (delivery 5) (Looked Nothing ∷ Created Made ∷ Appended (Took 2) ∷ Appended TookFailed ∷ Gave RemoveFailed ∷ [])
      ≡ Look ∷ Create ∷ Append 0 ∷ Append 2 ∷ Remove ∷ Finish (Torn 2) ∷ []
  -- a failed sync is a failed delivery, although all bytes were taken
  pub not_stored : asked (delivery 5) (Looked (File 3) ∷ Appended (Took 5) ∷ Stored SyncFailed ∷ CutBack Cut ∷ []) ≡ Look ∷ Append 0 ∷ Sync ∷ CutTo 3 ∷ Finish Undone ∷ []
  pub not_stored_torn : asked (delivery 5) (Looked (File 3) ∷ Appended (Took 5) ∷ Stored SyncFailed ∷ CutBack CutFailed ∷ []) ≡ Look ∷ Append 0 ∷ Sync ∷ CutTo 3 ∷ Finish (Torn 5) ∷ []
  pub new_not_stored : asked (delivery 5) (Looked Nothing ∷ Created Made ∷ Appended (Took 5) ∷ Stored SyncFailed ∷ Gave Removed ∷ []) ≡ Look ∷ Create ∷ Append 0 ∷ Sync ∷ Remove ∷ Finish Undone ∷ []
  -- the replies of readings without content
  pub missing : read_reply Missing ≡ ReplyMissing
  pub not_plain : read_reply NotPlain ≡ ReplyNotPlain
  pub faulted : read_reply Faulted ≡ ReplyFaulted
