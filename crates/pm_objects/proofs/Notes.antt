-- Acts as entries.
use Rattle.std.proofs.Common.{◌≡◌, Bool, true, false, ℕ, ℤ, ◌+◌, List, [], ◌∷◌, ◌++◌, Option, Some, None, Result, Ok, Err, IfOk, OnErr, refl, sym, subst, ◌∙◌, append-nil}
use Rattle.pm_bytes.specs.declared.error.Memory.{Memory}
use Rattle.pm_host.specs.Runs.{Ran}
use Rattle.pm_host.specs.declared.command.Command.{Command}
use Rattle.pm_host.specs.declared.calls.Logged.{Logged}
use Rattle.pm_folders.specs.Filing.{place_reply, EndsPlace, PlacesIn}
use Rattle.pm_folders.specs.declared.tries.PlaceEnd.{PlaceEnd}
use Rattle.pm_journal.specs.Placing.{PlaceGroup}
use Rattle.pm_journal.specs.declared.placing.FolderKind.{FolderKind}
use Rattle.pm_journal.specs.declared.placing.Stamp.{Stamp}
use Rattle.pm_journal.proofs.PlaceCause.{place_cause}
use Rattle.pm_journal.specs.Acts.{LeavesAct, NotesRun}
use Rattle.pm_journal.specs.declared.children.RunEnd.{RunEnd}
use Rattle.pm_pipe.specs.Replied.{AreReply}
use Rattle.pm_host.specs.Told.{HostView, Tells, Adds, Makes}
use Rattle.pm_host.specs.Streams.{StreamView}
use Rattle.pm_host.specs.declared.answers.Looked.{Looked}
use Rattle.pm_host.specs.declared.answers.Removed.{Removed}
use Rattle.pm_host.specs.declared.calls.Call.TheVariants.{Look, Remove, Now}
use Rattle.pm_host.specs.declared.calls.Answer.TheVariants.{Look as AnswerLook, Remove as AnswerRemove, Now as AnswerNow}
use Rattle.pm_host.proofs.RunsJoin.{tells_at, ran_none}
use Rattle.pm_journal.specs.Appending.{Appends, append_reply}
use Rattle.pm_journal.specs.Entries.{View, view_of, seen_by, counts_of, said_by, written_by, unlock_reply, Accounts}
use Rattle.pm_journal.specs.JournalState.{JournalState}
use Rattle.pm_journal.specs.Noted.{NotesAct}
use Rattle.pm_journal.specs.Replies.{IsWriteReply}
use Rattle.pm_journal.specs.declared.acts.Act.{Act}
use Rattle.pm_journal.specs.declared.acts.Act.TheVariants.{ReadFile, Probe, Append, Place, Unlock, SayFile, SayErr, WriteOut, Moment}
use Rattle.pm_journal.specs.declared.acts.Entry.{Entry}
use Rattle.pm_journal.specs.declared.acts.Reply.{Reply}
use Rattle.pm_journal.specs.declared.acts.Reply.TheVariants.{Found, Now as ReplyNow}
use Rattle.pm_journal.specs.declared.appending.AppendEnd.{AppendEnd}
use Rattle.pm_journal.proofs.OneAct.{append_accounts, say_file_accounts, probe_accounts, moment_accounts, lock_accounts, unlock_accounts}
use Rattle.pm_journal.specs.Locking.{TakesLock, lock_reply, lock_act}
use Rattle.pm_journal.specs.declared.locking.LockRule.{LockRule}
use Rattle.pm_journal.specs.declared.locking.LockEnd.{LockEnd}
use Rattle.pm_journal.proofs.ReadJoin.{read_accounts}
use Rattle.pm_append.specs.ReadsFile.{ReadsFile}
use Rattle.pm_journal.specs.Contents.{read_reply}
use Rattle.pm_append.specs.Writing.{WritesText}
use Rattle.pm_journal.specs.Sayings.{say_reply}
use Rattle.pm_journal.specs.declared.reading.ReadEnd.{ReadEnd}
use Rattle.pm_journal.specs.declared.saying.WriteEnd.{WriteEnd}
use Rattle.pm_journal.specs.declared.saying.WriteEnd.TheVariants.{Wrote, Short}

-- the entry of an act between two moments
abbrev pub entry_of : Act → Reply → View → View → Entry
entry_of act reply s t = record { act = act; reply = reply; before = counts_of s; after = counts_of t }

-- an entry that stands for what was done is a noted act
noted : (act : Act) (reply : Reply) (x y : JournalState) (s t : View) → Accounts (entry_of act reply s t ∷ []) s t → y.entries ≡ x.entries ++ entry_of act reply s t ∷ []
    → y.room + 1 ≡ x.room → NotesAct act reply x y s t
noted act reply x y s t h e r = record { entry = entry_of act reply s t; act_is = refl; reply_is = refl; entries = e; room = r; accounts = h }

pub append_notes : (refs name piece : List ℕ) (end : AppendEnd) (x y : JournalState) (a b : HostView) (out err : StreamView) → Appends name piece true end a b
    → y.entries ≡ x.entries ++ entry_of (Append name piece) (append_reply end) (seen_by refs a out err) (seen_by refs b out err) ∷ [] → y.room + 1 ≡ x.room
    → NotesAct (Append name piece) (append_reply end) x y (seen_by refs a out err) (seen_by refs b out err)
append_notes refs name piece end x y a b out err h e r =
    noted (Append name piece) (append_reply end) x y (seen_by refs a out err) (seen_by refs b out err) (append_accounts refs name piece end a b out err h) e r

pub say_file_notes : (refs name text : List ℕ) (end : AppendEnd) (x y : JournalState) (a b : HostView) (out err : StreamView) → Appends name text false end a b
    → y.entries ≡ x.entries ++ entry_of (SayFile name text) (append_reply end) (seen_by refs a out err) (seen_by refs b out err) ∷ [] → y.room + 1 ≡ x.room
    → NotesAct (SayFile name text) (append_reply end) x y (seen_by refs a out err) (seen_by refs b out err)
say_file_notes refs name text end x y a b out err h e r =
    noted (SayFile name text) (append_reply end) x y (seen_by refs a out err) (seen_by refs b out err) (say_file_accounts refs name text end a b out err h) e r

say_reply_is : (end : WriteEnd) → IsWriteReply (say_reply end)
say_reply_is Wrote = tt
say_reply_is (Short n) = tt

pub say_err_notes : (refs text : List ℕ) (end : WriteEnd) (x y : JournalState) (host : HostView) (out a b : StreamView) → WritesText text end a b
    → y.entries ≡ x.entries ++ entry_of (SayErr text) (say_reply end) (seen_by refs host out a) (seen_by refs host out b) ∷ [] → y.room + 1 ≡ x.room
    → NotesAct (SayErr text) (say_reply end) x y (seen_by refs host out a) (seen_by refs host out b)
say_err_notes refs text end x y host out a b h e r =
    noted (SayErr text) (say_reply end) x y (seen_by refs host out a) (seen_by refs host out b) (record {
      groups = [] ∷ [];
      honest = (record { reply_fits = say_reply_is end; short = h.short; none = refl }, tt);
      ran = ran_none host;
      said = subst (λ l. Tells (Adds l) a.bytes b.bytes) (sym (append-nil (said_by (SayErr text) (say_reply end)))) h.bytes;
      written = tells_at (Adds []) (λ l. sym (append-nil l)) out.bytes;
      framed = (refl, refl);
      covered = (h.failed, tt);
      same = refl;
    }) e r

pub read_notes : (refs name : List ℕ) (end : ReadEnd) (x y : JournalState) (a b : HostView) (out err : StreamView) → ReadsFile name end a b
    → y.entries ≡ x.entries ++ entry_of (ReadFile name) (read_reply end) (seen_by refs a out err) (seen_by refs b out err) ∷ [] → y.room + 1 ≡ x.room
    → NotesAct (ReadFile name) (read_reply end) x y (seen_by refs a out err) (seen_by refs b out err)
read_notes refs name end x y a b out err h e r =
    noted (ReadFile name) (read_reply end) x y (seen_by refs a out err) (seen_by refs b out err) (read_accounts refs name h.at (read_reply end) a b out err h.reads h.done) e r

pub probe_notes : (refs name : List ℕ) (looked : Looked) (x y : JournalState) (a b : HostView) (out err : StreamView) → Makes (Look name) (AnswerLook looked) a b
    → y.entries ≡ x.entries ++ entry_of (Probe name) (Found looked) (seen_by refs a out err) (seen_by refs b out err) ∷ [] → y.room + 1 ≡ x.room
    → NotesAct (Probe name) (Found looked) x y (seen_by refs a out err) (seen_by refs b out err)
probe_notes refs name looked x y a b out err h e r =
    noted (Probe name) (Found looked) x y (seen_by refs a out err) (seen_by refs b out err) (probe_accounts refs name looked a b out err h) e r

pub moment_notes : (refs : List ℕ) (moment : ℤ) (x y : JournalState) (a b : HostView) (out err : StreamView) → Makes Now (AnswerNow moment) a b
    → y.entries ≡ x.entries ++ entry_of Moment (ReplyNow moment) (seen_by refs a out err) (seen_by refs b out err) ∷ [] → y.room + 1 ≡ x.room
    → NotesAct Moment (ReplyNow moment) x y (seen_by refs a out err) (seen_by refs b out err)
moment_notes refs moment x y a b out err h e r =
    noted Moment (ReplyNow moment) x y (seen_by refs a out err) (seen_by refs b out err) (moment_accounts refs moment a b out err h) e r

pub unlock_notes : (refs name : List ℕ) (removed : Removed) (x y : JournalState) (a b : HostView) (out err : StreamView) → Makes (Remove name) (AnswerRemove removed) a b
    → y.entries ≡ x.entries ++ entry_of (Unlock name) (unlock_reply removed) (seen_by refs a out err) (seen_by refs b out err) ∷ [] → y.room + 1 ≡ x.room
    → NotesAct (Unlock name) (unlock_reply removed) x y (seen_by refs a out err) (seen_by refs b out err)
unlock_notes refs name removed x y a b out err h e r =
    noted (Unlock name) (unlock_reply removed) x y (seen_by refs a out err) (seen_by refs b out err) (unlock_accounts refs name removed a b out err h) e r

pub lock_notes : (refs name : List ℕ) (rule : LockRule) (end : LockEnd) (x y : JournalState) (a b : HostView) (out err : StreamView) → TakesLock rule name end a b
    → y.entries ≡ x.entries ++ entry_of (lock_act name rule) (lock_reply end) (seen_by refs a out err) (seen_by refs b out err) ∷ [] → y.room + 1 ≡ x.room
    → NotesAct (lock_act name rule) (lock_reply end) x y (seen_by refs a out err) (seen_by refs b out err)
lock_notes refs name rule end x y a b out err h e r =
    noted (lock_act name rule) (lock_reply end) x y (seen_by refs a out err) (seen_by refs b out err) (lock_accounts refs rule name end a b out err h) e r

-- the sink takes of a piece what it takes of a text
written_is : (piece : List ℕ) (end : WriteEnd) → said_by (SayErr piece) (say_reply end) ≡ written_by (WriteOut piece) (say_reply end)
written_is piece Wrote = refl
written_is piece (Short n) = refl

pub write_out_notes : (refs piece : List ℕ) (end : WriteEnd) (x y : JournalState) (host : HostView) (a b err : StreamView) → WritesText piece end a b
    → y.entries ≡ x.entries ++ entry_of (WriteOut piece) (say_reply end) (seen_by refs host a err) (seen_by refs host b err) ∷ [] → y.room + 1 ≡ x.room
    → NotesAct (WriteOut piece) (say_reply end) x y (seen_by refs host a err) (seen_by refs host b err)
write_out_notes refs piece end x y host a b err h e r =
    noted (WriteOut piece) (say_reply end) x y (seen_by refs host a err) (seen_by refs host b err) (record {
      groups = [] ∷ [];
      honest = (record { reply_fits = say_reply_is end; short = h.short; none = refl }, tt);
      ran = ran_none host;
      said = tells_at (Adds []) (λ l. sym (append-nil l)) err.bytes;
      written = subst (λ l. Tells (Adds l) a.bytes b.bytes) (written_is piece end ∙ sym (append-nil (written_by (WriteOut piece) (say_reply end)))) h.bytes;
      framed = (refl, refl);
      covered = (h.failed, tt);
      same = refl;
    }) e r

-- the calls of a filing that ended with a reply
placed_group : (kind : FolderKind) (folder prefix piece : List ℕ) (stamp : Stamp) (o : Option Reply) (reply : Reply) (calls : List Logged) → EndsPlace kind folder prefix piece stamp o calls → AreReply o (Ok reply)
    → PlaceGroup kind folder prefix piece stamp reply calls
placed_group kind folder prefix piece stamp (Some r) reply calls g e = subst (λ k. PlaceGroup kind folder prefix piece stamp k calls) (sym e) g
placed_group kind folder prefix piece stamp None reply calls g e = absurd e

pub place_notes : (refs : List ℕ) (kind : FolderKind) (folder prefix piece : List ℕ) (stamp : Stamp) (end : PlaceEnd) (reply : Reply) (x y : JournalState) (a b : HostView) (out err : StreamView)
    → PlacesIn kind folder prefix piece stamp end a b → AreReply (place_reply end) (Ok reply)
    → y.entries ≡ x.entries ++ entry_of (Place kind folder prefix piece stamp) reply (seen_by refs a out err) (seen_by refs b out err) ∷ [] → y.room + 1 ≡ x.room
    → NotesAct (Place kind folder prefix piece stamp) reply x y (seen_by refs a out err) (seen_by refs b out err)
place_notes refs kind folder prefix piece stamp end reply x y a b out err h is e r =
    let group = placed_group kind folder prefix piece stamp (place_reply end) reply h.calls h.group is in
    noted (Place kind folder prefix piece stamp) reply x y (seen_by refs a out err) (seen_by refs b out err) (record {
      groups = h.calls ∷ [];
      honest = (group, tt);
      ran = subst (λ l. Ran l a b) (sym (append-nil h.calls)) h.ran;
      said = tells_at (Adds []) (λ l. sym (append-nil l)) err.bytes;
      written = tells_at (Adds []) (λ l. sym (append-nil l)) out.bytes;
      framed = (refl, refl);
      covered = ((λ f. h.ran.failed (place_cause kind folder prefix piece stamp reply h.calls group f)), tt);
      same = refl;
    }) e r

-- the run of a program was noted, whoever holds the objects
pub run_held : (refs : List ℕ) (command : Command) (input : List ℕ) (want : Bool) (result : Result RunEnd Memory) (x y : JournalState) (a b : HostView) (out err : StreamView)
    → IfOk result (λ end. NotesRun command input want end x y (view_of a out err) (view_of b out err))
    → IfOk result (λ end. NotesRun command input want end x y (seen_by refs a out err) (seen_by refs b out err))
run_held refs command input want (Ok end) x y a b out err h = record {
  reply = h.reply;
  end_is = h.end_is;
  notes = record {
    entry = h.notes.entry;
    act_is = h.notes.act_is;
    reply_is = h.notes.reply_is;
    entries = h.notes.entries;
    room = h.notes.room;
    accounts = record {
      groups = h.notes.accounts.groups;
      honest = h.notes.accounts.honest;
      ran = h.notes.accounts.ran;
      said = h.notes.accounts.said;
      written = h.notes.accounts.written;
      framed = h.notes.accounts.framed;
      covered = h.notes.accounts.covered;
      same = refl;
    };
  };
}
run_held refs command input want (Err f) x y a b out err h = tt

-- so was one that was left off
pub left_held : (refs : List ℕ) (act : Act) (result : Result RunEnd Memory) (a b : HostView) (out err : StreamView)
    → OnErr result (LeavesAct act (view_of a out err) (view_of b out err)) → OnErr result (LeavesAct act (seen_by refs a out err) (seen_by refs b out err))
left_held refs act (Ok end) a b out err h = tt
left_held refs act (Err f) a b out err h = record {
  calls = h.calls;
  unfinished = h.unfinished;
  took = record { ran = h.took.ran; out_same = h.took.out_same; err_same = h.took.err_same; same = refl };
}
