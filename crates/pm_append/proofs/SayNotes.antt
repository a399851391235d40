-- A log act as an entry.
use Rattle.std.proofs.Common.{◌≡◌, false, ℕ, ◌+◌, List, [], ◌∷◌, ◌++◌, refl, sym, subst, append-nil}
use Rattle.pm_host.specs.Told.{HostView, Tells, Adds}
use Rattle.pm_host.specs.Streams.{StreamView}
use Rattle.pm_host.proofs.RunsJoin.{tells_at, ran_none}
use Rattle.pm_journal.specs.Appending.{Appends, append_reply}
use Rattle.pm_journal.specs.Entries.{View, view_of, counts_of, said_by, Accounts}
use Rattle.pm_journal.specs.JournalState.{JournalState}
use Rattle.pm_journal.specs.Noted.{NotesAct}
use Rattle.pm_journal.specs.Replies.{IsWriteReply}
use Rattle.pm_journal.specs.declared.acts.Act.{Act}
use Rattle.pm_journal.specs.declared.acts.Act.TheVariants.{SayFile, SayErr}
use Rattle.pm_journal.specs.declared.acts.Entry.{Entry}
use Rattle.pm_journal.specs.declared.acts.Reply.{Reply}
use Rattle.pm_journal.specs.declared.appending.AppendEnd.{AppendEnd}
use Rattle.pm_journal.proofs.OneAct.{say_file_accounts}
use Rattle.pm_append.specs.Saying.{counts_beside}
use Rattle.pm_append.specs.Writing.{WritesText}
use Rattle.pm_journal.specs.Sayings.{say_reply}
use Rattle.pm_journal.specs.declared.saying.WriteEnd.{WriteEnd}
use Rattle.pm_journal.specs.declared.saying.WriteEnd.TheVariants.{Wrote, Short}

-- the entry of an act beside this count of `out`
abbrev entry_beside : ℕ → Act → Reply → HostView → StreamView → HostView → StreamView → Entry
entry_beside out act reply a s b t = record { act = act; reply = reply; before = counts_beside out a s; after = counts_beside out b t }

noted : (act : Act) (reply : Reply) (x y : JournalState) (a b : HostView) (out s t : StreamView) (n : ℕ) → out.faults ≡ n → Accounts (entry_beside out.faults act reply a s b t ∷ []) (view_of a out s) (view_of b out t)
    → y.entries ≡ x.entries ++ entry_beside n act reply a s b t ∷ [] → y.room + 1 ≡ x.room → NotesAct act reply x y (view_of a out s) (view_of b out t)
noted act reply x y a b out s t n is h e r = record {
  entry = entry_beside out.faults act reply a s b t;
  act_is = refl;
  reply_is = refl;
  entries = subst (λ k. y.entries ≡ x.entries ++ entry_beside k act reply a s b t ∷ []) (sym is) e;
  room = r;
  accounts = h;
}

pub say_file_notes : (name text : List ℕ) (end : AppendEnd) (x y : JournalState) (a b : HostView) (out err : StreamView) (n : ℕ) → out.faults ≡ n → Appends name text false end a b
    → y.entries ≡ x.entries ++ entry_beside n (SayFile name text) (append_reply end) a err b err ∷ [] → y.room + 1 ≡ x.room
    → NotesAct (SayFile name text) (append_reply end) x y (view_of a out err) (view_of b out err)
say_file_notes name text end x y a b out err n is h e r =
    noted (SayFile name text) (append_reply end) x y a b out err err n is (say_file_accounts [] name text end a b out err h) e r

pub say_reply_is : (end : WriteEnd) → IsWriteReply (say_reply end)
say_reply_is Wrote = tt
say_reply_is (Short n) = tt

pub say_err_notes : (text : List ℕ) (end : WriteEnd) (x y : JournalState) (host : HostView) (out a b : StreamView) (n : ℕ) → out.faults ≡ n → WritesText text end a b
    → y.entries ≡ x.entries ++ entry_beside n (SayErr text) (say_reply end) host a host b ∷ [] → y.room + 1 ≡ x.room
    → NotesAct (SayErr text) (say_reply end) x y (view_of host out a) (view_of host out b)
say_err_notes text end x y host out a b n is h e r =
    noted (SayErr text) (say_reply end) x y host host out a b n is (record {
      groups = [] ∷ [];
      honest = (record { reply_fits = say_reply_is end; short = h.short; none = refl }, tt);
      ran = ran_none host;
      said = subst (λ l. Tells (Adds l) a.bytes b.bytes) (sym (append-nil (said_by (SayErr text) (say_reply end)))) h.bytes;
      written = tells_at (Adds []) (λ l. sym (append-nil l)) out.bytes;
      framed = (refl, refl);
      covered = (h.failed, tt);
      same = refl;
    }) e r
