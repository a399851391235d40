-- The run of a program as an entry.
use Rattle.std.proofs.Common.{◌≡◌, true, Bool, ℕ, ◌+◌, List, [], ◌∷◌, ◌++◌, Option, Some, None, Ok, Err, refl, sym, ap, ◌∙◌, subst, inr, append-nil}
use Rattle.pm_bytes.specs.declared.error.Memory.{Memory}
use Rattle.pm_host.specs.Runs.{Ran}
use Rattle.pm_host.specs.Streams.{StreamView}
use Rattle.pm_host.specs.Told.{HostView, Adds}
use Rattle.pm_host.specs.declared.command.Command.{Command}
use Rattle.pm_host.specs.declared.calls.Logged.{Logged}
use Rattle.pm_host.proofs.RunsJoin.{tells_at}
use Rattle.pm_journal.specs.Acts.{LeavesAct}
use Rattle.pm_journal.specs.Children.{RunGroup}
use Rattle.pm_journal.specs.Entries.{view_of}
use Rattle.pm_journal.specs.Executed.{UnfinishedCalls}
use Rattle.pm_journal.specs.JournalState.{JournalState}
use Rattle.pm_journal.specs.Noted.{NotesAct}
use Rattle.pm_journal.specs.declared.acts.Act.TheVariants.{Run}
use Rattle.pm_journal.specs.declared.acts.Counts.{Counts}
use Rattle.pm_journal.specs.declared.acts.Entry.{Entry}
use Rattle.pm_journal.specs.declared.acts.Reply.{Reply}
use Rattle.pm_journal.proofs.ChildFacts.{run_cause}
use Rattle.pm_pipe.specs.Replied.{AreReply, counts_with}
use Rattle.pm_pipe.specs.Runs.{child_reply, EndsRun, RunsTo}
use Rattle.pm_pipe.specs.declared.child.ChildEnd.{ChildEnd}
use Rattle.pm_pipe.specs.declared.noting.SinkFaults.{SinkFaults}

-- the calls of a run that ended with a reply
ran_group : (command : Command) (input : List ℕ) (want : Bool) (o : Option Reply) (reply : Reply) (calls : List Logged) → EndsRun command input want o calls → AreReply o (Ok reply) → RunGroup command input want reply calls
ran_group command input want (Some r) reply calls g e = subst (λ k. RunGroup command input want k calls) (sym e) g
ran_group command input want None reply calls g e = absurd e

-- the calls of a run that was left off
ran_left : (command : Command) (input : List ℕ) (want : Bool) (o : Option Reply) (f : Memory) (calls : List Logged) → EndsRun command input want o calls → AreReply o (Err f) → UnfinishedCalls (Run command input want) calls
ran_left command input want (Some r) f calls g e = absurd e
ran_left command input want None f calls g e = inr g

-- only where output is wanted it is left off
ran_wanted : (command : Command) (input : List ℕ) (want : Bool) (o : Option Reply) (f : Memory) (calls : List Logged) → EndsRun command input want o calls → AreReply o (Err f) → want ≡ true
ran_wanted command input want (Some r) f calls g e = absurd e
ran_wanted command input want None f calls g e = g.0

-- the entry of a run, with these counts of the sinks
abbrev entry_by : Command → List ℕ → Bool → Reply → Counts → Counts → Entry
entry_by command input want reply before after = record { act = Run command input want; reply = reply; before = before; after = after }

-- the counts of faults, part by part
abbrev the_counts : ℕ → ℕ → ℕ → Counts
the_counts host out err = record { host = host; out = out; err = err }

-- the same entry by the numbers of both sinks
entry_same : (command : Command) (input : List ℕ) (want : Bool) (reply : Reply) (h k out err m n : ℕ) → out ≡ m → err ≡ n
    → entry_by command input want reply (the_counts h m n) (the_counts k m n) ≡ entry_by command input want reply (the_counts h out err) (the_counts k out err)
entry_same command input want reply h k out err m n o e =
    ap (λ x. entry_by command input want reply (the_counts h x n) (the_counts k x n)) (sym o)
    ∙ ap (λ x. entry_by command input want reply (the_counts h out x) (the_counts k out x)) (sym e)

pub run_notes : (command : Command) (input : List ℕ) (want : Bool) (end : ChildEnd) (reply : Reply) (x y : JournalState) (a b : HostView) (sinks : SinkFaults) (out err : StreamView)
    → out.faults ≡ sinks.out → err.faults ≡ sinks.err → RunsTo command input want (child_reply end) a b → AreReply (child_reply end) (Ok reply)
    → y.entries ≡ x.entries ++ entry_by command input want reply (counts_with sinks a) (counts_with sinks b) ∷ [] → y.room + 1 ≡ x.room
    → NotesAct (Run command input want) reply x y (view_of a out err) (view_of b out err)
run_notes command input want end reply x y a b sinks out err o s h is e r =
    let group = ran_group command input want (child_reply end) reply h.calls h.group is in
    record {
      entry = entry_by command input want reply (the_counts a.faults out.faults err.faults) (the_counts b.faults out.faults err.faults);
      act_is = refl;
      reply_is = refl;
      entries = subst (λ k. y.entries ≡ x.entries ++ k ∷ []) (entry_same command input want reply a.faults b.faults out.faults err.faults sinks.out sinks.err o s) e;
      room = r;
      accounts = record {
        groups = h.calls ∷ [];
        honest = (group, tt);
        ran = subst (λ l. Ran l a b) (sym (append-nil h.calls)) h.ran;
        said = tells_at (Adds []) (λ l. sym (append-nil l)) err.bytes;
        written = tells_at (Adds []) (λ l. sym (append-nil l)) out.bytes;
        framed = (refl, refl);
        covered = ((λ f. h.ran.failed (run_cause command input want reply h.calls group f)), tt);
        same = refl;
      };
    }

pub run_left : (command : Command) (input : List ℕ) (want : Bool) (end : ChildEnd) (f : Memory) (a b : HostView) (out err : StreamView) → RunsTo command input want (child_reply end) a b
    → AreReply (child_reply end) (Err f) → LeavesAct (Run command input want) (view_of a out err) (view_of b out err)
run_left command input want end f a b out err h is = record {
  calls = h.calls;
  unfinished = ran_left command input want (child_reply end) f h.calls h.group is;
  took = record { ran = h.ran; out_same = refl; err_same = refl; same = refl };
}

pub run_wanted : (command : Command) (input : List ℕ) (want : Bool) (end : ChildEnd) (f : Memory) (a b : HostView) → RunsTo command input want (child_reply end) a b → AreReply (child_reply end) (Err f) → want ≡ true
run_wanted command input want end f a b h is = ran_wanted command input want (child_reply end) f h.calls h.group is
