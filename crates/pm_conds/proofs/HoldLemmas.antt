-- Conditions that hold, in plans.
use Rattle.std.proofs.Common.{◌≡◌, ℕ, Bool, true, false, List, [], ◌∷◌, Option, Result, Ok, Err, IfOk, OnErr, refl, sym, subst}
use Rattle.pm_bytes.specs.declared.error.Memory.{Memory}
use Rattle.pm_host.specs.Streams.{StreamView}
use Rattle.pm_host.specs.Told.{HostView}
use Rattle.pm_host.specs.declared.command.Command.{Command}
use Rattle.pm_recipe.specs.declared.tree.Condition.{Condition}
use Rattle.pm_recipe.specs.declared.tree.Flags.{Flags}
use Rattle.pm_journal.specs.Acts.{NotesRun, LeavesAct}
use Rattle.pm_journal.specs.Entries.{View, view_of, seen_by, Accounts}
use Rattle.pm_journal.specs.Executed.{Executes, Carries}
use Rattle.pm_journal.specs.JournalState.{JournalState}
use Rattle.pm_journal.specs.Noted.{NotesAct}
use Rattle.pm_journal.specs.Sayings.{NotesSaid, say_act}
use Rattle.pm_journal.specs.declared.acts.Act.{Act}
use Rattle.pm_journal.specs.declared.acts.Entry.{Entry}
use Rattle.pm_journal.specs.declared.acts.Reply.{Reply}
use Rattle.pm_journal.specs.declared.children.RunEnd.{RunEnd}
use Rattle.pm_meaning.specs.Logging.{log, logged}
use Rattle.pm_meaning.specs.Minds.{Mind}
use Rattle.pm_meaning.specs.Turns.{say_then}
use Rattle.pm_meaning.proofs.Choices.{line_told}
use Rattle.pm_meaning.specs.Judging.{held_with}
use Rattle.pm_conds.specs.Holding.{Holds, holding_alone, verdict_of}

-- what was done, whoever holds the objects
accounts_held : (refs : List ℕ) (es : List Entry) (a b : HostView) (out err s : StreamView) → Accounts es (view_of a out err) (view_of b out s) → Accounts es (seen_by refs a out err) (seen_by refs b out s)
accounts_held refs es a b out err s h = record {
  groups = h.groups;
  honest = h.honest;
  ran = h.ran;
  said = h.said;
  written = h.written;
  framed = h.framed;
  covered = h.covered;
  same = refl;
}

notes_held : (refs : List ℕ) (act : Act) (reply : Reply) (x y : JournalState) (a b : HostView) (out err s : StreamView) → NotesAct act reply x y (view_of a out err) (view_of b out s)
    → NotesAct act reply x y (seen_by refs a out err) (seen_by refs b out s)
notes_held refs act reply x y a b out err s h = record {
  entry = h.entry;
  act_is = h.act_is;
  reply_is = h.reply_is;
  entries = h.entries;
  room = h.room;
  accounts = accounts_held refs (h.entry ∷ []) a b out err s h.accounts;
}

pub said_held : (refs : List ℕ) (to : Option (List ℕ)) (text : List ℕ) (x y : JournalState) (a b : HostView) (out err s : StreamView) → NotesSaid to text x y (view_of a out err) (view_of b out s)
    → NotesSaid to text x y (seen_by refs a out err) (seen_by refs b out s)
said_held refs to text x y a b out err s h = record { reply = h.reply; notes = notes_held refs (say_act to text) h.reply x y a b out err s h.notes }

pub run_held : (refs : List ℕ) (command : Command) (input : List ℕ) (want : Bool) (result : Result RunEnd Memory) (x y : JournalState) (a b : HostView) (out err : StreamView)
    → IfOk result (λ end. NotesRun command input want end x y (view_of a out err) (view_of b out err))
    → IfOk result (λ end. NotesRun command input want end x y (seen_by refs a out err) (seen_by refs b out err))
run_held refs command input want (Ok end) x y a b out err h = record { reply = h.reply; end_is = h.end_is; notes = notes_held refs _ h.reply x y a b out err err h.notes }
run_held refs command input want (Err f) x y a b out err h = tt

pub left_held : (refs : List ℕ) (act : Act) (result : Result RunEnd Memory) (a b : HostView) (out err : StreamView)
    → OnErr result (LeavesAct act (view_of a out err) (view_of b out err)) → OnErr result (LeavesAct act (seen_by refs a out err) (seen_by refs b out err))
left_held refs act (Ok end) a b out err h = tt
left_held refs act (Err f) a b out err h = record {
  calls = h.calls;
  unfinished = h.unfinished;
  took = record { ran = h.took.ran; out_same = h.took.out_same; err_same = h.took.err_same; same = refl };
}

-- the verdict of what was carried out
pub verdict_holds : (conditions : List Condition) (flags : Flags) (p q : Mind) (result : Result Bool Memory) (x y : JournalState) (a b : View)
    → Carries (holding_alone conditions flags p) (λ held. held_with held q) result x y a b → Holds (verdict_of result) conditions flags p q x y a b
verdict_holds conditions flags p q (Ok true) x y a b h = h.0
verdict_holds conditions flags p q (Ok false) x y a b h = h.0
verdict_holds conditions flags p q (Err e) x y a b h = h.1

-- a defect was told, and the conditions don't hold
pub defect_told : (line shown : List ℕ) (p q r : Mind) (x y : JournalState) (a b : View) → shown ≡ line → r ≡ q → Executes (log shown p) logged x y a b
    → Executes (say_then p line (held_with false q)) (held_with false r) x y a b
defect_told line shown p q r x y a b is same h =
    subst (λ m. Executes (say_then p line (held_with false q)) (held_with false m) x y a b) (sym same) (line_told p line shown (held_with false q) x y a b is h)
