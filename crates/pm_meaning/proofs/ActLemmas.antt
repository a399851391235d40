-- A program that was run after room was made for its entry, or left off.
use Rattle.std.proofs.Common.{◌≡◌, ◌≤◌, ◌+◌, List, [], ◌∷◌, ◌++◌, ℕ, Bool, length, Result, Ok, Err, IfOk, OnErr, refl, sym, ap, ◌∙◌, subst, arith}
use Rattle.pm_bytes.specs.declared.error.Memory.{Memory}
use Rattle.pm_host.specs.declared.command.Command.{Command}
use Rattle.pm_journal.specs.Acts.{LeavesAct, NotesRun}
use Rattle.pm_journal.specs.Entries.{View}
use Rattle.pm_journal.specs.Executed.{OutOfMemory}
use Rattle.pm_journal.specs.Held.{Keeping}
use Rattle.pm_journal.specs.JournalState.{JournalState}
use Rattle.pm_journal.specs.Outcomes.{output_in, last_output}
use Rattle.pm_journal.specs.Plan.{Ends, ask}
use Rattle.pm_journal.specs.declared.acts.Act.{Act}
use Rattle.pm_journal.specs.declared.acts.Act.TheVariants.{Run}
use Rattle.pm_journal.specs.declared.acts.Entry.{Entry}
use Rattle.pm_journal.specs.declared.children.RunEnd.{RunEnd}
use Rattle.pm_journal.proofs.FirstActs.{act_after_room}
use Rattle.pm_journal.proofs.KeepingActs.{keeping_plain}
use Rattle.pm_journal.proofs.KeepsJoin.{keeping_same}
use Rattle.pm_journal.proofs.WantsMemory.{out_left_off}
use Rattle.pm_meaning.specs.Acts.{RunsProgram}

last_output-end : (es : List Entry) (e : Entry) → last_output (es ++ e ∷ []) ≡ output_in e.reply
last_output-end [] e = refl
last_output-end (x ∷ []) e = refl
last_output-end (x ∷ (y ∷ ys)) e = last_output-end (y ∷ ys) e

pub program_run : (command : Command) (input : List ℕ) (want : Bool) (result : Result RunEnd Memory) (x w y : JournalState) (a b : View) → w.entries ≡ x.entries
    → IfOk result (λ end. NotesRun command input want end w y a b) → IfOk result (λ end. RunsProgram command input want end x y a b)
program_run command input want (Ok end) x w y a b e h = record {
  reply = h.reply;
  end_is = h.end_is;
  output = ap last_output h.notes.entries ∙ last_output-end w.entries h.notes.entry ∙ ap output_in h.notes.reply_is;
  executes = act_after_room (Run command input want) h.reply x w y a b e h.notes;
}
program_run command input want (Err f) x w y a b e h = tt

-- an act was done after room was made for it, or left off
pub act_left : {A : Type 0} (act : Act) (result : Result A Memory) (x w y : JournalState) (a b : View) → w.entries ≡ x.entries → OnErr result (LeavesAct act a b) → OnErr result (y ≡ w)
    → OnErr result (OutOfMemory (ask act) x y a b)
act_left act (Ok end) x w y a b e h k = tt
act_left act (Err f) x w y a b e h k = out_left_off act (λ reply. Ends reply) x y a b h.calls (ap (λ j. j.entries) k ∙ e) h.unfinished h.took

-- the locks are held as before, whether the program was run or left off
pub run_keeps : (command : Command) (input : List ℕ) (want : Bool) (result : Result RunEnd Memory) (x w y : JournalState) (names : List (List ℕ)) (a b : View) → Keeping x names → w.entries ≡ x.entries
    → length names + 1 ≤ w.room → IfOk result (λ end. NotesRun command input want end w y a b) → OnErr result (y ≡ w) → Keeping y names
run_keeps command input want (Ok end) x w y names a b h e room n same = keeping_plain (Run command input want) n.reply x w y names a b tt h e room n.notes
run_keeps command input want (Err f) x w y names a b h e room n same =
    let kept = keeping_same x w names h e (omega arith) in subst (λ j. Keeping j names) (sym same) kept
