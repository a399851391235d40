-- An act that comes first in a plan.
use Rattle.std.proofs.Common.{◌≡◌, ◌++◌, ap, ◌∙◌}
use Rattle.pm_journal.specs.JournalState.{JournalState}
use Rattle.pm_journal.specs.Entries.{View}
use Rattle.pm_journal.specs.Noted.{NotesAct}
use Rattle.pm_journal.specs.declared.acts.Act.{Act}
use Rattle.pm_journal.specs.declared.acts.Reply.{Reply}
use Rattle.pm_journal.specs.Plan.{Plan, and_then, ask}
use Rattle.pm_journal.specs.Executed.{Executes, OutOfMemory}
use Rattle.pm_journal.proofs.ActPlans.{act_executes, executes_then}
use Rattle.pm_journal.proofs.WantsMemory.{out_then}

-- the same from a journal that had these entries too
pub later_start : {R : Type 0} (p : Plan R) (end : R) (x w y : JournalState) (a b : View) → Executes p end w y a b → w.entries ≡ x.entries → Executes p end x y a b
later_start p end x w y a b h e = record {
  more = h.more;
  entries = h.entries ∙ ap (λ l. l ++ h.more) e;
  plays = h.plays;
  accounts = h.accounts;
}

-- an act after room was made for its entry
pub act_after_room : (act : Act) (reply : Reply) (x w y : JournalState) (a b : View) → w.entries ≡ x.entries → NotesAct act reply w y a b → Executes (ask act) reply x y a b
act_after_room act reply x w y a b e n = later_start (ask act) reply x w y a b (act_executes act reply w y a b n) e

-- the act, and then the rest by its reply
pub first_act : {S : Type 0} (act : Act) (f : Reply → Plan S) (reply : Reply) (s : S) (x w y z : JournalState) (a b c : View) → w.entries ≡ x.entries → NotesAct act reply w y a b
    → Executes (f reply) s y z b c → Executes (and_then (ask act) f) s x z a c
first_act act f reply s x w y z a b c e n k = executes_then (ask act) f reply s x y z a b c (act_after_room act reply x w y a b e n) k

-- the act, and then want of memory
pub first_act_out : {S : Type 0} (act : Act) (f : Reply → Plan S) (reply : Reply) (x w y z : JournalState) (a b c : View) → w.entries ≡ x.entries → NotesAct act reply w y a b
    → OutOfMemory (f reply) y z b c → OutOfMemory (and_then (ask act) f) x z a c
first_act_out act f reply x w y z a b c e n k = out_then (ask act) f reply x y z a b c (act_after_room act reply x w y a b e n) k
