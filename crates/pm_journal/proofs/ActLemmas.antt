-- Acts after room was made, a file that was read in one act or in part, and locks that are given back.
use Rattle.std.proofs.Common.{◌≡◌, ◌≤◌, ◌+◌, List, [], ◌∷◌, ◌++◌, ℕ, length, Option, Some, None, Result, Ok, Err, IfOk, OnErr, refl, sym, ap, ◌∙◌, subst, append_assoc, append-nil, arith}
use Rattle.pm_bytes.specs.declared.error.Memory.{Memory}
use Rattle.pm_journal.specs.JournalState.{JournalState}
use Rattle.pm_journal.specs.Entries.{View, Accounts}
use Rattle.pm_journal.specs.Executed.{OutOfMemory, GivesEach}
use Rattle.pm_journal.specs.Held.{AreUnlocks, Keeping}
use Rattle.pm_journal.specs.Plan.{Ends, ask}
use Rattle.pm_journal.specs.Noted.{NotesAct}
use Rattle.pm_journal.specs.Held.{held_by}
use Rattle.pm_journal.specs.Locking.{lock_act, lock_reply}
use Rattle.pm_journal.specs.declared.locking.LockRule.{LockRule}
use Rattle.pm_journal.specs.declared.locking.LockEnd.{LockEnd}
use Rattle.pm_journal.specs.declared.locking.LockEnd.TheVariants.{Held, Busy, Failed}
use Rattle.pm_journal.specs.declared.acts.Reply.{Reply}
use Rattle.pm_journal.specs.declared.acts.Act.TheVariants.{ReadFile, Unlock}
use Rattle.pm_journal.specs.Outcomes.{is_missing, last_missing}
use Rattle.pm_journal.specs.declared.acts.Entry.{Entry}
use Rattle.pm_journal.proofs.AccountsJoin.{accounts_join, accounts_none}
use Rattle.pm_journal.proofs.FirstActs.{act_after_room}
use Rattle.pm_journal.proofs.KeepingActs.{IsPlain, keeping_plain, keeping_unlock}
use Rattle.pm_journal.proofs.KeepsJoin.{keeping_same}
use Rattle.pm_journal.proofs.WantsMemory.{out_left_off}
use Rattle.pm_journal.specs.Sayings.{say_act}
use Rattle.pm_journal.specs.Acts.{NotesRead, ReadsWhole, LeavesAct, after_taking}

last_missing-end : (es : List Entry) (e : Entry) → last_missing (es ++ e ∷ []) ≡ is_missing e.reply
last_missing-end [] e = refl
last_missing-end (x ∷ []) e = refl
last_missing-end (x ∷ (y ∷ ys)) e = last_missing-end (y ∷ ys) e

-- a text that is said takes and gives no lock
pub said_plain : (to : Option (List ℕ)) (text : List ℕ) → IsPlain (say_act to text)
said_plain None text = tt
said_plain (Some name) text = tt

pub file_read : (name : List ℕ) (result : Result (Option (List ℕ)) Memory) (x w y : JournalState) (a b : View) → w.entries ≡ x.entries
    → IfOk result (λ content. NotesRead name content w y a b) → IfOk result (λ content. ReadsWhole name content x y a b)
file_read name (Ok content) x w y a b e h = record {
  reply = h.reply;
  content_is = h.content_is;
  missing = ap last_missing h.notes.entries ∙ last_missing-end w.entries h.notes.entry ∙ ap is_missing h.notes.reply_is;
  executes = act_after_room (ReadFile name) h.reply x w y a b e h.notes;
}
file_read name (Err f) x w y a b e h = tt

pub file_left : (name : List ℕ) (result : Result (Option (List ℕ)) Memory) (x w y : JournalState) (a b : View) → w.entries ≡ x.entries → OnErr result (LeavesAct (ReadFile name) a b) → OnErr result (y ≡ w)
    → OnErr result (OutOfMemory (ask (ReadFile name)) x y a b)
file_left name (Ok content) x w y a b e h k = tt
file_left name (Err f) x w y a b e h k = out_left_off (ReadFile name) (λ reply. Ends reply) x y a b h.calls (ap (λ j. j.entries) k ∙ e) h.unfinished h.took

-- the locks are held as before, whether the file was read or left off
pub read_keeps : (name : List ℕ) (result : Result (Option (List ℕ)) Memory) (x w y : JournalState) (names : List (List ℕ)) (a b : View) → Keeping x names → w.entries ≡ x.entries → length names + 1 ≤ w.room
    → IfOk result (λ content. NotesRead name content w y a b) → OnErr result (y ≡ w) → Keeping y names
read_keeps name (Ok content) x w y names a b h e room n same = keeping_plain (ReadFile name) n.reply x w y names a b tt h e room n.notes
read_keeps name (Err f) x w y names a b h e room n same =
    let kept = keeping_same x w names h e (omega arith) in subst (λ j. Keeping j names) (sym same) kept

-- some of the locks were given back, and these are left
pub record Giving (names left : List (List ℕ)) (old new : JournalState) (before after : View) : Type 0 where
  pub given : List Entry
  pub entries : new.entries ≡ old.entries ++ given
  pub goes : (more : List Entry) → AreUnlocks left more → AreUnlocks names (given ++ more)
  pub accounts : Accounts given before after

pub giving_begun : (names : List (List ℕ)) (x : JournalState) (s : View) → Giving names names x x s s
giving_begun names x s = record { given = []; entries = sym (append-nil x.entries); goes = λ more h. h; accounts = accounts_none s }

pub giving_goes_on : (names left rest : List (List ℕ)) (name : List ℕ) (reply : Reply) (x y z : JournalState) (a b c : View) → Giving names left x y a b → left ≡ name ∷ rest → NotesAct (Unlock name) reply y z b c
    → Giving names rest x z a c
giving_goes_on names left rest name reply x y z a b c h was u = record {
  given = h.given ++ u.entry ∷ [];
  entries = u.entries ∙ ap (λ l. l ++ u.entry ∷ []) h.entries ∙ append_assoc x.entries h.given (u.entry ∷ []);
  goes = λ more k. subst (AreUnlocks names) (sym (append_assoc h.given (u.entry ∷ []) more)) (h.goes (u.entry ∷ more) (subst (λ l. AreUnlocks l (u.entry ∷ more)) (sym was) (u.act_is, k)));
  accounts = accounts_join h.given (u.entry ∷ []) a b c h.accounts u.accounts;
}

pub giving_over : (names left : List (List ℕ)) (x y : JournalState) (a b : View) → Giving names left x y a b → left ≡ [] → GivesEach names x y a b
giving_over names left x y a b h was = record {
  given = h.given;
  entries = h.entries;
  unlocks = subst (AreUnlocks names) (append-nil h.given) (h.goes [] (subst (λ l. AreUnlocks l []) (sym was) tt));
  accounts = h.accounts;
}

-- the lock that was taken last has left the held ones with its unlock
pub keeping_first : (names rest : List (List ℕ)) (name : List ℕ) (reply : Reply) (x y : JournalState) (a b : View) → Keeping x names → names ≡ name ∷ rest → NotesAct (Unlock name) reply x y a b → Keeping y rest
keeping_first names rest name reply x y a b h was u = keeping_unlock name reply x y rest a b (subst (Keeping x) was h) u

-- the held locks after the taking of a lock are those that its reply leaves
pub taken_held : (name : List ℕ) (rule : LockRule) (end : LockEnd) (names : List (List ℕ)) → after_taking end name names ≡ held_by (lock_act name rule) (lock_reply end) names
taken_held name rule (Held sleeps forced) names = refl
taken_held name rule Busy names = refl
taken_held name rule Failed names = refl
