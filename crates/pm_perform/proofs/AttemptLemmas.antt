-- Attempts to deliver, in plans.
use Rattle.std.proofs.Common.{◌≡◌, Bool, Some, None, List, ℕ, ◌∷◌, ◌++◌, refl, sym, ap, ◌∙◌, subst}
use Rattle.pm_host.specs.declared.answers.Removed.{Removed}
use Rattle.pm_journal.specs.JournalState.{JournalState}
use Rattle.pm_journal.specs.Entries.{View, unlock_reply}
use Rattle.pm_journal.specs.Held.{without, held_by}
use Rattle.pm_journal.specs.Locking.{lock_act, lock_reply}
use Rattle.pm_journal.specs.Noted.{NotesAct}
use Rattle.pm_journal.specs.declared.acts.Act.TheVariants.{Unlock}
use Rattle.pm_journal.specs.declared.acts.Reply.{Reply}
use Rattle.pm_journal.specs.declared.locking.LockRule.{LockRule}
use Rattle.pm_journal.specs.declared.locking.LockEnd.{LockEnd}
use Rattle.pm_journal.specs.declared.locking.LockEnd.TheVariants.{Held}
use Rattle.pm_journal.specs.Plan.{Plan, Ends}
use Rattle.pm_journal.specs.Executed.{Executes, OutOfMemory}
use Rattle.pm_journal.proofs.ActPlans.{executes_then}
use Rattle.pm_journal.proofs.FirstActs.{later_start, first_act, first_act_out}
use Rattle.pm_journal.proofs.WantsMemory.{executes_nothing, out_front}
use Rattle.pm_recipe.specs.declared.tree.Flags.{Flags}
use Rattle.pm_meaning.specs.Delivering.{Filing, Attempted, file_all, give_back, under_lock, attempt}
use Rattle.pm_meaning.specs.Locks.{is_fault, rule_of, with_lock}
use Rattle.pm_meaning.specs.Minds.{Mind}
use Rattle.pm_meaning.specs.declared.process.Destination.{Destination}
use Rattle.pm_meaning.specs.declared.process.Filed.{Filed}
use Rattle.pm_meaning.specs.declared.process.Attempt.TheVariants.{Unlocked, Locked}
use Rattle.pm_perform.specs.Copies.{filing_of, attempted_of}

-- the same from a journal that had these entries too
later_out : {R : Type 0} (p : Plan R) (x w y : JournalState) (a b : View) → OutOfMemory p w y a b → w.entries ≡ x.entries → OutOfMemory p x y a b
later_out p x w y a b h e = record {
  more = h.more;
  entries = h.entries ∙ ap (λ l. l ++ h.more) e;
  middle = h.middle;
  accounts = h.accounts;
  left_off = h.left_off;
  where_off = h.where_off;
  took = h.took;
}

-- no lock was asked for
pub attempted_plain : (flags : Flags) (ds : List Destination) (p q : Mind) (filed : Filed) (x w y : JournalState) (a b : View) → w.entries ≡ x.entries
    → Executes (file_all flags ds p) (filing_of filed q) w y a b → Executes (attempt None flags ds p) (attempted_of (Unlocked filed) q) x y a b
attempted_plain flags ds p q filed x w y a b e h =
    let last : Filing → Plan Attempted = λ filing. Ends (attempted_of (Unlocked filing.filed) filing.mind) in
    executes_then (file_all flags ds p) last (filing_of filed q) (attempted_of (Unlocked filed) q) x y y a b b
    (later_start (file_all flags ds p) (filing_of filed q) x w y a b h e) (executes_nothing (attempted_of (Unlocked filed) q) y y b refl)

pub attempted_plain_out : (flags : Flags) (ds : List Destination) (p : Mind) (x w y : JournalState) (a b : View) → w.entries ≡ x.entries → OutOfMemory (file_all flags ds p) w y a b → OutOfMemory (attempt None flags ds p) x y a b
attempted_plain_out flags ds p x w y a b e h =
    let last : Filing → Plan Attempted = λ filing. Ends (attempted_of (Unlocked filing.filed) filing.mind) in
    later_out (attempt None flags ds p) x w y a b (out_front (file_all flags ds p) last w y a b h) e

-- the lock that was asked for
taken_as : (name noted : List ℕ) (rule : LockRule) (end : LockEnd) (sleeps forced : ℕ) (p : Mind) (w y : JournalState) (a b : View) → noted ≡ name → rule ≡ rule_of p.vars → end ≡ Held sleeps forced
    → NotesAct (lock_act noted rule) (lock_reply end) w y a b → NotesAct (lock_act name (rule_of p.vars)) (lock_reply (Held sleeps forced)) w y a b
taken_as name noted rule end sleeps forced p w y a b same by got lock =
    subst (λ n. NotesAct (lock_act n (rule_of p.vars)) (lock_reply (Held sleeps forced)) w y a b) same
    (subst (λ u. NotesAct (lock_act noted u) (lock_reply (Held sleeps forced)) w y a b) by
    (subst (λ u. NotesAct (lock_act noted rule) (lock_reply u) w y a b) got lock))

-- the lock was got, the destinations got the mail or some of them, and the lock was given back
pub attempted_locked : (flags : Flags) (ds : List Destination) (name noted : List ℕ) (rule : LockRule) (end : LockEnd) (sleeps forced : ℕ) (p q r s : Mind) (filed : Filed) (removed : Removed) (stuck : Bool)
    (x w y z v : JournalState) (a b c d : View) → noted ≡ name → rule ≡ rule_of p.vars → end ≡ Held sleeps forced → w.entries ≡ x.entries
    → NotesAct (lock_act noted rule) (lock_reply end) w y a b → q ≡ with_lock name p → Executes (file_all flags ds q) (filing_of filed r) y z b c
    → NotesAct (Unlock name) (unlock_reply removed) z v c d → stuck ≡ is_fault (unlock_reply removed) → s ≡ record r { locks = without r.locks name }
    → Executes (attempt (Some name) flags ds p) (attempted_of (Locked name forced filed stuck) s) x v a d
attempted_locked flags ds name noted rule end sleeps forced p q r s filed removed stuck x w y z v a b c d same by got e lock with files unlock fault back =
    let last : Bool → Mind → Attempted = λ l m. attempted_of (Locked name forced filed l) m in
    let end0 : Attempted = last (is_fault (unlock_reply removed)) (record r { locks = without r.locks name }) in
    let end1 : Attempted = last stuck s in
    let sameEnd : end0 ≡ end1 = ap (λ l. last l (record r { locks = without r.locks name })) (sym fault) ∙ ap (last stuck) (sym back) in
    let give : Reply → Plan Attempted = λ reply. Ends (last (is_fault reply) (record r { locks = without r.locks name })) in
    let gives : Executes (give_back name forced (filing_of filed r)) end0 z v c d = first_act (Unlock name) give (unlock_reply removed) end0 z z v v c d d refl unlock (executes_nothing end0 v v d refl) in
    let all : Executes (file_all flags ds (with_lock name p)) (filing_of filed r) y z b c = subst (λ m. Executes (file_all flags ds m) (filing_of filed r) y z b c) with files in
    let rest : Executes (under_lock name flags ds p (lock_reply (Held sleeps forced))) end0 y v b d =
    executes_then (file_all flags ds (with_lock name p)) (give_back name forced) (filing_of filed r) end0 y z v b c d all gives in
    subst (λ u. Executes (attempt (Some name) flags ds p) u x v a d) sameEnd
    (first_act (lock_act name (rule_of p.vars)) (under_lock name flags ds p) (lock_reply (Held sleeps forced)) end0 x w y v a b d e (taken_as name noted rule end sleeps forced p w y a b same by got lock) rest)

-- the lock was got, and memory was wanting while it was held
pub attempted_locked_out : (flags : Flags) (ds : List Destination) (name noted : List ℕ) (rule : LockRule) (end : LockEnd) (sleeps forced : ℕ) (p q : Mind) (x w y z : JournalState) (a b c : View) → noted ≡ name → rule ≡ rule_of p.vars
    → end ≡ Held sleeps forced → w.entries ≡ x.entries → NotesAct (lock_act noted rule) (lock_reply end) w y a b → q ≡ with_lock name p → OutOfMemory (file_all flags ds q) y z b c
    → OutOfMemory (attempt (Some name) flags ds p) x z a c
attempted_locked_out flags ds name noted rule end sleeps forced p q x w y z a b c same by got e lock with files =
    let all : OutOfMemory (file_all flags ds (with_lock name p)) y z b c = subst (λ m. OutOfMemory (file_all flags ds m) y z b c) with files in
    first_act_out (lock_act name (rule_of p.vars)) (under_lock name flags ds p) (lock_reply (Held sleeps forced)) x w y z a b c e (taken_as name noted rule end sleeps forced p w y a b same by got lock)
    (out_front (file_all flags ds (with_lock name p)) (give_back name forced) y z b c all)

-- the mind of a process that holds the lock that it was asked for
pub locked_mind : (name noted : List ℕ) (rule : LockRule) (end : LockEnd) (sleeps forced : ℕ) (before held : List (List ℕ)) (p : Mind) → noted ≡ name → end ≡ Held sleeps forced → before ≡ p.locks
    → held ≡ held_by (lock_act noted rule) (lock_reply end) before → record p { locks = held } ≡ with_lock name p
locked_mind name noted rule end sleeps forced before held p same got first e =
    ap (λ l. record p { locks = l }) (e ∙ ap (λ u. held_by (lock_act noted rule) (lock_reply u) before) got ∙ ap (λ n. n ∷ before) same ∙ ap (λ l. name ∷ l) first)
