-- Errands under a lock file, in plans.
use Rattle.std.proofs.Common.{◌≡◌, Bool, Option, Some, None, Result, List, ℕ, ◌++◌, refl, sym, ap, ◌∙◌, subst}
use Rattle.pm_bytes.specs.declared.error.Memory.{Memory}
use Rattle.pm_host.specs.declared.answers.Removed.{Removed}
use Rattle.pm_journal.specs.JournalState.{JournalState}
use Rattle.pm_journal.specs.Entries.{View, unlock_reply}
use Rattle.pm_journal.specs.Held.{without}
use Rattle.pm_journal.specs.Locking.{lock_act, lock_reply}
use Rattle.pm_journal.specs.Noted.{NotesAct}
use Rattle.pm_journal.specs.declared.acts.Act.TheVariants.{Unlock}
use Rattle.pm_journal.specs.declared.acts.Reply.{Reply}
use Rattle.pm_journal.specs.declared.locking.LockRule.{LockRule}
use Rattle.pm_journal.specs.declared.locking.LockEnd.{LockEnd}
use Rattle.pm_journal.specs.declared.locking.LockEnd.TheVariants.{Held}
use Rattle.pm_journal.specs.Plan.{Plan, Ends}
use Rattle.pm_journal.specs.Executed.{Executes, OutOfMemory, Carries}
use Rattle.pm_journal.proofs.ActPlans.{executes_then}
use Rattle.pm_journal.proofs.FirstActs.{first_act, first_act_out, later_start}
use Rattle.pm_journal.proofs.WantsMemory.{executes_nothing, out_front}
use Rattle.pm_meaning.specs.Locks.{is_fault, rule_of, with_lock}
use Rattle.pm_meaning.specs.Minds.{Mind}
use Rattle.pm_meaning.specs.ProgramActions.{Tried, Trying, unlock_after, try_locked, try_under}
use Rattle.pm_meaning.specs.declared.process.Outcome.{Outcome}
use Rattle.pm_meaning.specs.declared.process.Trial.TheVariants.{Unlocked, Locked}
use Rattle.pm_perform.specs.Errands.{tried_of, trying_of}
use Rattle.pm_meaning.proofs.Choices.{ok_map, err_map}

-- the same from a journal that had these entries too
later_out : {R : Type 0} (p : Plan R) (x w y : JournalState) (a b : View) → OutOfMemory p w y a b → w.entries ≡ x.entries → OutOfMemory p x y a b
later_out p x w y a b h e = record {
  more = h.more;
  entries = h.entries ∙ ap (λ l. l ++ h.more) e;
  middle = h.middle;
  accounts = h.accounts;
  left_off = h.left_off;
  where_off = h.where_off;
  took = h.took;
}

-- the lock was made ready for, and then tried
pub request_then : {A : Type 0} (work : Mind → Plan Tried) (lock : Option (List ℕ)) (name shown : List ℕ) (p q : Mind) (to : A → Trying) (answer : Result A Memory) (x w y : JournalState) (a b : View) → lock ≡ Some name → shown ≡ name → q ≡ p
    → w.entries ≡ x.entries → Carries (try_under (Some shown) work q) to answer w y a b → Carries (try_under lock work p) to answer x y a b
request_then work lock name shown p q to answer x w y a b is same mind e h =
    let plan = try_under (Some shown) work q in
    let whole : plan ≡ try_under lock work p = ap (λ m. try_under (Some shown) work m) mind ∙ ap (λ n. try_under (Some n) work p) same ∙ ap (λ l. try_under l work p) (sym is) in
    subst (λ u. Carries u to answer x y a b) whole
    (ok_map answer _ _ (λ v l. later_start plan (to v) x w y a b l e) h.0, err_map answer _ _ (λ l. later_out plan x w y a b l e) h.1)

-- no lock was asked for
pub tried_free : (work : Mind → Plan Tried) (p q : Mind) (outcome : Outcome) (x w y : JournalState) (a b : View) → w.entries ≡ x.entries → Executes (work p) (tried_of outcome q) w y a b
    → Executes (try_under None work p) (trying_of (Unlocked outcome) q) x y a b
tried_free work p q outcome x w y a b e h =
    let last : Tried → Plan Trying = λ t. Ends (record { trial = Unlocked t.outcome; mind = t.mind }) in
    executes_then (work p) last (tried_of outcome q) (trying_of (Unlocked outcome) q) x y y a b b (later_start (work p) (tried_of outcome q) x w y a b h e)
    (executes_nothing (trying_of (Unlocked outcome) q) y y b refl)

pub tried_free_out : (work : Mind → Plan Tried) (p : Mind) (x w y : JournalState) (a b : View) → w.entries ≡ x.entries → OutOfMemory (work p) w y a b → OutOfMemory (try_under None work p) x y a b
tried_free_out work p x w y a b e h = out_front (work p) (λ t. Ends (record { trial = Unlocked t.outcome; mind = t.mind })) x y a b (later_out (work p) x w y a b h e)

-- the lock was asked for by this rule, and got
taken_so : (name noted : List ℕ) (rule : LockRule) (end : LockEnd) (sleeps forced : ℕ) (p : Mind) (w y : JournalState) (a b : View) → noted ≡ name → rule ≡ rule_of p.vars → end ≡ Held sleeps forced
    → NotesAct (lock_act noted rule) (lock_reply end) w y a b → NotesAct (lock_act name (rule_of p.vars)) (lock_reply (Held sleeps forced)) w y a b
taken_so name noted rule end sleeps forced p w y a b same by got lock =
    subst (λ n. NotesAct (lock_act n (rule_of p.vars)) (lock_reply (Held sleeps forced)) w y a b) same
    (subst (λ u. NotesAct (lock_act noted u) (lock_reply (Held sleeps forced)) w y a b) by
    (subst (λ u. NotesAct (lock_act noted rule) (lock_reply u) w y a b) got lock))

-- the lock was got, the errand was tried, and the lock was given back
pub tried_locked : (work : Mind → Plan Tried) (name noted : List ℕ) (rule : LockRule) (end : LockEnd) (sleeps forced : ℕ) (p q r s : Mind) (outcome : Outcome) (removed : Removed) (stuck : Bool)
    (x w y z v : JournalState) (a b c d : View) → noted ≡ name → rule ≡ rule_of p.vars → end ≡ Held sleeps forced → w.entries ≡ x.entries
    → NotesAct (lock_act noted rule) (lock_reply end) w y a b → q ≡ with_lock name p → Executes (work q) (tried_of outcome r) y z b c
    → NotesAct (Unlock name) (unlock_reply removed) z v c d → stuck ≡ is_fault (unlock_reply removed) → s ≡ record r { locks = without r.locks name }
    → Executes (try_under (Some name) work p) (trying_of (Locked name forced outcome stuck) s) x v a d
tried_locked work name noted rule end sleeps forced p q r s outcome removed stuck x w y z v a b c d same by got e lock with tried unlock fault back =
    let last : Bool → Mind → Trying = λ l m. trying_of (Locked name forced outcome l) m in
    let left : Mind = record r { locks = without r.locks name } in
    let end0 : Trying = last (is_fault (unlock_reply removed)) left in
    let sameEnd : end0 ≡ last stuck s = ap (λ l. last l left) (sym fault) ∙ ap (last stuck) (sym back) in
    let give : Reply → Plan Trying = λ reply. Ends (last (is_fault reply) left) in
    let gives : Executes (unlock_after name forced (tried_of outcome r)) end0 z v c d = first_act (Unlock name) give (unlock_reply removed) end0 z z v v c d d refl unlock (executes_nothing end0 v v d refl) in
    let works : Executes (work (with_lock name p)) (tried_of outcome r) y z b c = subst (λ m. Executes (work m) (tried_of outcome r) y z b c) with tried in
    let rest : Executes (try_locked name work p (lock_reply (Held sleeps forced))) end0 y v b d =
    executes_then (work (with_lock name p)) (unlock_after name forced) (tried_of outcome r) end0 y z v b c d works gives in
    subst (λ u. Executes (try_under (Some name) work p) u x v a d) sameEnd
    (first_act (lock_act name (rule_of p.vars)) (try_locked name work p) (lock_reply (Held sleeps forced)) end0 x w y v a b d e (taken_so name noted rule end sleeps forced p w y a b same by got lock) rest)

-- memory was wanting in the errand: the lock is still held
pub tried_locked_out : (work : Mind → Plan Tried) (name noted : List ℕ) (rule : LockRule) (end : LockEnd) (sleeps forced : ℕ) (p q : Mind) (x w y z : JournalState) (a b c : View) → noted ≡ name
    → rule ≡ rule_of p.vars → end ≡ Held sleeps forced → w.entries ≡ x.entries → NotesAct (lock_act noted rule) (lock_reply end) w y a b → q ≡ with_lock name p → OutOfMemory (work q) y z b c
    → OutOfMemory (try_under (Some name) work p) x z a c
tried_locked_out work name noted rule end sleeps forced p q x w y z a b c same by got e lock with wants =
    first_act_out (lock_act name (rule_of p.vars)) (try_locked name work p) (lock_reply (Held sleeps forced)) x w y z a b c e (taken_so name noted rule end sleeps forced p w y a b same by got lock)
    (out_front (work (with_lock name p)) (unlock_after name forced) y z b c (subst (λ m. OutOfMemory (work m) y z b c) with wants))
