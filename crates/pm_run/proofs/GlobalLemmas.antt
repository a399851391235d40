-- LOCKFILE's lock in plans.
use Rattle.std.proofs.Common.{◌≡◌, ◌≢◌, true, false, List, ℕ, Option, Some, None, Result, ◌∷◌, refl, sym, ap, ◌∙◌, subst}
use Rattle.std.specs.Prelude.{if◌then◌else◌, nat_lt}
use Rattle.pm_bytes.specs.declared.error.Memory.{Memory}
use Rattle.pm_journal.specs.JournalState.{JournalState}
use Rattle.pm_journal.specs.Entries.{View}
use Rattle.pm_journal.specs.Held.{holds_name, held_by}
use Rattle.pm_journal.specs.Locking.{lock_act, lock_reply}
use Rattle.pm_journal.specs.LogText.{couldnt_lock_line, forcing_lock_line, couldnt_unlock_line}
use Rattle.pm_journal.specs.Noted.{NotesAct}
use Rattle.pm_journal.specs.declared.acts.Act.TheVariants.{Unlock}
use Rattle.pm_journal.specs.declared.acts.Reply.{Reply}
use Rattle.pm_journal.specs.declared.locking.LockRule.{LockRule}
use Rattle.pm_journal.specs.declared.locking.LockEnd.{LockEnd}
use Rattle.pm_journal.specs.declared.locking.LockEnd.TheVariants.{Held, Busy, Failed}
use Rattle.pm_journal.specs.Plan.{Ends, and_then, ask}
use Rattle.pm_journal.specs.Executed.{Executes, OutOfMemory, Carries}
use Rattle.pm_journal.proofs.ActPlans.{executes_then}
use Rattle.pm_journal.proofs.FirstActs.{first_act, first_act_out}
use Rattle.pm_journal.proofs.WantsMemory.{executes_nothing, out_then, out_front, out_anywhere}
use Rattle.pm_meaning.specs.GlobalLock.{with_global, without_global, after_giving, give_named, got_lock, take_lock, drop_lock, change_lock}
use Rattle.pm_meaning.specs.Locks.{is_fault, rule_of}
use Rattle.pm_meaning.specs.Texts.{is_empty, is_file_text}
use Rattle.pm_meaning.specs.Logging.{log, logged}
use Rattle.pm_meaning.specs.Minds.{Mind}
use Rattle.pm_meaning.specs.Turns.{Turn, GoesOn, say_then, refuse_name}
use Rattle.pm_meaning.proofs.Choices.{choose_then, then_out, line_told, line_out, ok_map, err_map}
use Rattle.pm_meaning.proofs.Choices.{if_yes, if_no}

-- the removal of the lock file failed, and this was told
pub stuck_told : (name line : List ℕ) (p q : Mind) (reply : Reply) (x y z : JournalState) (a b c : View) → NotesAct (Unlock name) reply x y a b → is_fault reply ≡ true → line ≡ couldnt_unlock_line name → q ≡ without_global name p
    → Executes (log line q) logged y z b c → Executes (and_then (ask (Unlock name)) (after_giving name (without_global name p))) q x z a c
stuck_told name line p q reply x y z a b c n e same is says =
    let r = without_global name p in
    subst (λ m. Executes (and_then (ask (Unlock name)) (after_giving name r)) m x z a c) (sym is)
    (first_act (Unlock name) (after_giving name r) reply r x x y z a b c refl n
    (choose_then (is_fault reply) (say_then r (couldnt_unlock_line name) r) (Ends r) r y z b c e (line_told r (couldnt_unlock_line name) line r y z b c same (subst (λ m. Executes (log line m) logged y z b c) is says))))

pub stuck_out : (name line : List ℕ) (p q : Mind) (reply : Reply) (x y z : JournalState) (a b c : View) → NotesAct (Unlock name) reply x y a b → is_fault reply ≡ true → line ≡ couldnt_unlock_line name → q ≡ without_global name p → OutOfMemory (log line q) y z b c
    → OutOfMemory (and_then (ask (Unlock name)) (after_giving name (without_global name p))) x z a c
stuck_out name line p q reply x y z a b c n e same is out =
    let r = without_global name p in
    first_act_out (Unlock name) (after_giving name r) reply x x y z a b c refl n
    (then_out (is_fault reply) (say_then r (couldnt_unlock_line name) r) (Ends r) y z b c e (line_out r (couldnt_unlock_line name) line r y z b c same (subst (λ m. OutOfMemory (log line m) y z b c) is out)))

pub unlocked_out : (name : List ℕ) (p : Mind) (reply : Reply) (x y : JournalState) (a b : View) → NotesAct (Unlock name) reply x y a b → OutOfMemory (and_then (ask (Unlock name)) (after_giving name (without_global name p))) x y a b
unlocked_out name p reply x y a b n =
    let r = without_global name p in
    first_act_out (Unlock name) (after_giving name r) reply x x y y a b b refl n (out_anywhere (after_giving name r reply) y y b refl)

-- there is no lock of LOCKFILE
pub none_left : (global left : Option (List ℕ)) (p : Mind) (x : JournalState) (s : View) → global ≡ None → left ≡ None → Executes (give_named global (record p { global = global })) (record p { global = left }) x x s s
none_left global left p x s none gone =
    subst (λ h. Executes (give_named global (record p { global = global })) (record p { global = h }) x x s s) (sym gone)
    (subst (λ h. Executes (give_named h (record p { global = h })) (record p { global = None }) x x s s) (sym none) (executes_nothing (record p { global = None }) x x s refl))

-- it isn't held
not_held : (name : List ℕ) (p : Mind) → holds_name p.locks name ≡ false → Ends p ≡ give_named (Some name) p
not_held name p free = if_no (holds_name p.locks name) (and_then (ask (Unlock name)) (after_giving name (without_global name p))) (Ends p) free

pub not_given : (global : Option (List ℕ)) (name : List ℕ) (p : Mind) (x : JournalState) (s : View) → global ≡ Some name → holds_name p.locks name ≡ false
    → Executes (give_named global (record p { global = global })) (record p { global = Some name }) x x s s
not_given global name p x s there free =
    let q : Mind = record p { global = Some name } in
    subst (λ h. Executes (give_named h (record p { global = h })) q x x s s) (sym there)
    (subst (λ plan. Executes plan q x x s s) (not_held name q free) (executes_nothing q x x s refl))

-- it is there, and held
pub is_held : (global : Option (List ℕ)) (name shown : List ℕ) (p : Mind) → global ≡ Some shown → name ≡ shown → holds_name p.locks name ≡ true → and_then (ask (Unlock name)) (after_giving name (without_global name p)) ≡ give_named global p
is_held global name shown p is same held =
    if_yes (holds_name p.locks name) (and_then (ask (Unlock name)) (after_giving name (without_global name p))) (Ends p) held
    ∙ (ap (λ n. give_named (Some n) p) same ∙ ap (λ g. give_named g p) (sym is))

-- it was given back, and the process goes on
pub dropped : (p q : Mind) (x y : JournalState) (a b : View) → Executes (give_named p.global p) q x y a b → Executes (drop_lock p) (GoesOn q) x y a b
dropped p q x y a b h = executes_then (give_named p.global p) (λ r. Ends (GoesOn r)) q (GoesOn q) x y y a b b h (executes_nothing (GoesOn q) y y b refl)

-- the lock was asked for, and what is told after it comes
pub lock_then : {A : Type 0} (name noted : List ℕ) (rule : LockRule) (end : LockEnd) (p : Mind) (to : A → Turn) (answer : Result A Memory) (x w y z : JournalState) (a b c : View) → noted ≡ name → rule ≡ rule_of p.vars → w.entries ≡ x.entries
    → NotesAct (lock_act noted rule) (lock_reply end) w y a b → Carries (got_lock name p (lock_reply end)) to answer y z b c → Carries (and_then (ask (lock_act name (rule_of p.vars))) (got_lock name p)) to answer x z a c
lock_then name noted rule end p to answer x w y z a b c same by e n h =
    let act = lock_act name (rule_of p.vars) in
    let taken : NotesAct act (lock_reply end) w y a b =
    subst (λ m. NotesAct (lock_act m (rule_of p.vars)) (lock_reply end) w y a b) same (subst (λ u. NotesAct (lock_act noted u) (lock_reply end) w y a b) by n) in (
      ok_map answer _ _ (λ v k. first_act act (got_lock name p) (lock_reply end) (to v) x w y z a b c e taken k) h.0,
      err_map answer _ _ (λ k. first_act_out act (got_lock name p) (lock_reply end) x w y z a b c e taken k) h.1,
    )

-- what is told of a lock that was got
pub got_held : (name shown : List ℕ) (end : LockEnd) (sleeps forced : ℕ) (p q : Mind) → end ≡ Held sleeps forced → shown ≡ name → q ≡ with_global name p
    → (if nat_lt 0 forced then say_then q (forcing_lock_line shown) (GoesOn q) else Ends (GoesOn q)) ≡ got_lock name p (lock_reply end)
got_held name shown end sleeps forced p q is same with =
    ap (λ n. if nat_lt 0 forced then say_then q (forcing_lock_line n) (GoesOn q) else Ends (GoesOn q)) same
    ∙ (ap (λ m. if nat_lt 0 forced then say_then m (forcing_lock_line name) (GoesOn m) else Ends (GoesOn m)) with ∙ ap (λ u. got_lock name p (lock_reply u)) (sym is))

pub global_mind : (name noted : List ℕ) (rule : LockRule) (end : LockEnd) (sleeps forced : ℕ) (before held : List (List ℕ)) (p : Mind) → noted ≡ name → end ≡ Held sleeps forced → before ≡ p.locks
    → held ≡ held_by (lock_act noted rule) (lock_reply end) before → record p { locks = held; global = Some name } ≡ with_global name p
global_mind name noted rule end sleeps forced before held p same got first e =
    ap (λ l. record p { locks = l; global = Some name }) (e ∙ ap (λ u. held_by (lock_act noted rule) (lock_reply u) before) got ∙ ap (λ n. n ∷ before) same ∙ ap (λ l. name ∷ l) first)

-- what is told of one that wasn't
missed : (name : List ℕ) (p : Mind) (end : LockEnd) → ((sleeps forced : ℕ) → end ≢ Held sleeps forced) → say_then p (couldnt_lock_line name) (GoesOn p) ≡ got_lock name p (lock_reply end)
missed name p (Held sleeps forced) none = absurd (none sleeps forced refl)
missed name p Busy none = refl
missed name p Failed none = refl

still_held : (name : List ℕ) (rule : LockRule) (names : List (List ℕ)) (end : LockEnd) → ((sleeps forced : ℕ) → end ≢ Held sleeps forced) → held_by (lock_act name rule) (lock_reply end) names ≡ names
still_held name rule names (Held sleeps forced) none = absurd (none sleeps forced refl)
still_held name rule names Busy none = refl
still_held name rule names Failed none = refl

pub got_none : (name shown noted : List ℕ) (rule : LockRule) (end : LockEnd) (before held : List (List ℕ)) (p : Mind) → ((sleeps forced : ℕ) → end ≢ Held sleeps forced) → shown ≡ name → before ≡ p.locks
    → held ≡ held_by (lock_act noted rule) (lock_reply end) before → say_then (record p { locks = held }) (couldnt_lock_line shown) (GoesOn (record p { locks = held })) ≡ got_lock name p (lock_reply end)
got_none name shown noted rule end before held p none same first e =
    ap (λ l. say_then (record p { locks = l }) (couldnt_lock_line shown) (GoesOn (record p { locks = l }))) (e ∙ still_held noted rule before end none ∙ first)
    ∙ (ap (λ n. say_then p (couldnt_lock_line n) (GoesOn p)) same ∙ missed name p end none)

-- LOCKFILE got a value that can be a name
pub named_value : (value : List ℕ) (p : Mind) → is_empty value ≡ false → is_file_text value ≡ true → and_then (give_named p.global p) (take_lock value) ≡ change_lock value p
named_value value p some usable =
    if_yes (is_file_text value) (and_then (give_named p.global p) (take_lock value)) (refuse_name value p) usable
    ∙ if_no (is_empty value) (drop_lock p) (if is_file_text value then and_then (give_named p.global p) (take_lock value) else refuse_name value p) some

pub given_out : (value : List ℕ) (p : Mind) (x y : JournalState) (a b : View) → is_empty value ≡ false → is_file_text value ≡ true → OutOfMemory (give_named p.global p) x y a b → OutOfMemory (change_lock value p) x y a b
given_out value p x y a b some usable h =
    subst (λ plan. OutOfMemory plan x y a b) (named_value value p some usable) (out_front (give_named p.global p) (take_lock value) x y a b h)

pub given_then : {A : Type 0} (value : List ℕ) (p q : Mind) (to : A → Turn) (answer : Result A Memory) (x y z : JournalState) (a b c : View) → Executes (give_named p.global p) q x y a b → Carries (take_lock value q) to answer y z b c
    → Carries (and_then (give_named p.global p) (take_lock value)) to answer x z a c
given_then value p q to answer x y z a b c given h = (
  ok_map answer _ _ (λ v k. executes_then (give_named p.global p) (take_lock value) q (to v) x y z a b c given k) h.0,
  err_map answer _ _ (λ k. out_then (give_named p.global p) (take_lock value) q x y z a b c given k) h.1,
)
