-- The held locks over an act.
use Rattle.std.proofs.Common.{◌≡◌, ◌≤◌, ◌+◌, ℕ, true, false, List, [], ◌∷◌, ◌++◌, length, refl, sym, subst, arith}
use Rattle.pm_journal.specs.Entries.{View}
use Rattle.pm_journal.specs.Noted.{NotesAct}
use Rattle.pm_journal.specs.JournalState.{JournalState}
use Rattle.pm_journal.specs.Held.{holds_name, without, IsFree, held_by, Keeping, Keeps}
use Rattle.pm_journal.specs.Locking.{lock_act, lock_reply}
use Rattle.pm_journal.proofs.HoldsName.{one_less}
use Rattle.pm_journal.specs.declared.locking.LockRule.{LockRule}
use Rattle.pm_journal.specs.declared.locking.LockEnd.{LockEnd}
use Rattle.pm_journal.specs.declared.locking.LockEnd.TheVariants.{Held as TakenHeld, Busy as TakenBusy, Failed as TakenFailed}
use Rattle.pm_journal.proofs.KeepsJoin.{keeping_act, keeping_same, without_first}
use Rattle.pm_journal.specs.declared.acts.Act.{Act}
use Rattle.pm_journal.specs.declared.acts.Act.TheVariants.{Lock, Unlock}
use Rattle.pm_journal.specs.declared.acts.Reply.{Reply}
use Rattle.pm_journal.specs.declared.acts.Entry.{Entry}

-- an act that takes and gives no lock
abbrev pub IsPlain : Act → Type 0
IsPlain (Lock name sleep limit suspend tries) = ⊥
IsPlain (Unlock name) = ⊥
IsPlain other = Unit {0}

plain_free : (act : Act) (names : List (List ℕ)) → IsPlain act → IsFree act names
plain_free (Lock name sleep limit suspend tries) names h = absurd h
plain_free (Unlock name) names h = absurd h
plain_free other names h = tt

plain_holds : (act : Act) (reply : Reply) (names : List (List ℕ)) → IsPlain act → held_by act reply names ≡ names
plain_holds (Lock name sleep limit suspend tries) reply names h = absurd h
plain_holds (Unlock name) reply names h = absurd h
plain_holds other reply names h = refl

-- room was made for the act's entry beside those of the unlocks, and the act was noted
pub keeping_plain : (act : Act) (reply : Reply) (x w y : JournalState) (names : List (List ℕ)) (a b : View) → IsPlain act → Keeping x names → w.entries ≡ x.entries
    → length names + 1 ≤ w.room → NotesAct act reply w y a b → Keeping y names
keeping_plain act reply x w y names a b plain h e room n =
    let same : held_by act reply names ≡ names = plain_holds act reply names plain in
    let left : length names ≤ y.room = omega (arith, n.room, room) in
    let kept : Keeping w names = keeping_same x w names h e (omega (arith, room)) in
    subst (Keeping y) same (keeping_act act reply w y names a b kept n (plain_free act names plain) (subst (λ l. length l ≤ y.room) (sym same) left))

-- the lock that was taken last is given back
pub keeping_unlock : (name : List ℕ) (reply : Reply) (x y : JournalState) (names : List (List ℕ)) (a b : View) → Keeping x (name ∷ names) → NotesAct (Unlock name) reply x y a b → Keeping y names
keeping_unlock name reply x y names a b h n =
    let same : held_by (Unlock name) reply (name ∷ names) ≡ names = without_first name names in
    let left : length names ≤ y.room = omega (arith, n.room, h.room) in
    subst (Keeping y) same (keeping_act (Unlock name) reply x y (name ∷ names) a b h n tt (subst (λ l. length l ≤ y.room) (sym same) left))

-- what the entries after others leave held
pub keeps_rest : (es fs : List Entry) (a b c : List (List ℕ)) → Keeps a es b → Keeps a (es ++ fs) c → Keeps b fs c
keeps_rest [] fs a b c h k = subst (λ x. Keeps x fs c) (sym h) k
keeps_rest (e ∷ es) fs a b c h k = keeps_rest es fs (held_by e.act e.reply a) b c h.1 k.1

one_more : (name : List ℕ) (rule : LockRule) (end : LockEnd) (names : List (List ℕ)) (n : ℕ) → length names + 1 ≤ n → length (held_by (lock_act name rule) (lock_reply end) names) ≤ n
one_more name rule (TakenHeld sleeps forced) names n h = omega arith
one_more name rule TakenBusy names n h = omega arith
one_more name rule TakenFailed names n h = omega arith

-- a lock was asked for that isn't held, with room for its entry and for that of its unlock
pub keeping_taken : (name : List ℕ) (rule : LockRule) (end : LockEnd) (x y : JournalState) (names : List (List ℕ)) (a b : View) → Keeping x names → holds_name names name ≡ false
    → length names + 2 ≤ x.room → NotesAct (lock_act name rule) (lock_reply end) x y a b → Keeping y (held_by (lock_act name rule) (lock_reply end) names)
keeping_taken name rule end x y names a b h free room n =
    keeping_act (lock_act name rule) (lock_reply end) x y names a b h n free (one_more name rule end names y.room (omega (arith, n.room, room)))

-- one of the held locks is given back
pub keeping_given : (name : List ℕ) (reply : Reply) (x y : JournalState) (names : List (List ℕ)) (a b : View) → Keeping x names → holds_name names name ≡ true
    → NotesAct (Unlock name) reply x y a b → Keeping y (without names name)
keeping_given name reply x y names a b h held n =
    keeping_act (Unlock name) reply x y names a b h n tt (let e = one_less names name held in omega (arith, n.room, h.room, e))
