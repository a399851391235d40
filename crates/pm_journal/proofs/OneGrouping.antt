-- Calls are shared out to entries in one way only.
use Rattle.std.proofs.Common.{◌≡◌, ◌≤◌, ◌<◌, ℕ, Bool, true, false, List, [], ◌∷◌, ◌++◌, ◌+◌, length, Option, Some, None, refl, sym, ap, ◌∙◌, subst, arith}
use Rattle.pm_host.specs.Told.{Tells, Adds}
use Rattle.pm_host.specs.declared.calls.Logged.{Logged}
use Rattle.pm_journal.specs.Appending.{append_step, StepAsks, AppendAsks, append_heard}
use Rattle.pm_journal.specs.Reading.{ReadState, ReadLooking, ReadOn, ReadEnded, ReadAsks, ReadDone, read_heard}
use Rattle.pm_journal.specs.Entries.{FileGroup, Protocol, Honest, joined}
use Rattle.pm_journal.proofs.OneRun.{rest_of, Same, IsDone, one_run, same_none, same_call}
use Rattle.pm_journal.proofs.PlaceGrouping.{same_place}
use Rattle.pm_journal.proofs.RunGrouping.{same_run}
use Rattle.pm_journal.specs.Laws.{OneGrouping, OneAccount, AreTold}
use Rattle.pm_journal.specs.declared.appending.AppendState.{AppendState}
use Rattle.pm_journal.specs.declared.appending.AppendState.TheVariants.{Looking}
use Rattle.pm_journal.specs.declared.appending.AppendEnd.{AppendEnd}
use Rattle.pm_journal.specs.declared.appending.AppendStep.TheVariants.{Finish}
use Rattle.pm_journal.specs.Locking.{lock_rule, no_tally, lock_step, LockStepAsks, LockAsks, lock_heard}
use Rattle.pm_journal.specs.declared.locking.LockState.{LockState}
use Rattle.pm_journal.specs.declared.locking.LockState.TheVariants.{Trying}
use Rattle.pm_journal.specs.declared.locking.LockEnd.{LockEnd}
use Rattle.pm_journal.specs.declared.locking.LockStep.TheVariants.{Finish as LockFinish}
use Rattle.pm_journal.specs.declared.acts.Act.{Act}
use Rattle.pm_journal.specs.declared.acts.Act.TheVariants.{Append as AppendTo, ReadFile, Probe, Place, Lock, Unlock, Run, SayFile, SayErr, WriteOut, Moment}
use Rattle.pm_journal.specs.declared.acts.Reply.{Reply}
use Rattle.pm_journal.specs.declared.acts.Entry.{Entry}

append_done : (name piece : List ℕ) (sync : Bool) (at : AppendState) (end : AppendEnd) → append_step (length piece) sync at ≡ Finish end → IsDone (AppendAsks name piece sync) at
append_done name piece sync at end e call asks = subst (λ step. StepAsks name piece step call) e asks

lock_done : (name : List ℕ) (at : LockState) (end : LockEnd) → lock_step at ≡ LockFinish end → IsDone (LockAsks name) at
lock_done name at end e call asks = subst (λ step. LockStepAsks name step call) e asks

too_long : (n room : ℕ) → 1048576 < n → 1 ≤ room → n + room ≤ 1048577 → ⊥
too_long n room long some bounded = omega (arith, long, some, bounded)

read_done : (name : List ℕ) (at : ReadState) (reply : Reply) → ReadDone at reply → IsDone (ReadAsks name) at
read_done name ReadLooking reply done call asks = absurd done
read_done name (ReadOn so_far) reply done call asks = too_long (length so_far) asks.room done.0 asks.some asks.bounded
read_done name (ReadEnded r) reply done call asks = asks

same_file : (name piece : List ℕ) (sync : Bool) (reply : Reply) (g h r q : List Logged) → FileGroup name piece sync reply g → FileGroup name piece sync reply h → g ++ r ≡ h ++ q → Same g h r q
same_file name piece sync reply g h r q x y e =
    one_run (AppendAsks name piece sync) append_heard Looking x.group.last y.group.last g h r q x.group.walk y.group.walk
    (append_done name piece sync x.group.last x.end x.group.ends) (append_done name piece sync y.group.last y.end y.group.ends) e

same_group : (act : Act) (reply : Reply) (g h r q : List Logged) → Protocol act reply g → Protocol act reply h → g ++ r ≡ h ++ q → Same g h r q
same_group (ReadFile name) reply g h r q x y e =
    one_run (ReadAsks name) read_heard ReadLooking x.at y.at g h r q x.prefix y.prefix (read_done name x.at reply x.done) (read_done name y.at reply y.done) e
same_group (Probe name) reply g h r q x y e = same_call _ _ g h r q x.call y.call e
same_group (AppendTo name piece) reply g h r q x y e = same_file name piece true reply g h r q x y e
same_group (Lock name sleep limit suspend tries) reply g h r q x y e =
    one_run (LockAsks name) (lock_heard (lock_rule sleep limit suspend tries)) (Trying no_tally) x.group.last y.group.last g h r q x.group.walk y.group.walk
    (lock_done name x.group.last x.end x.group.ends) (lock_done name y.group.last y.end y.group.ends) e
same_group (Unlock name) reply g h r q x y e = same_call _ _ g h r q x.call y.call e
same_group (Place kind folder prefix piece stamp) reply g h r q x y e = same_place kind folder prefix piece stamp reply g h r q x y e
same_group (Run command input want) reply g h r q x y e = same_run command input want reply g h r q x y e
same_group (SayFile name text) reply g h r q x y e = same_file name text false reply g h r q x y e
same_group (SayErr text) reply g h r q x y e = same_none g h r q x.none y.none e
same_group (WriteOut piece) reply g h r q x y e = same_none g h r q x.none y.none e
same_group Moment reply g h r q x y e = same_call _ _ g h r q x.call y.call e

-- the groups of entries are known from their calls
pub one_grouping : (es : List Entry) (gs hs : List (List Logged)) → Honest es gs → Honest es hs → joined gs ≡ joined hs → gs ≡ hs
one_grouping [] [] [] x y e = refl
one_grouping [] [] (h ∷ hs) x y e = absurd y
one_grouping [] (g ∷ gs) hs x y e = absurd x
one_grouping (e ∷ es) [] hs x y same = absurd x
one_grouping (e ∷ es) (g ∷ gs) [] x y same = absurd y
one_grouping (e ∷ es) (g ∷ gs) (h ∷ hs) x y same =
    let first = same_group e.act e.reply g h (joined gs) (joined hs) x.0 y.0 same in
    ap (λ k. k ∷ gs) first.group ∙ ap (λ l. h ∷ l) (one_grouping es gs hs x.1 y.1 first.rest)

abbrev rest_after : List Logged → List Logged → List Logged
rest_after [] l = l
rest_after (c ∷ cs) l = rest_after cs (rest_of l)

rest_after-append : (cs ds : List Logged) → rest_after cs (cs ++ ds) ≡ ds
rest_after-append [] ds = refl
rest_after-append (c ∷ cs) ds = rest_after-append cs ds

-- told calls that were added are known
same_added : (told told' : Option (List Logged)) (p q : List Logged) → Tells (Adds p) told told' → Tells (Adds q) told told' → AreTold told' → p ≡ q
same_added (Some l) (Some k) p q x y t = sym (rest_after-append l p) ∙ ap (rest_after l) (sym x ∙ y) ∙ rest_after-append l q
same_added (Some l) None p q x y t = absurd t
same_added None (Some k) p q x y t = absurd x
same_added None None p q x y t = absurd t

-- where the calls are told, two accounts have the same groups
pub one_account : OneGrouping → OneAccount
one_account one es a b first second told =
    one es first.groups second.groups first.honest second.honest (same_added a.host.calls b.host.calls (joined first.groups) (joined second.groups) first.ran.listed second.ran.listed told)
