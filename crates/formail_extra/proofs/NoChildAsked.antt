-- No child is started by the calls on a cache.
use Rattle.std.proofs.Common.{◌≡◌, ℕ, Bool, true, false, cond, List, [], ◌∷◌, length, nat_eq, refl, ap, ◌∙◌}
use Rattle.pm_host.specs.Told.{HostView}
use Rattle.pm_host.specs.World.{after_child}
use Rattle.pm_host.specs.Runs.{Transitions, child_after}
use Rattle.pm_host.specs.declared.answers.Child.{Child}
use Rattle.pm_host.specs.declared.calls.Call.{Call}
use Rattle.pm_host.specs.declared.calls.Answer.{Answer}
use Rattle.pm_host.specs.declared.calls.Logged.{Logged}
use Rattle.pm_journal.specs.Appending.{Appends, taken_step, StepAsks, AppendAsks, append_heard}
use Rattle.pm_journal.specs.Locking.{TakesLock, no_tally, LockAsks, lock_heard}
use Rattle.formail_extra.specs.Reading.{CacheState, CacheLooking, CacheOn, CacheEnded, CacheAsks, cache_heard, ReadsTo}
use Rattle.pm_journal.specs.declared.appending.AppendEnd.{AppendEnd}
use Rattle.pm_journal.specs.declared.appending.AppendState.{AppendState}
use Rattle.pm_journal.specs.declared.appending.AppendState.TheVariants.{Looking, Creating, Writing, Cutting, Removing, Ended}
use Rattle.pm_journal.specs.declared.appending.AppendStep.TheVariants.{Append as StepAppend}
use Rattle.pm_journal.specs.declared.locking.LockRule.{LockRule}
use Rattle.pm_journal.specs.declared.locking.LockEnd.{LockEnd}
use Rattle.pm_journal.specs.declared.locking.LockState.{LockState}
use Rattle.pm_journal.specs.declared.locking.LockState.TheVariants.{Trying, Aging, Looking as LockLooking, Removing as LockRemoving, Pausing, Ended as LockEnded}

-- a machine that asks for no child
machine_child : {S : Type 0} (asks : S → Call → Type 0) (heard : S → Answer → S) → ((s : S) (call : Call) (answer : Answer) (k : Child) → asks s call → after_child call answer k ≡ k)
    → (calls : List Logged) (s t : S) (k : Child) → Transitions asks heard s calls t → child_after calls k ≡ k
machine_child asks heard stays [] s t k walk = refl
machine_child asks heard stays (c ∷ cs) s t k walk =
    ap (child_after cs) (stays s c.call c.answer k walk.0) ∙ machine_child asks heard stays cs (heard s c.answer) t k walk.2

taken_child : (name piece : List ℕ) (sync : Bool) (call : Call) (answer : Answer) (k : Child) → StepAsks name piece (taken_step sync) call → after_child call answer k ≡ k
taken_child name piece true call answer k asks = ap (λ c. after_child c answer k) asks
taken_child name piece false call answer k asks = absurd asks

append_child : (name piece : List ℕ) (sync : Bool) (at : AppendState) (call : Call) (answer : Answer) (k : Child) → AppendAsks name piece sync at call → after_child call answer k ≡ k
append_child name piece sync Looking call answer k asks = ap (λ c. after_child c answer k) asks
append_child name piece sync Creating call answer k asks = ap (λ c. after_child c answer k) asks
append_child name piece sync (Writing made old taken) call answer k asks =
    elim (nat_eq taken (length piece)) as (λ b. StepAsks name piece (cond b (taken_step sync) (StepAppend taken)) call → after_child call answer k ≡ k) [
      | true ↦ λ a. taken_child name piece sync call answer k a
      | false ↦ λ offer. ap (λ c. after_child c answer k) offer.is
    ] asks
append_child name piece sync (Cutting old taken) call answer k asks = ap (λ c. after_child c answer k) asks
append_child name piece sync (Removing taken) call answer k asks = ap (λ c. after_child c answer k) asks
append_child name piece sync (Ended end) call answer k asks = absurd asks

lock_child : (name : List ℕ) (at : LockState) (call : Call) (answer : Answer) (k : Child) → LockAsks name at call → after_child call answer k ≡ k
lock_child name (Trying t) call answer k asks = ap (λ c. after_child c answer k) asks
lock_child name (Aging t) call answer k asks = ap (λ c. after_child c answer k) asks
lock_child name (LockLooking t) call answer k asks = ap (λ c. after_child c answer k) asks
lock_child name (LockRemoving t) call answer k asks = ap (λ c. after_child c answer k) asks
lock_child name (Pausing seconds t) call answer k asks = ap (λ c. after_child c answer k) asks
lock_child name (LockEnded end) call answer k asks = absurd asks

read_child : (name : List ℕ) (at : CacheState) (call : Call) (answer : Answer) (k : Child) → CacheAsks name at call → after_child call answer k ≡ k
read_child name CacheLooking call answer k asks = ap (λ c. after_child c answer k) asks
read_child name (CacheOn so_far) call answer k asks = ap (λ c. after_child c answer k) asks.is
read_child name (CacheEnded end) call answer k asks = absurd asks

-- after a taking of a lock runs what ran before it
pub takes_child : (rule : LockRule) (name : List ℕ) (end : LockEnd) (before after : HostView) → TakesLock rule name end before after → after.child ≡ before.child
takes_child rule name end before after t =
    t.ran.child ∙ machine_child (LockAsks name) (lock_heard rule) (lock_child name) t.calls (Trying no_tally) t.group.last before.child t.group.walk

-- after an append too
pub appends_child : (name piece : List ℕ) (sync : Bool) (end : AppendEnd) (before after : HostView) → Appends name piece sync end before after → after.child ≡ before.child
appends_child name piece sync end before after a =
    a.ran.child ∙ machine_child (AppendAsks name piece sync) append_heard (append_child name piece sync) a.calls Looking a.group.last before.child a.group.walk

-- and after a reading
pub reads_child : (name : List ℕ) (at : CacheState) (before after : HostView) → ReadsTo name at before after → after.child ≡ before.child
reads_child name at before after r =
    r.ran.child ∙ machine_child (CacheAsks name) cache_heard (read_child name) r.calls CacheLooking at before.child r.walk
