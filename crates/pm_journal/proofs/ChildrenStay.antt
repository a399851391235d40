-- The acts of a run leave no child running.
use Rattle.std.proofs.Common.{◌≡◌, ℕ, Bool, true, false, cond, List, [], ◌∷◌, length, nat_eq, refl, ap, ◌∙◌, inl, inr}
use Rattle.pm_host.specs.World.{after_child}
use Rattle.pm_host.specs.Runs.{Transitions, child_after}
use Rattle.pm_host.specs.declared.answers.Child.{Child}
use Rattle.pm_host.specs.declared.answers.Child.TheVariants.{NoChild}
use Rattle.pm_host.specs.declared.calls.Call.{Call}
use Rattle.pm_host.specs.declared.calls.Answer.{Answer}
use Rattle.pm_host.specs.declared.calls.Logged.{Logged}
use Rattle.pm_host.proofs.RunsJoin.{child_after-append}
use Rattle.pm_journal.specs.Appending.{taken_step, StepAsks, AppendAsks, append_heard}
use Rattle.pm_journal.specs.Locking.{lock_rule, no_tally, LockAsks, lock_heard}
use Rattle.pm_journal.specs.Reading.{ReadState, ReadLooking, ReadOn, ReadEnded, ReadAsks, read_heard}
use Rattle.pm_journal.specs.Executed.{UnfinishedCalls}
use Rattle.pm_journal.specs.Entries.{Protocol, Honest, joined}
use Rattle.pm_journal.specs.declared.appending.AppendState.{AppendState}
use Rattle.pm_journal.specs.declared.appending.AppendState.TheVariants.{Looking, Creating, Writing, Cutting, Removing, Ended}
use Rattle.pm_journal.specs.declared.appending.AppendStep.TheVariants.{Append as StepAppend}
use Rattle.pm_journal.specs.declared.locking.LockState.{LockState}
use Rattle.pm_journal.specs.declared.locking.LockState.TheVariants.{Trying, Aging, Looking as LockLooking, Removing as LockRemoving, Pausing, Ended as LockEnded}
use Rattle.pm_journal.proofs.ChildLeaves.{children_end}
use Rattle.pm_journal.proofs.PlaceChildren.{place_child, makes_child}
use Rattle.pm_journal.specs.Placing.{LeftPlace}
use Rattle.pm_journal.specs.declared.placing.FolderKind.{FolderKind}
use Rattle.pm_journal.specs.declared.placing.FolderKind.TheVariants.{Maildir, Mh, Plain}
use Rattle.pm_journal.specs.declared.acts.Act.{Act}
use Rattle.pm_journal.specs.declared.acts.Act.TheVariants.{ReadFile, Probe, Append as AppendTo, Place, Lock, Unlock, Run, SayFile, SayErr, WriteOut, Moment}
use Rattle.pm_journal.specs.declared.acts.Reply.{Reply}
use Rattle.pm_journal.specs.declared.acts.Reply.TheVariants.{NotStarted}
use Rattle.pm_journal.specs.declared.acts.Entry.{Entry}

-- a machine that asks for no child
machine_child : {S : Type 0} (asks : S → Call → Type 0) (heard : S → Answer → S) → ((s : S) (call : Call) (answer : Answer) (k : Child) → asks s call → after_child call answer k ≡ k)
    → (calls : List Logged) (s t : S) (k : Child) → Transitions asks heard s calls t → child_after calls k ≡ k
machine_child asks heard stays [] s t k walk = refl
machine_child asks heard stays (c ∷ cs) s t k walk =
    ap (child_after cs) (stays s c.call c.answer k walk.0) ∙ machine_child asks heard stays cs (heard s c.answer) t k walk.2

taken_child : (name piece : List ℕ) (sync : Bool) (call : Call) (answer : Answer) (k : Child) → StepAsks name piece (taken_step sync) call → after_child call answer k ≡ k
taken_child name piece true call answer k asks = ap (λ c. after_child c answer k) asks
taken_child name piece false call answer k asks = absurd asks

append_child : (name piece : List ℕ) (sync : Bool) (at : AppendState) (call : Call) (answer : Answer) (k : Child) → AppendAsks name piece sync at call → after_child call answer k ≡ k
append_child name piece sync Looking call answer k asks = ap (λ c. after_child c answer k) asks
append_child name piece sync Creating call answer k asks = ap (λ c. after_child c answer k) asks
append_child name piece sync (Writing made old taken) call answer k asks =
    elim (nat_eq taken (length piece)) as (λ b. StepAsks name piece (cond b (taken_step sync) (StepAppend taken)) call → after_child call answer k ≡ k) [
      | true ↦ λ a. taken_child name piece sync call answer k a
      | false ↦ λ offer. ap (λ c. after_child c answer k) offer.is
    ] asks
append_child name piece sync (Cutting old taken) call answer k asks = ap (λ c. after_child c answer k) asks
append_child name piece sync (Removing taken) call answer k asks = ap (λ c. after_child c answer k) asks
append_child name piece sync (Ended end) call answer k asks = absurd asks

lock_child : (name : List ℕ) (at : LockState) (call : Call) (answer : Answer) (k : Child) → LockAsks name at call → after_child call answer k ≡ k
lock_child name (Trying t) call answer k asks = ap (λ c. after_child c answer k) asks
lock_child name (Aging t) call answer k asks = ap (λ c. after_child c answer k) asks
lock_child name (LockLooking t) call answer k asks = ap (λ c. after_child c answer k) asks
lock_child name (LockRemoving t) call answer k asks = ap (λ c. after_child c answer k) asks
lock_child name (Pausing seconds t) call answer k asks = ap (λ c. after_child c answer k) asks
lock_child name (LockEnded end) call answer k asks = absurd asks

read_child : (name : List ℕ) (at : ReadState) (call : Call) (answer : Answer) (k : Child) → ReadAsks name at call → after_child call answer k ≡ k
read_child name ReadLooking call answer k asks = ap (λ c. after_child c answer k) asks
read_child name (ReadOn so_far) call answer k asks = ap (λ c. after_child c answer k) asks.is
read_child name (ReadEnded reply) call answer k asks = absurd asks

act_child : (act : Act) (reply : Reply) (calls : List Logged) → Protocol act reply calls → child_after calls NoChild ≡ NoChild
act_child (ReadFile name) reply calls g = machine_child (ReadAsks name) read_heard (read_child name) calls ReadLooking g.at NoChild g.prefix
act_child (Probe name) reply calls g = ap (λ l. child_after l NoChild) g.call
act_child (AppendTo name piece) reply calls g = machine_child (AppendAsks name piece true) append_heard (append_child name piece true) calls Looking g.group.last NoChild g.group.walk
act_child (Lock name sleep limit suspend tries) reply calls g =
    machine_child (LockAsks name) (lock_heard (lock_rule sleep limit suspend tries)) (lock_child name) calls (Trying no_tally) g.group.last NoChild g.group.walk
act_child (Unlock name) reply calls g = ap (λ l. child_after l NoChild) g.call
act_child (Place kind folder prefix piece stamp) reply calls g = place_child kind folder prefix piece stamp reply calls NoChild g
act_child (Run command input want) reply calls g = children_end command input want reply calls (inl g)
act_child (SayFile name text) reply calls g = machine_child (AppendAsks name text false) append_heard (append_child name text false) calls Looking g.group.last NoChild g.group.walk
act_child (SayErr text) reply calls g = ap (λ l. child_after l NoChild) g.none
act_child (WriteOut piece) reply calls g = ap (λ l. child_after l NoChild) g.none
act_child Moment reply calls g = ap (λ l. child_after l NoChild) g.call

-- no child runs after entries
pub no_child_left : (es : List Entry) (gs : List (List Logged)) → Honest es gs → child_after (joined gs) NoChild ≡ NoChild
no_child_left [] [] h = refl
no_child_left [] (g ∷ gs) h = absurd h
no_child_left (e ∷ es) [] h = absurd h
no_child_left (e ∷ es) (g ∷ gs) h =
    child_after-append g (joined gs) NoChild ∙ ap (child_after (joined gs)) (act_child e.act e.reply g h.0) ∙ no_child_left es gs h.1

left_place_child : (kind : FolderKind) (folder : List ℕ) (calls : List Logged) → LeftPlace kind folder calls → child_after calls NoChild ≡ NoChild
left_place_child Mh folder calls (inl none) = ap (λ l. child_after l NoChild) none
left_place_child Mh folder calls (inr l) =
    ap (λ c. child_after c NoChild) l.calls_are ∙ child_after-append l.makes _ NoChild ∙ makes_child (folder ∷ []) true l.makes NoChild l.made
left_place_child Maildir folder calls none = ap (λ l. child_after l NoChild) none
left_place_child Plain folder calls none = ap (λ l. child_after l NoChild) none

-- nor after an act that was left off
pub left_off_child : (act : Act) (calls : List Logged) → UnfinishedCalls act calls → child_after calls NoChild ≡ NoChild
left_off_child (Place kind folder prefix piece stamp) calls u = left_place_child kind folder calls u
left_off_child (Run command input want) calls (inl none) = ap (λ l. child_after l NoChild) none
left_off_child (Run command input want) calls (inr u) = children_end command input want NotStarted calls (inr u.1)
left_off_child (ReadFile name) calls u = machine_child (ReadAsks name) read_heard (read_child name) calls ReadLooking u.0 NoChild u.1
left_off_child other calls u = ap (λ l. child_after l NoChild) u
