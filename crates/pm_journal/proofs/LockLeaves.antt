-- What the taking of a lock leaves at each name.
use Rattle.std.proofs.Common.{◌≡◌, ℕ, false, cond, List, [], ◌∷◌, Option, Some, None, refl, sym, ap, ◌∙◌, subst, bytes_eq}
use Rattle.pm_host.specs.World.{World, after_call, after_create, after_remove, world_with, longer, made_there, taken_away, after_change, after_changes, batch_of, later_moment, after_sleep}
use Rattle.pm_host.specs.Runs.{Transitions, after_calls}
use Rattle.pm_host.proofs.Put.{get-put}
use Rattle.pm_host.specs.declared.nodes.Node.{Node}
use Rattle.pm_host.specs.declared.nodes.Node.TheVariants.{File as AFile}
use Rattle.pm_host.specs.declared.nodes.Change.{Change}
use Rattle.pm_host.specs.declared.nodes.Change.TheVariants.{Append as ChangeAppend, Create as ChangeCreate, Remove as ChangeRemove}
use Rattle.pm_host.specs.declared.answers.Made.TheVariants.{Made as MadeNew}
use Rattle.pm_host.specs.declared.answers.Removed.TheVariants.{Removed as RemovedDone}
use Rattle.pm_host.specs.declared.calls.Call.{Call}
use Rattle.pm_host.specs.declared.calls.Call.TheVariants.{Look, Create, Remove, Age, Sleep}
use Rattle.pm_host.specs.declared.calls.Answer.{Answer}
use Rattle.pm_host.specs.declared.calls.Answer.TheVariants.{Create as AnswerCreate, Remove as AnswerRemove}
use Rattle.pm_host.specs.declared.calls.Logged.{Logged}
use Rattle.pm_journal.specs.Deliveries.{changed_name, AreElsewhere, OthersLeave, IfHeld, TakesRight}
use Rattle.pm_journal.specs.Locking.{LockAsks, lock_heard, no_tally, after_moves, after_lock}
use Rattle.pm_journal.specs.Entries.{TakeGroup}
use Rattle.pm_journal.proofs.LockEffect.{lock_effect}
use Rattle.pm_journal.specs.declared.acts.Reply.{Reply}
use Rattle.pm_journal.specs.declared.acts.Reply.TheVariants.{Held}
use Rattle.pm_journal.specs.declared.locking.LockRule.{LockRule}
use Rattle.pm_journal.specs.declared.locking.LockState.{LockState}
use Rattle.pm_journal.specs.declared.locking.LockState.TheVariants.{Trying, Aging, Looking, Removing, Pausing, Ended}

put_apart : (w : World) (file name : List ℕ) (this : Option Node) → bytes_eq file name ≡ false → (world_with w file this).nodes name ≡ w.nodes name
put_apart w file name this apart = ap (λ b. cond b this (w.nodes name)) apart

change_apart : (c : Change) (w : World) (name : List ℕ) → bytes_eq (changed_name c) name ≡ false → (after_change c w).nodes name ≡ w.nodes name
change_apart (ChangeAppend file bytes) w name apart = put_apart w file name (longer (w.nodes file) w.moment bytes) apart
change_apart (ChangeCreate file bytes) w name apart = put_apart w file name (made_there (w.nodes file) w.moment bytes) apart
change_apart (ChangeRemove file) w name apart = put_apart w file name (taken_away (w.nodes file)) apart

change_others : (c : Change) (w : World) → (after_change c w).others ≡ w.others
change_others (ChangeAppend file bytes) w = refl
change_others (ChangeCreate file bytes) w = refl
change_others (ChangeRemove file) w = refl

changes_apart : (cs : List Change) (w : World) (name : List ℕ) → AreElsewhere cs name → (after_changes cs w).nodes name ≡ w.nodes name
changes_apart [] w name apart = refl
changes_apart (c ∷ cs) w name apart = changes_apart cs (after_change c w) name apart.1 ∙ change_apart c w name apart.0

changes_others : (cs : List Change) (w : World) → (after_changes cs w).others ≡ w.others
changes_others [] w = refl
changes_others (c ∷ cs) w = changes_others cs (after_change c w) ∙ change_others c w

-- at the name stands what stood, and others still leave it alone
pub record Untouched (name : List ℕ) (old new : World) : Type 0 where
  pub here : new.nodes name ≡ old.nodes name
  pub left : OthersLeave new.others name

-- others act where they leave the name alone
pub batch_apart : (batches : List (List Change)) (w : World) (name : List ℕ) → w.others ≡ batches → OthersLeave batches name → Untouched name w (batch_of batches w)
batch_apart [] w name same left = record { here = refl; left = subst (λ l. OthersLeave l name) (sym same) left }
batch_apart (batch ∷ batches) w name same left =
    let next : World = record { nodes = w.nodes; moment = w.moment; others = batches; children = w.children; inputs = w.inputs } in
    record { here = changes_apart batch next name left.0; left = subst (λ l. OthersLeave l name) (sym (changes_others batch next)) left.1 }

-- the moment has moved on
abbrev moved : ℕ → World → World
moved seconds w = record { nodes = w.nodes; moment = later_moment w.moment seconds; others = w.others; children = w.children; inputs = w.inputs }

slept_apart : (seconds : ℕ) (w : World) (name : List ℕ) → OthersLeave w.others name → Untouched name w (after_sleep seconds w)
slept_apart seconds w name left = let b = batch_apart w.others (moved seconds w) name refl left in record { here = b.here; left = b.left }

create_others : (answer : Answer) (file : List ℕ) (w : World) → (after_create answer file w).others ≡ w.others
create_others (AnswerCreate MadeNew) file w = refl
create_others other file w = refl

remove_others : (answer : Answer) (file : List ℕ) (w : World) → (after_remove answer file w).others ≡ w.others
remove_others (AnswerRemove RemovedDone) file w = refl
remove_others other file w = refl

create_apart : (answer : Answer) (file name : List ℕ) (w : World) → bytes_eq file name ≡ false → (after_create answer file w).nodes name ≡ w.nodes name
create_apart (AnswerCreate MadeNew) file name w apart = put_apart w file name (Some (AFile (record { bytes = []; made = w.moment }))) apart
create_apart other file name w apart = refl

remove_apart : (answer : Answer) (file name : List ℕ) (w : World) → bytes_eq file name ≡ false → (after_remove answer file w).nodes name ≡ w.nodes name
remove_apart (AnswerRemove RemovedDone) file name w apart = put_apart w file name None apart
remove_apart other file name w apart = refl

at_call : (P : Call → Type 0) (call asked : Call) → call ≡ asked → P asked → P call
at_call P call asked e p = subst P (sym e) p

-- after a call others leave alone what they left alone before
call_left : (file name : List ℕ) (at : LockState) (call : Call) (answer : Answer) (w : World) → LockAsks file at call → OthersLeave w.others name → OthersLeave (after_call call answer w).others name
call_left file name (Trying t) call answer w asks left =
    at_call (λ c. OthersLeave (after_call c answer w).others name) call (Create file) asks (subst (λ l. OthersLeave l name) (sym (create_others answer file w)) left)
call_left file name (Aging t) call answer w asks left = at_call (λ c. OthersLeave (after_call c answer w).others name) call (Age file) asks left
call_left file name (Looking t) call answer w asks left = at_call (λ c. OthersLeave (after_call c answer w).others name) call (Look file) asks left
call_left file name (Removing t) call answer w asks left =
    at_call (λ c. OthersLeave (after_call c answer w).others name) call (Remove file) asks (subst (λ l. OthersLeave l name) (sym (remove_others answer file w)) left)
call_left file name (Pausing seconds t) call answer w asks left = at_call (λ c. OthersLeave (after_call c answer w).others name) call (Sleep seconds) asks (slept_apart seconds w name left).left
call_left file name (Ended end) call answer w asks left = absurd asks

-- a call changes nothing at another name that others leave alone
call_apart : (file name : List ℕ) (at : LockState) (call : Call) (answer : Answer) (w : World) → LockAsks file at call → bytes_eq file name ≡ false → OthersLeave w.others name
    → (after_call call answer w).nodes name ≡ w.nodes name
call_apart file name (Trying t) call answer w asks apart left = at_call (λ c. (after_call c answer w).nodes name ≡ w.nodes name) call (Create file) asks (create_apart answer file name w apart)
call_apart file name (Aging t) call answer w asks apart left = at_call (λ c. (after_call c answer w).nodes name ≡ w.nodes name) call (Age file) asks refl
call_apart file name (Looking t) call answer w asks apart left = at_call (λ c. (after_call c answer w).nodes name ≡ w.nodes name) call (Look file) asks refl
call_apart file name (Removing t) call answer w asks apart left = at_call (λ c. (after_call c answer w).nodes name ≡ w.nodes name) call (Remove file) asks (remove_apart answer file name w apart)
call_apart file name (Pausing seconds t) call answer w asks apart left = at_call (λ c. (after_call c answer w).nodes name ≡ w.nodes name) call (Sleep seconds) asks (slept_apart seconds w name left).here
call_apart file name (Ended end) call answer w asks apart left = absurd asks

calls_left : (rule : LockRule) (file name : List ℕ) (calls : List Logged) (at last : LockState) (w : World) → Transitions (LockAsks file) (lock_heard rule) at calls last
    → OthersLeave w.others name → OthersLeave (after_calls calls w).others name
calls_left rule file name [] at last w walk left = left
calls_left rule file name (c ∷ cs) at last w walk left =
    calls_left rule file name cs (lock_heard rule at c.answer) last (after_call c.call c.answer w) walk.2 (call_left file name at c.call c.answer w walk.0 left)

calls_apart : (rule : LockRule) (file name : List ℕ) (calls : List Logged) (at last : LockState) (w : World) → Transitions (LockAsks file) (lock_heard rule) at calls last → bytes_eq file name ≡ false
    → OthersLeave w.others name → (after_calls calls w).nodes name ≡ w.nodes name
calls_apart rule file name [] at last w walk apart left = refl
calls_apart rule file name (c ∷ cs) at last w walk apart left =
    calls_apart rule file name cs (lock_heard rule at c.answer) last (after_call c.call c.answer w) walk.2 apart (call_left file name at c.call c.answer w walk.0 left)
    ∙ call_apart file name at c.call c.answer w walk.0 apart left

-- the lock file that was made
lock_stands : (reply : Reply) (name : List ℕ) (calls : List Logged) (w : World) → IfHeld reply ((after_lock reply name calls w).nodes name) (after_lock reply name calls w).moment
lock_stands (Held sleeps forced) name calls w = get-put (after_moves calls w) name (Some (AFile (record { bytes = []; made = (after_moves calls w).moment })))
lock_stands other name calls w = tt

held_after : (rule : LockRule) (name : List ℕ) (reply : Reply) (calls : List Logged) (w : World) → TakeGroup rule name reply calls
    → IfHeld reply ((after_calls calls w).nodes name) (after_calls calls w).moment
held_after rule name reply calls w g =
    let effect = lock_effect rule name g.end calls w g.group ∙ ap (λ r. after_lock r name calls w) (sym g.reply_is) in
    subst (λ v. IfHeld reply (v.nodes name) v.moment) (sym effect) (lock_stands reply name calls w)

-- what the taking of a lock leaves
pub lock_leaves : (rule : LockRule) (name : List ℕ) (reply : Reply) (calls : List Logged) (w : World) → TakeGroup rule name reply calls → TakesRight name reply w (after_calls calls w)
lock_leaves rule name reply calls w g = record {
  held = held_after rule name reply calls w g;
  apart = λ other apart left. calls_apart rule name other calls (Trying no_tally) g.group.last w g.group.walk apart left;
  left = λ other left. calls_left rule name other calls (Trying no_tally) g.group.last w g.group.walk left;
}
