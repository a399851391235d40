-- A plan, carried out and noted, to its end or to a want of memory.
use Rattle.std.specs.Prelude.{◌≡◌, ℕ, true, List, [], ◌++◌, ◌⊎◌, Result, IfOk, OnErr}
use Rattle.pm_bytes.specs.declared.error.Memory.{Memory}
use Rattle.pm_host.specs.Runs.{Ran}
use Rattle.pm_host.specs.declared.calls.Logged.{Logged}
use Rattle.pm_journal.specs.JournalState.{JournalState}
use Rattle.pm_journal.specs.Entries.{View, Accounts}
use Rattle.pm_journal.specs.Held.{AreUnlocks}
use Rattle.pm_journal.specs.Children.{LeftRun}
use Rattle.pm_journal.specs.Placing.{LeftPlace}
use Rattle.pm_journal.specs.Plan.{Plan, Plays, Wants}
use Rattle.pm_journal.specs.Reading.{ReadState, ReadPrefix}
use Rattle.pm_journal.specs.declared.acts.Act.{Act}
use Rattle.pm_journal.specs.declared.acts.Act.TheVariants.{ReadFile, Place, Run}
use Rattle.pm_journal.specs.declared.acts.Entry.{Entry}

-- the plan was carried out to this end, and noted
pub record Executes {R : Type 0} (plan : Plan R) (end : R) (old new : JournalState) (before after : View) : Type 0 where
  pub more : List Entry
  pub entries : new.entries ≡ old.entries ++ more
  pub plays : Plays plan more end
  pub accounts : Accounts more before after

-- the calls of an act that was left off for want of memory
abbrev pub UnfinishedCalls : Act → List Logged → Type 0
UnfinishedCalls (ReadFile name) calls = (at : ReadState) × ReadPrefix name at calls
UnfinishedCalls (Place kind folder prefix piece stamp) calls = LeftPlace kind folder calls
UnfinishedCalls (Run command input want) calls = (calls ≡ []) ⊎ ((want ≡ true) × LeftRun command input calls)
UnfinishedCalls act calls = calls ≡ []

-- an act was left off
pub record WantsAct {R : Type 0} (plan : Plan R) (entries : List Entry) (calls : List Logged) : Type 0 where
  pub wanted : Act
  pub wants : Wants plan entries wanted
  pub leaves : UnfinishedCalls wanted calls

-- nothing was left off
pub record HasEnded {R : Type 0} (plan : Plan R) (entries : List Entry) (calls : List Logged) : Type 0 where
  pub end : R
  pub plays : Plays plan entries end
  pub none : calls ≡ []

-- the host took these calls, and nothing else was done
pub record TakesCalls (calls : List Logged) (before after : View) : Type 0 where
  pub ran : Ran calls before.host after.host
  pub out_same : after.out ≡ before.out
  pub err_same : after.err ≡ before.err
  pub same : after.references ≡ before.references

-- Memory was wanting in the middle of the plan or at its end: some of it was carried out and noted, and the act that it
-- wants next, if any, was left off.
pub record OutOfMemory {R : Type 0} (plan : Plan R) (old new : JournalState) (before after : View) : Type 0 where
  pub more : List Entry
  pub entries : new.entries ≡ old.entries ++ more
  pub middle : View
  pub accounts : Accounts more before middle
  pub left_off : List Logged
  pub where_off : WantsAct plan more left_off ⊎ HasEnded plan more left_off
  pub took : TakesCalls left_off middle after

-- the plan was carried out to the end that the answer stands for, or memory was wanting in it
abbrev pub Carries : {R A : Type 0} → Plan R → (A → R) → Result A Memory → JournalState → JournalState → View → View → Type 0
Carries plan end answer old new before after =
    IfOk answer (λ a. Executes plan (end a) old new before after) × OnErr answer (OutOfMemory plan old new before after)

-- Some of the plan was carried out and noted, and the rest is this plan.
pub record LeadsTo {R : Type 0} (plan rest : Plan R) (old new : JournalState) (before after : View) : Type 0 where
  pub more : List Entry
  pub entries : new.entries ≡ old.entries ++ more
  pub plays : (later : List Entry) (end : R) → Plays rest later end → Plays plan (more ++ later) end
  pub wants : (later : List Entry) (act : Act) → Wants rest later act → Wants plan (more ++ later) act
  pub accounts : Accounts more before after

-- each of these locks was given back, the last taken first: its removal was tried once, and noted
pub record GivesEach (held : List (List ℕ)) (old new : JournalState) (before after : View) : Type 0 where
  pub given : List Entry
  pub entries : new.entries ≡ old.entries ++ given
  pub unlocks : AreUnlocks held given
  pub accounts : Accounts given before after
