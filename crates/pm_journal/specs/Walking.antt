-- A process as a machine whose steps are plans.
use Rattle.std.specs.Prelude.{◌≡◌, ℕ, zero, suc, List, [], ◌++◌, Option, Some, None, ◌⊎◌}
use Rattle.pm_journal.specs.Held.{Keeps, AreUnlocks}
use Rattle.pm_journal.specs.JournalState.{JournalState}
use Rattle.pm_journal.specs.Entries.{View, Accounts}
use Rattle.pm_journal.specs.Plan.{Plan, Ends, and_then, Plays}
use Rattle.pm_journal.specs.Executed.{WantsAct, HasEnded, TakesCalls}
use Rattle.pm_journal.specs.declared.acts.Entry.{Entry}
use Rattle.pm_host.specs.declared.calls.Logged.{Logged}

-- what comes of a step: the end, or the next state
pub data Next (S X : Type 0) : Type 0 where
  Stop : X → Next S X
  Go : S → Next S X

-- the meaning of so many steps; None is a process that isn't over by then
abbrev pub walk : {S X : Type 0} → (S → Plan (Next S X)) → ℕ → S → Plan (Option X)
walk step zero s = Ends None
walk step (suc n) s = and_then (step s) (λ next. elim next [ Stop x ↦ Ends (Some x) | Go t ↦ walk step n t ])

-- where the process stands after so many steps; None is a process that is over by then
abbrev pub reach : {S X : Type 0} → (S → Plan (Next S X)) → ℕ → S → Plan (Option S)
reach step zero s = Ends (Some s)
reach step (suc n) s = and_then (step s) (λ next. elim next [ Stop x ↦ Ends None | Go t ↦ reach step n t ])

-- over these entries the process comes to this state
pub record ArrivesAt {S X : Type 0} (step : S → Plan (Next S X)) (s : S) (entries : List Entry) (t : S) : Type 0 where
  pub steps : ℕ
  pub plays : Plays (reach step steps s) entries (Some t)

-- over these entries the process ends so
pub record Means {S X : Type 0} (step : S → Plan (Next S X)) (s : S) (entries : List Entry) (end : X) : Type 0 where
  pub steps : ℕ
  pub plays : Plays (walk step steps s) entries (Some end)

-- after these entries the process wants an act, or has come to the end of some steps
pub record IsUnfinished {S X : Type 0} (step : S → Plan (Next S X)) (s : S) (entries : List Entry) (calls : List Logged) : Type 0 where
  pub steps : ℕ
  pub off : WantsAct (walk step steps s) entries calls ⊎ HasEnded (walk step steps s) entries calls

-- the process went on from s to t, and noted it
pub record Reaches {S X : Type 0} (step : S → Plan (Next S X)) (s t : S) (old new : JournalState) (before after : View) : Type 0 where
  pub more : List Entry
  pub entries : new.entries ≡ old.entries ++ more
  pub arrives : ArrivesAt {X = X} step s more t
  pub means : (later : List Entry) (end : X) → Means step t later end → Means step s (more ++ later) end
  pub unfinished : (later : List Entry) (calls : List Logged) → IsUnfinished step t later calls → IsUnfinished step s (more ++ later) calls
  pub accounts : Accounts more before after

-- the process ended so, and noted it
pub record Completes {S X : Type 0} (step : S → Plan (Next S X)) (s : S) (end : X) (old new : JournalState) (before after : View) : Type 0 where
  pub more : List Entry
  pub entries : new.entries ≡ old.entries ++ more
  pub means : Means step s more end
  pub accounts : Accounts more before after

-- memory was wanting in the process
pub record Interrupted {S X : Type 0} (step : S → Plan (Next S X)) (s : S) (old new : JournalState) (before after : View) : Type 0 where
  pub more : List Entry
  pub entries : new.entries ≡ old.entries ++ more
  pub middle : View
  pub accounts : Accounts more before middle
  pub left_off : List Logged
  pub unfinished : IsUnfinished step s more left_off
  pub took : TakesCalls left_off middle after

-- Memory was wanting in the process, and then each lock that its entries had left held was given back.
pub record Abandoned {S X : Type 0} (step : S → Plan (Next S X)) (s : S) (old new : JournalState) (before after : View) : Type 0 where
  pub done : List Entry
  pub given : List Entry
  pub entries : new.entries ≡ old.entries ++ done ++ given
  pub middle : View
  pub accounts : Accounts done before middle
  pub left_off : List Logged
  pub unfinished : IsUnfinished step s done left_off
  pub later : View
  pub took : TakesCalls left_off middle later
  pub held : List (List ℕ)
  pub kept : Keeps [] done held
  pub unlocks : AreUnlocks held given
  pub back : Accounts given later after
