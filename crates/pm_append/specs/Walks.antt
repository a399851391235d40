-- The calls of a host as the steps of an append.
use Rattle.std.specs.Prelude.{◌≡◌, ℕ, List}
use Rattle.pm_host.specs.Told.{HostView}
use Rattle.pm_host.specs.Runs.{Ran, Transitions}
use Rattle.pm_host.specs.declared.calls.Call.{Call}
use Rattle.pm_host.specs.declared.calls.Logged.{Logged}
use Rattle.pm_journal.specs.Appending.{StepAsks, append_step}
use Rattle.pm_journal.specs.declared.appending.AppendEnd.{AppendEnd}
use Rattle.pm_journal.specs.declared.appending.AppendStep.TheVariants.{Finish}
use Rattle.pm_append.specs.Machine.{Machine, appending_heard}

-- the call by which this append of the piece goes on
abbrev pub AppendingAsks : List ℕ → List ℕ → Machine → Call → Type 0
AppendingAsks name piece m call = StepAsks name piece (append_step m.len m.sync m.at) call

-- the calls that the host took are the steps of this append with their answers, up to its end
pub record RunsAppend (name piece : List ℕ) (begun : Machine) (end : AppendEnd) (before after : HostView) : Type 0 where
  pub calls : List Logged
  pub ran : Ran calls before after
  pub last : Machine
  pub walk : Transitions (AppendingAsks name piece) appending_heard begun calls last
  pub ends : append_step last.len last.sync last.at ≡ Finish end
