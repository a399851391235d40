-- How a trial ends.
use Rattle.std.specs.Prelude.{◌≡◌, ◌≢◌, ◌<◌, ◌≤◌, ℕ, List}
use Rattle.pm_bytes.specs.declared.environment.Environ.{Environ}
use Rattle.pm_host.specs.Streams.{StreamView}
use Rattle.pm_journal.specs.Entries.{View}
use Rattle.pm_append.specs.Writing.{WritesText}
use Rattle.pm_journal.specs.declared.saying.WriteEnd.{WriteEnd}
use Rattle.pm_journal.specs.declared.saying.WriteEnd.TheVariants.{Wrote, Short}
use Rattle.pm_meaning.specs.Status.{status_number}
use Rattle.pm_meaning.specs.declared.status.Status.TheVariants.{Success, SystemError, InputOutput}
use Rattle.pm_top.specs.Run.{Run}
use Rattle.pm_top.specs.Outcome.{SaysLine, status_line}
use Rattle.pm_top.specs.Counting.{totals_of}
use Rattle.pm_top.specs.Report.{report_of}
use Rattle.pm_top.specs.Runs.{IsRun, Delivered, all_entries}
use Rattle.pm_top.specs.declared.delivering.TrialEnd.{TrialEnd}
use Rattle.pm_top.specs.declared.delivering.TrialEnd.TheVariants.{Delivered as AllDelivered, Failed}

-- how many messages a trial has, its environment and its status, and what was told before it and after it
pub record Trial : Type 0 where
  pub count : ℕ
  pub env : Environ
  pub status : ℕ
  pub before : View
  pub after : View

-- run k failed after k runs with status 0, and nothing was done after it
pub record FailsIn (k : ℕ) (env : Environ) (status : ℕ) (before after : View) : Type 0 where
  pub middle : View
  pub delivered : Delivered env k before middle
  pub run : Run
  pub last : IsRun env k run
  pub begins : run.before ≡ middle
  pub ends : run.after ≡ after
  pub status_is : run.status ≡ status
  pub failed : status ≢ 0

-- one of so many runs failed
pub record Fails (count : ℕ) (env : Environ) (status : ℕ) (before after : View) : Type 0 where
  pub k : ℕ
  pub within : k < count
  pub fails : FailsIn k env status before after

-- all of so many runs had status 0, and this is the report of their entries
pub record Succeeds (count : ℕ) (env : Environ) (report : List ℕ) (before after : View) : Type 0 where
  pub delivered : Delivered env count before after
  pub report_is : report ≡ report_of count (totals_of (all_entries delivered.runs))

-- the runs of a trial ended so
abbrev pub EndsSo : ℕ → Environ → TrialEnd → View → View → Type 0
EndsSo count env (AllDelivered report) before after = Succeeds count env report before after
EndsSo count env (Failed status) before after = Fails count env status before after

-- memory was wanting outside the runs, after some with status 0
pub record GivesUp (count : ℕ) (env : Environ) (before after : View) : Type 0 where
  pub number : ℕ
  pub within : number ≤ count
  pub delivered : Delivered env number before after

-- the status after the report: 0 where all of it was taken
abbrev pub written_status : WriteEnd → ℕ
written_status Wrote = status_number Success
written_status (Short n) = status_number InputOutput

-- the sink took the report, or a front of it where its count of faults rose, and the status says which
pub record WritesReport (report : List ℕ) (status : ℕ) (before after : StreamView) : Type 0 where
  pub end : WriteEnd
  pub writes : WritesText report end before after
  pub status_is : status ≡ written_status end

-- all runs had status 0, and then nothing was done but that `out` took the report, or a front of it
pub record Reports (trial : Trial) : Type 0 where
  pub report : List ℕ
  pub middle : View
  pub succeeds : Succeeds trial.count trial.env report trial.before middle
  pub writes : WritesReport report trial.status middle.out trial.after.out
  pub host_same : trial.after.host ≡ middle.host
  pub err_same : trial.after.err ≡ middle.err

-- memory was wanting outside the runs, all of which had status 0, and then nothing was done but that `err` took a line
pub record Starves (trial : Trial) : Type 0 where
  pub middle : View
  pub gives_up : GivesUp trial.count trial.env trial.before middle
  pub status_is : trial.status ≡ status_number SystemError
  pub host_same : trial.after.host ≡ middle.host
  pub out_same : trial.after.out ≡ middle.out
  pub said : SaysLine (status_line SystemError) middle.err trial.after.err

-- how a trial went: all runs had status 0, the last one begun had another, or memory was wanting outside the runs
pub data Tried (trial : Trial) : Type 0 where
  reported : Reports trial → Tried trial
  failed : Fails trial.count trial.env trial.status trial.before trial.after → Tried trial
  starved : Starves trial → Tried trial
