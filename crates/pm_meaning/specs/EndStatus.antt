-- Which status a run has: that of its first process's end.
use Rattle.std.specs.Prelude.{◌≡◌, ℕ, false, ◌&&◌, List, [], ◌++◌, None, codes}
use Rattle.pm_bytes.specs.Number.{count_of}
use Rattle.pm_bytes.specs.declared.environment.Environ.{Environ}
use Rattle.pm_journal.specs.Plan.{Plays}
use Rattle.pm_journal.specs.Walking.{Means, ArrivesAt}
use Rattle.pm_journal.specs.declared.acts.Entry.{Entry}
use Rattle.pm_vars.specs.Variables.{value_of}
use Rattle.pm_meaning.specs.Changes.{is_given}
use Rattle.pm_meaning.specs.Locks.{value_or}
use Rattle.pm_meaning.specs.Minds.{Mind}
use Rattle.pm_meaning.specs.Courses.{Others, Course, now_at, advance, run_of}
use Rattle.pm_meaning.specs.Ends.{Trapped, trap}
use Rattle.pm_meaning.specs.Running.{State, Trapping}
use Rattle.pm_meaning.specs.Status.{is_code, is_there_empty, exit_status}
use Rattle.pm_meaning.specs.declared.command_line.CommandLine.{CommandLine}
use Rattle.pm_meaning.specs.declared.ending.Ending.{Ending}

-- over these entries the run's first process comes to this state
abbrev pub ComesTo : Course → List Entry → State → Type 0
ComesTo c before s = (o : Others) × (o.first ≡ None) × ArrivesAt {X = Ending} advance c before (now_at o s)

-- Over the entries before, the first process came to this end; over the next ones TRAP's program ran, where it was to; and the status is
-- that of the end by the code of this program and by the variables that the process had then.
pub record EndsBy (c : Course) (entries : List Entry) (ending : Ending) : Type 0 where
  pub before : List Entry
  pub trapped : List Entry
  pub later : List Entry
  pub whole : entries ≡ before ++ (trapped ++ later)
  pub mind : Mind
  pub comes : ComesTo c before (Trapping ending.end mind)
  pub left : Trapped
  pub ran : Plays (trap ending.end mind) trapped left
  pub status : ending.status ≡ exit_status ending.end left.code left.mind

-- by these variables the status is neither EXITCODE's number nor that of TRAP's program
pub record SetsNoStatus (p : Mind) : Type 0 where
  pub no_code : is_code (count_of (value_or [] (codes "EXITCODE") p.vars)) ≡ false
  pub no_trap : (is_there_empty (value_of (codes "EXITCODE") p.vars.variables) && is_given (codes "TRAP") p) ≡ false

-- every run that is its meaning ends so
abbrev pub EndHasStatus : Type 0
EndHasStatus =
    (line : CommandLine) (env : Environ) (bytes : List ℕ) (entries : List Entry) (ending : Ending) → Means advance (run_of line env bytes) entries ending
    → EndsBy (run_of line env bytes) entries ending

-- and over the same entries it does so in one way
abbrev pub EndsOneWay : Type 0
EndsOneWay = (c : Course) (entries : List Entry) (first second : Ending) → EndsBy c entries first → EndsBy c entries second → first ≡ second
