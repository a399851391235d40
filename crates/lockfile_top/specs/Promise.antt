-- What is promised of every run.
use Rattle.std.specs.Prelude.{◌≡◌, ◌⊎◌, ℕ, List, [], Some, None}
use Rattle.pm_bytes.specs.declared.environment.Environ.{Environ}
use Rattle.pm_host.specs.Told.{Tells}
use Rattle.pm_journal.specs.Entries.{View, Accounts, after_entries}
use Rattle.pm_journal.specs.Plan.{Plays}
use Rattle.pm_journal.specs.declared.acts.Entry.{Entry}
use Rattle.lockfile_top.specs.Words.{command_line}
use Rattle.lockfile_top.specs.Doing.{do_tasks}
use Rattle.lockfile_top.specs.Ends.{AllSucceed, AllGone, StopsFrom}
use Rattle.lockfile_top.specs.Status.{status_number, end_status}
use Rattle.lockfile_top.specs.declared.status.Status.TheVariants.{Usage, SystemError}
use Rattle.lockfile_top.specs.declared.tasks.Task.{Task}
use Rattle.lockfile_top.specs.declared.tasks.CommandLine.{CommandLine}
use Rattle.lockfile_top.specs.declared.tasks.Ending.{Ending}
use Rattle.lockfile_top.specs.declared.tasks.Ending.TheVariants.{AllDone, GaveUp}

-- the words and the environment of a run, its exit status, and what the host and `err` told before it and after it
pub record Run : Type 0 where
  pub words : List (List ℕ)
  pub env : Environ
  pub status : ℕ
  pub before : View
  pub after : View

-- a word isn't read, or they name no lock file: nothing was asked of the outside, and nothing is said
pub record BadWords (run : Run) : Type 0 where
  pub unread : command_line run.env run.words ≡ None
  pub status_is : run.status ≡ status_number Usage
  pub same : run.after ≡ run.before

-- memory was wanting before anything was asked of the outside
pub record NotBegun (run : Run) : Type 0 where
  pub status_is : run.status ≡ status_number SystemError
  pub same : run.after ≡ run.before

-- the words are read, and what they ask for was done in order, up to a task that couldn't be
pub record DoesTasks (run : Run) : Type 0 where
  pub line : CommandLine
  pub read : command_line run.env run.words ≡ Some line
  pub entries : List Entry
  pub ending : Ending
  pub plays : Plays (do_tasks line.tasks []) entries ending
  pub accounts : Accounts entries run.before run.after
  pub status_is : run.status ≡ status_number (end_status line.inverted ending)

-- how a run went
pub data Outcome (run : Run) : Type 0 where
  bad_words : BadWords run → Outcome run
  not_begun : NotBegun run → Outcome run
  does_tasks : DoesTasks run → Outcome run

-- A run that stopped tried the removal of each lock file that it had made, and where that didn't fail none stands.
pub record Stopped (run : Run) (h : DoesTasks run) : Type 0 where
  pub from : StopsFrom [] h.entries
  pub gone : Tells (λ old new. AllGone from.given new) run.before.host.world run.after.host.world

-- what is left by tasks that were done
pub record Leaves (run : Run) (h : DoesTasks run) : Type 0 where
  -- the tree of files is what the entries make of the tree at the beginning
  pub tree : Tells (λ old new. new ≡ after_entries h.entries h.accounts.groups old)
      run.before.host.world run.after.host.world
  -- where all were done, each lock was got, and each that was to be given back was
  pub succeeded : h.ending ≡ AllDone → AllSucceed h.entries
  -- where one wasn't, the lock files that were made are removed again
  pub stopped : h.ending ≡ GaveUp → Stopped run h

-- what a run leaves, by how it went
abbrev pub LeavesRight : (run : Run) → Outcome run → Type 0
LeavesRight run (does_tasks h) = Leaves run h
LeavesRight run other = Unit {0}

-- what is promised of a run: how it went, what it left, and which words and which want of memory end it at once
pub record Promise (run : Run) : Type 0 where
  pub how : Outcome run
  pub left : LeavesRight run how
  pub unread : command_line run.env run.words ≡ None → BadWords run ⊎ NotBegun run
  pub on_64 : run.status ≡ 64 → BadWords run
  pub on_71 : run.status ≡ 71 → NotBegun run

-- these tasks were done in order, up to one that couldn't be
pub record Did (tasks : List Task) (ending : Ending) (before after : View) : Type 0 where
  pub entries : List Entry
  pub plays : Plays (do_tasks tasks []) entries ending
  pub accounts : Accounts entries before after

-- the run of every command line that asks for these tasks
abbrev pub RunsLine : CommandLine → ℕ → View → View → Type 0
RunsLine line status before after =
    (words : List (List ℕ)) (env : Environ) → command_line env words ≡ Some line
    → Outcome (record { words = words; env = env; status = status; before = before; after = after })
