-- Tasks with all that is wanted for them, so that no memory is wanted while they are done.
use Rattle.std.specs.Prelude.{◌≡◌, ◌≤◌, ◌+◌, ◌*◌, ℕ, Bool, true, false, List, [], ◌∷◌, map, length, vec_capacity, Option, Some, None}
use Rattle.pm_journal.specs.declared.locking.LockRule.{LockRule}
use Rattle.lockfile_top.specs.Lines.{forcing_line, sorry_line}
use Rattle.lockfile_top.specs.Doing.{name_of}
use Rattle.lockfile_top.specs.declared.tasks.Task.{Task}
use Rattle.lockfile_top.specs.declared.tasks.Task.TheVariants.{Take, Give}
use Rattle.lockfile_top.specs.declared.words.Word.{Word}
use Rattle.lockfile_top.specs.declared.words.Word.TheVariants.{Sets}
use Rattle.lockfile_top.specs.declared.jobs.Job.{Job}
use Rattle.lockfile_top.specs.declared.jobs.Ready.{Ready}

-- as many tries as a lock may have
abbrev pub IsFit : LockRule → Type 0
IsFit rule = (1 ≤ rule.tries) × (rule.tries ≤ 1000000)

-- settings that a word gives are such ones where those before it were
abbrev pub KeepsFit : LockRule → Word → Type 0
KeepsFit rule (Sets changed) = IsFit rule → IsFit changed
KeepsFit rule other = Unit {0}

-- a lock that is taken by such a rule, or one that is given back
abbrev pub IsFitTask : Task → Type 0
IsFitTask (Take name rule) = IsFit rule
IsFitTask (Give name) = Unit {0}

-- each task is such a one
abbrev pub AllFit : List Task → Type 0
AllFit [] = Unit {0}
AllFit (task ∷ tasks) = IsFitTask task × AllFit tasks

-- the task with its name once more, for the lock files that were made, and the lines that may be said of it
abbrev pub job_for : Task → Job
job_for task = record {
  task = task;
  again = name_of task;
  forcing = forcing_line (name_of task);
  sorry = sorry_line (name_of task);
}

-- the job has what is wanted for its task
pub record IsReady (job : Job) : Type 0 where
  pub again : job.again ≡ name_of job.task
  pub forcing : job.forcing ≡ forcing_line (name_of job.task)
  pub sorry : job.sorry ≡ sorry_line (name_of job.task)
  pub fit : IsFitTask job.task

-- each job has what is wanted for its task
abbrev pub AllReady : List Job → Type 0
AllReady [] = Unit {0}
AllReady (job ∷ jobs) = IsReady job × AllReady jobs

-- the tasks of jobs
abbrev pub tasks_of : List Job → List Task
tasks_of jobs = map (λ job. job.task) jobs

-- the lock files that were made, where a task was done; None where it wasn't
abbrev pub made_by : Bool → List (List ℕ) → Option (List (List ℕ))
made_by true made = Some made
made_by false made = None

-- all that is wanted for these tasks is there
pub record IsReadyFor (tasks : List Task) (ready : Ready) : Type 0 where
  pub jobs : AllReady ready.jobs.items
  pub same : tasks_of ready.jobs.items ≡ tasks
  pub none : ready.made.items ≡ []
  pub space : length ready.jobs.items ≤ vec_capacity ready.made
  pub empty : ready.journal.entries ≡ []
  pub room : 3 * length ready.jobs.items + 1 ≤ ready.journal.room
