-- Jobs for tasks.
use Rattle.std.proofs.Common.{◌≡◌, List, [], ◌∷◌, ◌++◌, map, refl, ap, subst, sym, ◌∙◌}
use Rattle.lockfile_top.specs.Jobs.{IsFitTask, AllFit, job_for, AllReady, tasks_of}
use Rattle.lockfile_top.specs.declared.tasks.Task.{Task}
use Rattle.lockfile_top.specs.declared.jobs.Job.{Job}

for_ready : (tasks : List Task) → AllFit tasks → AllReady (map job_for tasks)
for_ready [] h = tt
for_ready (task ∷ tasks) h = (record { again = refl; forcing = refl; sorry = refl; fit = h.0 }, for_ready tasks h.1)

for_same : (tasks : List Task) → tasks_of (map job_for tasks) ≡ tasks
for_same [] = refl
for_same (task ∷ tasks) = ap (λ l. task ∷ l) (for_same tasks)

-- the jobs for tasks are ready
pub jobs_ready : (tasks : List Task) (jobs : List Job) → jobs ≡ map job_for tasks → AllFit tasks → AllReady jobs
jobs_ready tasks jobs e h = subst AllReady (sym e) (for_ready tasks h)

-- and are for these tasks
pub jobs_same : (tasks : List Task) (jobs : List Job) → jobs ≡ map job_for tasks → tasks_of jobs ≡ tasks
jobs_same tasks jobs e = ap tasks_of e ∙ for_same tasks

-- one fit task more
pub more_fit : (tasks : List Task) (task : Task) → AllFit tasks → IsFitTask task → AllFit (tasks ++ task ∷ [])
more_fit [] task h k = (k, tt)
more_fit (t ∷ ts) task h k = (h.0, more_fit ts task h.1 k)

pub all_fit : (tasks tasks' : List Task) (task : Task) → tasks' ≡ tasks ++ task ∷ [] → AllFit tasks → IsFitTask task → AllFit tasks'
all_fit tasks tasks' task e h k = subst AllFit (sym e) (more_fit tasks task h k)
