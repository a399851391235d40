use Rattle.std.proofs.Common.{◌≡◌, ◌++◌, length, map}
use Rattle.lockfile_top.specs.Jobs.{job_for}
use Rattle.lockfile_top.proofs.jobs.make_jobs.Given as goal

abbrev pub invariant-loop-task : goal.invariant-loop-task
invariant-loop-task l = l.jobs.items ++ map job_for l.tasks.items ≡ map job_for l.fn.tasks

abbrev pub decreases-loop-task : goal.decreases-loop-task
decreases-loop-task l = length l.tasks.items
