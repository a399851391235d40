use Rattle.std.proofs.Common.{arith}
use Rattle.std.proofs.lemmas.Grind.{common_steps}
use Rattle.lockfile_top.proofs.JobLemmas.{jobs_ready, jobs_same}
use Rattle.lockfile_top.proofs.jobs.make_ready.Goals as goal

pub returns : goal.returns
returns c = record {
  jobs = jobs_ready _ _ c.in_ok-jobs.ensures c.requires;
  same = jobs_same _ _ c.in_ok-jobs.ensures;
  none = grind (arith, common_steps);
  space = grind (arith, common_steps);
  empty = grind (arith, common_steps);
  room = grind (arith, common_steps);
}
