use Rattle.std.proofs.Common.{◌≡◌, suc, [], true, false, rules, length, ap, subst, arith}
use Rattle.pm_journal.proofs.PlanLeads.{leads_itself}
use Rattle.lockfile_top.specs.Jobs.{AllReady}
use Rattle.lockfile_top.proofs.TaskLemmas.{task_on, task_stops, tasks_over}
use Rattle.lockfile_top.proofs.doing.do_jobs.Goals as goal

pub loop-job-init : goal.loop-job-init
loop-job-init g c = record { leads = leads_itself _ _ _; ready = c.requires.ready; space = c.requires.space; room = c.requires.room }

pub returns-then-not-do_task : goal.returns-then-not-do_task
returns-then-not-do_task g c =
    let missed : c.do_task.result ≡ false = search rules in
    let same : c.do_task.new.made.items ≡ c.loop-job.made.items = search rules in
    task_stops _ c.loop-job.jobs.items c.pop_front.new.self.items c.in-Some.job c.loop-job.made.items _ c.do_task.result _ _ _ _ _ _ _ _ _ c.loop-job.invariant.leads c.in-Some.ensures.items c.do_task.ensures.done missed same
    (subst AllReady c.in-Some.ensures.items c.loop-job.invariant.ready).0.sorry c.give_up.ensures

-- where the job's line has other owners, and where it hasn't
pub loop-job-preserved-else-not-do_task : goal.loop-job-preserved-else-not-do_task
loop-job-preserved-else-not-do_task g c =
    let done : c.do_task.result ≡ true = search rules in
    let split : length c.loop-job.jobs.items ≡ suc (length c.pop_front.new.self.items) = ap length c.in-Some.ensures.items in
    record {
      leads = task_on _ c.loop-job.jobs.items c.pop_front.new.self.items c.in-Some.job c.loop-job.made.items _ c.do_task.result _ _ _ _ _ _ c.loop-job.invariant.leads c.in-Some.ensures.items c.do_task.ensures.done done;
      ready = (subst AllReady c.in-Some.ensures.items c.loop-job.invariant.ready).1;
      space = omega (arith, c.loop-job.invariant.space, c.do_task.ensures.few, c.do_task.ensures.space, split);
      room = omega (arith, c.loop-job.invariant.room, c.do_task.ensures.few, c.do_task.ensures.room, split);
    }

pub loop-job-preserved : goal.loop-job-preserved
loop-job-preserved g c =
    let done : c.do_task.result ≡ true = search rules in
    let split : length c.loop-job.jobs.items ≡ suc (length c.pop_front.new.self.items) = ap length c.in-Some.ensures.items in
    record {
      leads = task_on _ c.loop-job.jobs.items c.pop_front.new.self.items c.in-Some.job c.loop-job.made.items _ c.do_task.result _ _ _ _ _ _ c.loop-job.invariant.leads c.in-Some.ensures.items c.do_task.ensures.done done;
      ready = (subst AllReady c.in-Some.ensures.items c.loop-job.invariant.ready).1;
      space = omega (arith, c.loop-job.invariant.space, c.do_task.ensures.few, c.do_task.ensures.space, split);
      room = omega (arith, c.loop-job.invariant.room, c.do_task.ensures.few, c.do_task.ensures.room, split);
    }

pub returns : goal.returns
returns g c = let e : c.loop-job.jobs.items ≡ [] = search rules in tasks_over _ c.loop-job.jobs.items c.loop-job.made.items _ _ _ _ c.loop-job.invariant.leads e
