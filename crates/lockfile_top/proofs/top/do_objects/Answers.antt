use Rattle.lockfile_top.proofs.RunLemmas.{did_plain, first_same, second_same, third_same}
use Rattle.lockfile_top.proofs.top.do_objects.Goals as goal

pub returns-clause-did : goal.returns-clause-did
returns-clause-did g c = did_plain _ _ _ _ _ _ _ c.do_jobs.ensures c.requires.none

pub returns-clause-host : goal.returns-clause-host
returns-clause-host g c = first_same _ _ _ _ _ _ c.do_jobs.ensures.accounts.same

pub returns-clause-out : goal.returns-clause-out
returns-clause-out g c = second_same _ _ _ _ _ _ c.do_jobs.ensures.accounts.same

pub returns-clause-err : goal.returns-clause-err
returns-clause-err g c = third_same _ _ _ _ _ _ c.do_jobs.ensures.accounts.same
