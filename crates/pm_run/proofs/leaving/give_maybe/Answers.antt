use Rattle.pm_meaning.specs.Blocks.{give_block_lock, give_maybe}
use Rattle.pm_meaning.specs.Minds.{mind_of}
use Rattle.pm_meaning.proofs.Choices.{carried}
use Rattle.pm_run.proofs.LeaveLemmas.{none_given, named_given}
use Rattle.pm_run.proofs.leaving.give_maybe.Goals as goal

pub returns-in-None-clause-carries : goal.returns-in-None-clause-carries
returns-in-None-clause-carries g c = (none_given c.args.lock.now (mind_of c.args.run.now.process) _ _ c.in-None.is, tt)

pub returns-in-Some-clause-carries : goal.returns-in-Some-clause-carries
returns-in-Some-clause-carries g c =
    let p = mind_of c.args.run.now.process in
    carried (give_block_lock c.in-Some.name p) (give_maybe c.args.lock.now p) _ _ _ _ _ _ (named_given c.args.lock.now c.in-Some.name p c.in-Some.is) c.give_block_lock.ensures.carries
