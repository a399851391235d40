use Rattle.std.proofs.Common.{rules}
use Rattle.pm_journal.proofs.ActLemmas.{giving_begun, giving_goes_on, giving_over, keeping_first}
use Rattle.pm_journal.proofs.locks.give_all.Goals as goal

pub loop-name-init : goal.loop-name-init
loop-name-init g c = record { giving = giving_begun _ _ _; keeping = c.requires.keeping }

pub loop-name-preserved : goal.loop-name-preserved
loop-name-preserved g c =
    let was = c.in-Some.ensures.some in
    record {
      giving = giving_goes_on _ _ _ _ _ _ _ _ _ _ _ c.loop-name.invariant.giving was c.unlock.ensures;
      keeping = keeping_first _ _ _ _ _ _ _ _ c.loop-name.invariant.keeping was c.unlock.ensures;
    }

pub returns-clause-gives : goal.returns-clause-gives
returns-clause-gives g c = giving_over _ _ _ _ _ _ c.loop-name.invariant.giving (search rules)
