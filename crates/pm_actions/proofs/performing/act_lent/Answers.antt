use Rattle.pm_meaning.proofs.Beside.{carries_plain, carries_back, first_same, second_same, third_same}
use Rattle.pm_actions.proofs.performing.act_lent.Goals as goal

pub returns-clause-carries : goal.returns-clause-carries
returns-clause-carries g c = carries_plain _ _ _ _ _ _ _ c.do_work.ensures.carries

pub returns-clause-host : goal.returns-clause-host
returns-clause-host g c = first_same _ _ _ _ _ _ (carries_back _ _ _ _ _ _ _ c.do_work.ensures.carries)

pub returns-clause-out : goal.returns-clause-out
returns-clause-out g c = second_same _ _ _ _ _ _ (carries_back _ _ _ _ _ _ _ c.do_work.ensures.carries)

pub returns-clause-err : goal.returns-clause-err
returns-clause-err g c = third_same _ _ _ _ _ _ (carries_back _ _ _ _ _ _ _ c.do_work.ensures.carries)
