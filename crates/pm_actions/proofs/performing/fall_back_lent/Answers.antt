use Rattle.std.proofs.Common.{sym, ◌∙◌}
use Rattle.pm_meaning.specs.Minds.{mind_of}
use Rattle.pm_meaning.specs.Running.{fall_back}
use Rattle.pm_meaning.proofs.Beside.{carries_beside, carries_back, first_same, second_same, third_same}
use Rattle.pm_actions.proofs.QuietDelivering.{quiet_fallback}
use Rattle.pm_actions.proofs.performing.fall_back_lent.Goals as goal

pub returns-clause-carries : goal.returns-clause-carries
returns-clause-carries g c told is =
    let p = mind_of c.args.paused.process in
    let stayed = second_same _ _ _ _ _ _ (carries_back _ _ _ _ _ _ _ c.do_work.ensures.carries) in
    carries_beside told (fall_back p) _ _ _ _ _ _ (quiet_fallback p) (sym is) (stayed ∙ sym is) c.do_work.ensures.carries

pub returns-clause-host : goal.returns-clause-host
returns-clause-host g c = first_same _ _ _ _ _ _ (carries_back _ _ _ _ _ _ _ c.do_work.ensures.carries)

pub returns-clause-err : goal.returns-clause-err
returns-clause-err g c = third_same _ _ _ _ _ _ (carries_back _ _ _ _ _ _ _ c.do_work.ensures.carries)
