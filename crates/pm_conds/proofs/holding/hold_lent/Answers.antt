use Rattle.std.proofs.Common.{sym, ◌∙◌}
use Rattle.pm_meaning.specs.Judging.{holding}
use Rattle.pm_meaning.specs.Minds.{mind_of}
use Rattle.pm_meaning.proofs.Beside.{carries_beside, carries_back, first_same, second_same, third_same}
use Rattle.pm_conds.proofs.QuietConditions.{quiet_holding}
use Rattle.pm_conds.proofs.holding.hold_lent.Goals as goal

pub returns-clause-carries : goal.returns-clause-carries
returns-clause-carries g c told is =
    let p = mind_of c.args.paused.process in
    let quiet = quiet_holding c.args.conditions.now c.args.flags p in
    let stayed = first_same _ _ _ _ _ _ (carries_back _ _ _ _ _ _ _ c.hold_apart.ensures.carries) in
    carries_beside told (holding c.args.conditions.now c.args.flags p) _ _ _ _ _ _ quiet (sym is) (stayed ∙ sym is) c.hold_apart.ensures.carries

pub returns-clause-host : goal.returns-clause-host
returns-clause-host g c = second_same _ _ _ _ _ _ (carries_back _ _ _ _ _ _ _ c.hold_apart.ensures.carries)

pub returns-clause-err : goal.returns-clause-err
returns-clause-err g c = third_same _ _ _ _ _ _ (carries_back _ _ _ _ _ _ _ c.hold_apart.ensures.carries)
