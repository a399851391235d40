use Rattle.std.proofs.Common.{rules, w64}
use Rattle.std.proofs.Math.Facts.{to_z-of_z}
use Rattle.pm_journal.proofs.FirstActs.{act_after_room}
use Rattle.pm_journal.proofs.KeepingActs.{keeping_plain}
use Rattle.pm_journal.proofs.WantsMemory.{on_err, out_anywhere}
use Rattle.pm_run.proofs.OtherLemmas.{keeping_none}
use Rattle.pm_run.proofs.arriving.ask_moment.Goals as goal

pub returns-in_err-reserve-clause-carries : goal.returns-in_err-reserve-clause-carries
returns-in_err-reserve-clause-carries g c = (search rules, on_err _ _ (out_anywhere _ _ _ _ c.reserve.ensures.same))

pub returns-clause-carries : goal.returns-clause-carries
returns-clause-carries g c =
    let moment = to_z-of_z {w = w64} {z = c.moment.result} (search rules) in
    rw moment (act_after_room _ _ c.args.idle.now.journal c.reserve.new.self c.moment.new.journal _ _ c.reserve.ensures.same c.moment.ensures, tt)

pub invariant_of-idle-2 : goal.invariant_of-idle-2
invariant_of-idle-2 g c =
    let kept = keeping_plain _ _ c.args.idle.now.journal c.reserve.new.self c.moment.new.journal _ _ _ tt (keeping_none _ c.args.idle.now.keeps) c.reserve.ensures.same (search rules) c.moment.ensures in
    record { keeps = kept.keeps }
