use Rattle.std.proofs.Common.{rules}
use Rattle.pm_journal.proofs.FirstActs.{act_after_room}
use Rattle.pm_journal.proofs.KeepingActs.{keeping_plain}
use Rattle.pm_journal.proofs.WantsMemory.{on_err, out_anywhere}
use Rattle.pm_meaning.proofs.run.Run.probe.Goals as goal

pub returns-in_err-reserve-clause-carries : goal.returns-in_err-reserve-clause-carries
returns-in_err-reserve-clause-carries g c = (search rules, on_err _ _ (out_anywhere _ _ _ _ c.reserve.ensures.same))

pub returns-clause-carries : goal.returns-clause-carries
returns-clause-carries g c = (act_after_room _ _ c.args.self.now.journal c.reserve.new.self c.probe.new.journal _ _ c.reserve.ensures.same c.probe.ensures, tt)

pub invariant_of-self-2 : goal.invariant_of-self-2
invariant_of-self-2 g c =
    let kept = keeping_plain _ _ c.args.self.now.journal c.reserve.new.self c.probe.new.journal _ _ _ tt (record { keeps = c.args.self.now.keeps; room = c.args.self.now.room }) c.reserve.ensures.same (search rules) c.probe.ensures in
    record { keeps = kept.keeps; room = kept.room }
