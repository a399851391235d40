use Rattle.std.proofs.Common.{rules}
use Rattle.pm_journal.proofs.ActLemmas.{said_plain}
use Rattle.pm_journal.proofs.FirstActs.{act_after_room}
use Rattle.pm_journal.proofs.KeepingActs.{keeping_plain}
use Rattle.pm_journal.proofs.WantsMemory.{on_err, out_anywhere}
use Rattle.pm_meaning.proofs.run.Run.say.Goals as goal

pub returns-in_err-reserve-clause-memory : goal.returns-in_err-reserve-clause-memory
returns-in_err-reserve-clause-memory g c = on_err _ _ (out_anywhere _ _ _ _ c.reserve.ensures.same)

pub returns-clause-ok : goal.returns-clause-ok
returns-clause-ok g c = record {
  reply = c.say.ensures.reply;
  executes = act_after_room _ _ c.args.self.now.journal c.reserve.new.self c.say.new.journal _ _ c.reserve.ensures.same c.say.ensures.notes;
}

pub invariant_of-self-2 : goal.invariant_of-self-2
invariant_of-self-2 g c =
    let kept = keeping_plain _ _ c.args.self.now.journal c.reserve.new.self c.say.new.journal _ _ _ (said_plain c.args.to c.args.line) (record { keeps = c.args.self.now.keeps; room = c.args.self.now.room }) c.reserve.ensures.same (search rules) c.say.ensures.notes in
    record { keeps = kept.keeps; room = kept.room }
