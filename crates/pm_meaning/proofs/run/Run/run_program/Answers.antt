use Rattle.std.proofs.Common.{rules}
use Rattle.pm_journal.proofs.WantsMemory.{on_err, out_anywhere}
use Rattle.pm_meaning.proofs.ActLemmas.{program_run, act_left, run_keeps}
use Rattle.pm_meaning.proofs.run.Run.run_program.Goals as goal

pub returns-in_err-reserve-clause-memory : goal.returns-in_err-reserve-clause-memory
returns-in_err-reserve-clause-memory g c = on_err _ _ (out_anywhere _ _ _ _ c.reserve.ensures.same)

pub returns-clause-ok : goal.returns-clause-ok
returns-clause-ok g c = program_run _ _ _ _ c.args.self.now.journal c.reserve.new.self c.run.new.journal _ _ c.reserve.ensures.same c.run.ensures.ok

pub returns-clause-memory : goal.returns-clause-memory
returns-clause-memory g c = act_left _ _ c.args.self.now.journal c.reserve.new.self c.run.new.journal _ _ c.reserve.ensures.same c.run.ensures.left c.run.ensures.same

pub invariant_of-self-2 : goal.invariant_of-self-2
invariant_of-self-2 g c =
    let kept = run_keeps _ _ _ _ c.args.self.now.journal c.reserve.new.self c.run.new.journal _ _ _ (record { keeps = c.args.self.now.keeps; room = c.args.self.now.room }) c.reserve.ensures.same (search rules) c.run.ensures.ok c.run.ensures.same in
    record { keeps = kept.keeps; room = kept.room }
