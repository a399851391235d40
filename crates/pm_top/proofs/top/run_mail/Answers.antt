use Rattle.std.proofs.Common.{refl}
use Rattle.pm_journal.specs.Entries.{view_of}
use Rattle.pm_meaning.proofs.Beside.{first_same, second_same, third_same}
use Rattle.pm_top.proofs.Lent.{completes_plain, gave_up_plain, lent_back, given_back}
use Rattle.pm_top.proofs.Tracing.{meant_run, left_run}
use Rattle.pm_top.proofs.top.run_mail.Goals as goal

pub returns-in-Ok-clause-run : goal.returns-in-Ok-clause-run
returns-in-Ok-clause-run g c = λ words source rest read drained.
    meant_run _ c.args.arrival.line c.args.arrival.bytes c.in-Ok.ending c.args.idle.now.journal c.run_processes.new.idle.journal
    (view_of (g.H.Host.told c.run_processes.new.outside.host.now) (g.O.Sink.told c.run_processes.new.outside.out.now) (g.E.Sink.told c.run_processes.new.outside.err.now))
    c.requires.empty refl (completes_plain _ _ _ _ _ _ c.in-Ok.ensures.ok) read drained c.finish.ensures.status refl refl c.finish.ensures.last

pub returns-in-Ok-clause-host : goal.returns-in-Ok-clause-host
returns-in-Ok-clause-host g c = first_same _ _ _ _ _ _ (lent_back _ _ _ _ _ _ c.in-Ok.ensures.ok)

pub returns-in-Ok-clause-out : goal.returns-in-Ok-clause-out
returns-in-Ok-clause-out g c = second_same _ _ _ _ _ _ (lent_back _ _ _ _ _ _ c.in-Ok.ensures.ok)

pub returns-in-Ok-clause-err : goal.returns-in-Ok-clause-err
returns-in-Ok-clause-err g c = third_same _ _ _ _ _ _ (lent_back _ _ _ _ _ _ c.in-Ok.ensures.ok)

pub returns-in-Err-clause-run : goal.returns-in-Err-clause-run
returns-in-Err-clause-run g c = λ words source rest read drained.
    left_run _ c.args.arrival.line c.args.arrival.bytes c.args.idle.now.journal c.run_processes.new.idle.journal
    (view_of (g.H.Host.told c.run_processes.new.outside.host.now) (g.O.Sink.told c.run_processes.new.outside.out.now) (g.E.Sink.told c.run_processes.new.outside.err.now))
    c.requires.empty refl (gave_up_plain _ _ _ _ _ c.in-Err.ensures.memory) read drained c.refuse.ensures.same refl refl c.refuse.ensures.said

pub returns-in-Err-clause-host : goal.returns-in-Err-clause-host
returns-in-Err-clause-host g c = first_same _ _ _ _ _ _ (given_back _ _ _ _ _ c.in-Err.ensures.memory)

pub returns-in-Err-clause-out : goal.returns-in-Err-clause-out
returns-in-Err-clause-out g c = second_same _ _ _ _ _ _ (given_back _ _ _ _ _ c.in-Err.ensures.memory)

pub returns-in-Err-clause-err : goal.returns-in-Err-clause-err
returns-in-Err-clause-err g c = third_same _ _ _ _ _ _ (given_back _ _ _ _ _ c.in-Err.ensures.memory)
