use Rattle.std.proofs.Common.{[], rules, refl, arith}
use Rattle.pm_journal.specs.Held.{Keeping}
use Rattle.pm_top.proofs.Tracing.{refused, unbegun_run}
use Rattle.pm_top.proofs.Promised.{promised_kept, promised_lent, promised_refused}
use Rattle.pm_top.proofs.top.deliver_observed.Goals as goal

pub returns-in-Ok : goal.returns-in-Ok
returns-in-Ok g c =
    let arrives = c.in-Ok.ensures.ok in
    let kept : Keeping c.run_mail-status.new.idle.journal [] = record { keeps = c.run_mail-status.new.idle.keeps; room = omega (arith) } in
    let traced = c.run_mail-status.ensures.run c.args.words.now (g.S.Source.told c.args.source.now) (g.S.Source.told c.read_arrival.new.source) arrives.0 arrives.2 in
    record { promise = promised_lent _ _ _ (search rules) (search rules) (promised_kept _ c.run_mail-status.new.idle.journal refl (rw arrives.1 at traced) kept (rw c.lend-objects.ensures.host.1 c.requires.no_child)) }

pub returns-in-Err : goal.returns-in-Err
returns-in-Err g c =
    record { promise = promised_refused _ c.requires.empty (unbegun_run _ c.in-Err.status c.in-Err.ensures.err (refused _ c.in-Err.status c.refuse.ensures.same c.requires.empty refl refl c.refuse.ensures.said)) c.requires.no_child }
