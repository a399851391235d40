use Rattle.std.proofs.Common.{rules}
use Rattle.pm_journal.specs.Plan.{Ends}
use Rattle.pm_journal.proofs.WantsMemory.{on_err, out_front}
use Rattle.pm_meaning.specs.GlobalLock.{give_named}
use Rattle.pm_meaning.specs.Minds.{mind_of}
use Rattle.pm_meaning.specs.Turns.{GoesOn}
use Rattle.pm_run.proofs.GlobalLemmas.{dropped}
use Rattle.pm_run.proofs.global_lock.drop_lock.Goals as goal

pub returns-in_err-give_lock : goal.returns-in_err-give_lock
returns-in_err-give_lock g c = record {
  carries = (
      let p = mind_of c.args.run.now.process in
      (search rules, on_err _ _ (out_front (give_named p.global p) (λ q. Ends (GoesOn q)) _ _ _ _ c.in_err-give_lock.ensures.carries.1)));
}

pub returns : goal.returns
returns g c = record { carries = (dropped (mind_of c.args.run.now.process) (mind_of c.give_lock.new.run.process) _ _ _ _ c.in_ok-give_lock.ensures.carries.0, tt) }
