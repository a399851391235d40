use Rattle.std.proofs.Common.{[], ap, sym, subst}
use Rattle.pm_journal.specs.Held.{Keeps}
use Rattle.pm_journal.proofs.WantsMemory.{out_anywhere}
use Rattle.pm_meaning.specs.Minds.{mind_of}
use Rattle.pm_perform.specs.Errands.{trying_of}
use Rattle.pm_perform.proofs.TryLemmas.{request_then}
use Rattle.pm_perform.proofs.trying.try_under.Goals as goal

pub returns-in-Err-clause-carries : goal.returns-in-Err-clause-carries
returns-in-Err-clause-carries g c = λ work is. (tt, out_anywhere _ _ _ _ c.lock_request.ensures.entries)

pub returns-in-Ok-clause-carries : goal.returns-in-Ok-clause-carries
returns-in-Ok-clause-carries g c =
    let p = mind_of c.args.run.now.process in
    λ work is. request_then work c.args.lock c.in-Some.name c.in-Ok.request.name p (record p { locks = c.lock_request.new.locks.names }) (λ trial. trying_of trial (mind_of c.try_locked.new.run.process)) c.try_locked.result
    c.args.run.now.journal c.lock_request.new.journal c.try_locked.new.run.journal _ _ c.in-Some.is c.in-Ok.ensures.name (ap (λ l. record p { locks = l }) c.lock_request.ensures.names) c.lock_request.ensures.entries (c.try_locked.ensures.carries work is)

pub invariant_of-run : goal.invariant_of-run
invariant_of-run g c = record {
  keeps = subst (λ n. Keeps [] c.lock_request.new.journal.entries n) (sym c.lock_request.ensures.names)
      (subst (λ es. Keeps [] es c.args.run.now.process.locks.names) (sym c.lock_request.ensures.entries) c.args.run.now.keeps);
  room = c.lock_request.ensures.fits;
}
