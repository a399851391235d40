use Rattle.std.proofs.Common.{rules}
use Rattle.pm_journal.proofs.WantsMemory.{on_err, out_anywhere}
use Rattle.pm_meaning.specs.Minds.{mind_of}
use Rattle.pm_perform.proofs.TryLemmas.{tried_free, tried_free_out}
use Rattle.pm_perform.proofs.trying.try_free.Goals as goal

pub returns-in_err-reserve-clause-carries : goal.returns-in_err-reserve-clause-carries
returns-in_err-reserve-clause-carries g c = λ work is. (search rules, on_err _ _ (out_anywhere _ _ _ _ c.reserve.ensures.same))

pub returns-in_err-outcome-clause-carries : goal.returns-in_err-outcome-clause-carries
returns-in_err-outcome-clause-carries g c =
    λ work is. (search rules, on_err _ _ (tried_free_out work (mind_of c.args.run.now.process) c.args.run.now.journal c.reserve.new.self c.carry.new.run.journal _ _ c.reserve.ensures.same (c.in_err-outcome.ensures.carries work is).1))

pub returns-clause-carries : goal.returns-clause-carries
returns-clause-carries g c =
    λ work is. (tried_free work (mind_of c.args.run.now.process) (mind_of c.carry.new.run.process) c.in_ok-outcome.outcome c.args.run.now.journal c.reserve.new.self c.carry.new.run.journal _ _ c.reserve.ensures.same (c.in_ok-outcome.ensures.carries work is).0, tt)
