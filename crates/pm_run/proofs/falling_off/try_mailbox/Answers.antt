use Rattle.std.proofs.Common.{refl, rules}
use Rattle.pm_journal.proofs.WantsMemory.{on_err, out_anywhere}
use Rattle.pm_meaning.specs.Delivering.{no_flags}
use Rattle.pm_run.proofs.MayLemmas.{none_delivered}
use Rattle.pm_run.proofs.falling_off.try_mailbox.Goals as goal

pub returns-in_err-renew-clause-carries : goal.returns-in_err-renew-clause-carries
returns-in_err-renew-clause-carries g c = (search rules, on_err _ _ (out_anywhere _ _ _ _ refl))

pub returns-in_err-renew-clause-sure : goal.returns-in_err-renew-clause-sure
returns-in_err-renew-clause-sure g c = on_err _ _ (none_delivered no_flags _)
