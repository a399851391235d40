use Rattle.std.proofs.Common.{refl, rules}
use Rattle.pm_journal.proofs.WantsMemory.{on_err, out_anywhere}
use Rattle.pm_run.proofs.global_lock.take_lock.Goals as goal

pub returns-in_err-lock : goal.returns-in_err-lock
returns-in_err-lock g c = record { carries = (search rules, on_err _ _ (out_anywhere _ _ _ _ refl)) }
