use Rattle.std.proofs.Common.{refl, rules}
use Rattle.pm_journal.proofs.WantsMemory.{on_err, out_anywhere}
use Rattle.pm_meaning.specs.Minds.{mind_of}
use Rattle.pm_run.proofs.JudgeLemmas.{acted_executes, acted_out}
use Rattle.pm_run.proofs.MayLemmas.{none_delivered}
use Rattle.pm_run.proofs.judging.act.Goals as goal

pub returns-in_err-renew-clause-carries : goal.returns-in_err-renew-clause-carries
returns-in_err-renew-clause-carries g c = (search rules, on_err _ _ (out_anywhere _ _ _ _ refl))

pub returns-in_err-renew-clause-sure : goal.returns-in_err-renew-clause-sure
returns-in_err-renew-clause-sure g c = on_err _ _ (none_delivered c.args.recipe.now.flags _)

pub returns-in_err-acted-clause-carries : goal.returns-in_err-acted-clause-carries
returns-in_err-acted-clause-carries g c = (search rules, on_err _ _ (acted_out _ _ _ _ _ c.in_err-acted.ensures.carries.1))

pub returns-clause-carries : goal.returns-clause-carries
returns-clause-carries g c =
    let q = mind_of c.perform.new.run.process in
    (acted_executes _ c.in_ok-acted.acted _ q _ _ _ _ (c.end_after.ensures q) c.in_ok-acted.ensures.carries.0, tt)
