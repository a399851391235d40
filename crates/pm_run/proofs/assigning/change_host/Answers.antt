use Rattle.std.proofs.Common.{rules, refl, sym, ◌∙◌}
use Rattle.pm_journal.proofs.WantsMemory.{on_err, out_anywhere}
use Rattle.pm_meaning.specs.Minds.{mind_of}
use Rattle.pm_run.proofs.AssignLemmas.{host_same, host_told, host_out}
use Rattle.pm_run.proofs.assigning.change_host.Goals as goal

pub returns-then-is_own_name-clause-carries : goal.returns-then-is_own_name-clause-carries
returns-then-is_own_name-clause-carries g c =
    (host_same c.args.value.now (mind_of c.args.run.now.process) _ _ (sym c.is_own_name.ensures ∙ c.if-is_own_name.true), tt)

pub returns-in_err-line-clause-carries : goal.returns-in_err-line-clause-carries
returns-in_err-line-clause-carries g c = (search rules, on_err _ _ (out_anywhere _ _ _ _ refl))

pub returns-in_err-tell-clause-carries : goal.returns-in_err-tell-clause-carries
returns-in_err-tell-clause-carries g c =
    (search rules, on_err _ _ (host_out c.args.value.now _ (mind_of c.args.run.now.process) _ _ _ _ (sym c.is_own_name.ensures ∙ c.if-is_own_name.false) c.in_ok-line.ensures c.in_err-tell.ensures.carries.1))

pub returns-clause-carries : goal.returns-clause-carries
returns-clause-carries g c =
    rw c.tell.ensures.same (host_told c.args.value.now _ (mind_of c.args.run.now.process) _ _ _ _ (sym c.is_own_name.ensures ∙ c.if-is_own_name.false) c.in_ok-line.ensures c.in_ok-tell.ensures.carries.0, tt)
