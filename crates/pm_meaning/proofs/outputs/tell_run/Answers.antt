use Rattle.std.proofs.Common.{refl, rules, sym, ◌∙◌}
use Rattle.pm_journal.proofs.WantsMemory.{on_err, out_anywhere}
use Rattle.pm_meaning.specs.Minds.{mind_of}
use Rattle.pm_meaning.proofs.Choices.{ok_map, err_map}
use Rattle.pm_meaning.proofs.OutputLemmas.{nothing_told, fault_told, fault_untold}
use Rattle.pm_meaning.proofs.outputs.tell_run.Goals as goal

pub returns-in_err-run_fault-clause-carries : goal.returns-in_err-run_fault-clause-carries
returns-in_err-run_fault-clause-carries g c = (search rules, on_err _ _ (out_anywhere _ _ _ _ refl))

pub returns-in-None-clause-carries : goal.returns-in-None-clause-carries
returns-in-None-clause-carries g c =
    (nothing_told c.args.end c.args.line.now (mind_of c.args.run.now.process) _ _ (sym c.in-None.is ∙ c.in_ok-run_fault.ensures), tt)

pub returns-in-Some-clause-carries : goal.returns-in-Some-clause-carries
returns-in-Some-clause-carries g c =
    let p = mind_of c.args.run.now.process in
    let is = sym c.in-Some.is ∙ c.in_ok-run_fault.ensures in (
      ok_map c.tell.result _ _ (λ u h. fault_told c.args.end c.args.line.now c.in-Some.text p _ _ _ _ is h) c.tell.ensures.carries.0,
      err_map c.tell.result _ _ (λ h. fault_untold c.args.end c.args.line.now c.in-Some.text p _ _ _ _ is h) c.tell.ensures.carries.1,
    )
