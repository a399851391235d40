use Rattle.std.proofs.Common.{rules, refl, ap, ◌∙◌}
use Rattle.pm_journal.proofs.WantsMemory.{on_err, out_anywhere}
use Rattle.pm_meaning.specs.Minds.{mind_of}
use Rattle.pm_meaning.specs.Outputs.{outputs_of}
use Rattle.pm_meaning.proofs.Choices.{carried}
use Rattle.pm_meaning.proofs.outputs.outputs_of.Goals as goal

pub returns-in_err-commands-clause-carries : goal.returns-in_err-commands-clause-carries
returns-in_err-commands-clause-carries g c = (search rules, on_err _ _ (out_anywhere _ _ _ _ refl))

pub returns-clause-carries : goal.returns-clause-carries
returns-clause-carries g c =
    let p = mind_of c.args.run.now.process in
    let same = c.as_slice.ensures.value ∙ c.in_ok-commands.ensures in
    carried _ _ _ _ _ _ _ _ (ap (λ l. outputs_of l p) same) c.run_each.ensures.carries
