use Rattle.std.proofs.Common.{rules, ap}
use Rattle.pm_journal.proofs.WantsMemory.{on_err, out_front}
use Rattle.pm_subst.specs.Commands.{commands_in}
use Rattle.pm_subst.specs.declared.kinds.Mode.TheVariants.{One}
use Rattle.pm_meaning.specs.Assigning.{assign_with}
use Rattle.pm_meaning.specs.Minds.{mind_of}
use Rattle.pm_meaning.specs.Outputs.{outputs_with, outputs_of}
use Rattle.pm_meaning.proofs.Choices.{carried}
use Rattle.pm_meaning.proofs.Sequences.{then_carries}
use Rattle.pm_run.proofs.AssignLemmas.{given}
use Rattle.pm_run.proofs.assigning.assign_text.Goals as goal

pub returns-in_err-outputs : goal.returns-in_err-outputs
returns-in_err-outputs g c = record {
  carries = (
      let p = mind_of c.args.run.now.process in
      let name = c.args.name.now in
      let text = c.args.text.now in
      (search rules, on_err _ _ (out_front (outputs_of (commands_in One text) p) (given name text) _ _ _ _ c.in_err-outputs.ensures.carries.1)));
}

pub returns : goal.returns
returns g c = record {
  carries = (
      let p = mind_of c.args.run.now.process in
      let name = c.args.name.now in
      let text = c.args.text.now in
      let ran = outputs_with c.in_ok-outputs.outputs.items (mind_of c.outputs_of.new.run.process) in
      then_carries (outputs_of (commands_in One text) p) (given name text) ran _ _ _ _ _ _ _ _ c.in_ok-outputs.ensures.carries.0 (carried _ (given name text ran) _ _ _ _ _ _ (ap (λ l. assign_with name text l ran.mind) c.as_slice.ensures.value) c.assign_expanded.ensures.carries));
}
