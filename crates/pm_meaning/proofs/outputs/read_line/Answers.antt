use Rattle.std.proofs.Common.{rules, sym, ◌∙◌}
use Rattle.pm_journal.proofs.WantsMemory.{on_err, out_front}
use Rattle.pm_subst.specs.Commands.{commands_in}
use Rattle.pm_subst.specs.declared.kinds.Mode.TheVariants.{Many}
use Rattle.pm_meaning.specs.Minds.{mind_of}
use Rattle.pm_meaning.specs.Outputs.{outputs_with, outputs_of, read_with, read_line}
use Rattle.pm_meaning.specs.Programs.{expanded_line}
use Rattle.pm_meaning.proofs.Choices.{carried}
use Rattle.pm_meaning.proofs.OutputLemmas.{shell_read, commands_first, after_commands}
use Rattle.pm_meaning.proofs.Sequences.{then_carries, known_as, out_same}
use Rattle.pm_meaning.proofs.outputs.read_line.Goals as goal

pub returns-then-needs_shell : goal.returns-then-needs_shell
returns-then-needs_shell g c = record {
  carries = (
      let p = mind_of c.args.run.now.process in
      let line = c.args.line.now in
      carried _ (read_line line p) _ _ _ _ _ _ (shell_read line p (sym c.needs_shell.ensures ∙ c.if-needs_shell.true))
      (known_as _ (λ r. read_with r p) _ _ _ c.shell_line.ensures));
}

pub returns-in_err-outputs : goal.returns-in_err-outputs
returns-in_err-outputs g c = record {
  carries = (
      let p = mind_of c.args.run.now.process in
      let line = c.args.line.now in
      let same = commands_first line p (sym c.needs_shell.ensures ∙ c.if-needs_shell.false) in
      (search rules, on_err _ _ (out_same _ (read_line line p) _ _ _ _ same (out_front (outputs_of (commands_in Many line) p) (after_commands line) _ _ _ _ c.in_err-outputs.ensures.carries.1))));
}

pub returns : goal.returns
returns g c = record {
  carries = (
      let p = mind_of c.args.run.now.process in
      let q = mind_of c.outputs_of.new.run.process in
      let line = c.args.line.now in
      let same = commands_first line p (sym c.needs_shell.ensures ∙ c.if-needs_shell.false) in
      carried _ (read_line line p) _ _ _ _ _ _ same
      (then_carries (outputs_of (commands_in Many line) p) (after_commands line) (outputs_with c.in_ok-outputs.outputs.items q) _ _ _ _ _ _ _ _ c.in_ok-outputs.ensures.carries.0
      (known_as (expanded_line c.in_ok-outputs.outputs.items line q) (λ r. read_with r q) _ _ _ (rw c.as_slice.ensures.value at c.expanded_line.ensures))));
}
