use Rattle.std.proofs.Common.{refl, rules, sym, ap, ◌∙◌}
use Rattle.pm_journal.proofs.WantsMemory.{on_err, out_anywhere}
use Rattle.pm_meaning.specs.Minds.{mind_of}
use Rattle.pm_meaning.specs.Outputs.{run_line, output_of}
use Rattle.pm_meaning.proofs.Choices.{carried}
use Rattle.pm_meaning.proofs.outputs.run_text.Goals as goal

pub returns-in_err-command : goal.returns-in_err-command
returns-in_err-command g c = record { carries = (search rules, on_err _ _ (out_anywhere _ _ _ _ refl)) }

pub returns-in-Runs : goal.returns-in-Runs
returns-in-Runs g c = record {
  carries = (
      let p = mind_of c.args.run.now.process in
      let text = c.args.text.now in
      carried _ (output_of text p) _ _ _ _ _ _ (ap (λ l. run_line l text p) (sym c.in-Runs.is ∙ c.in_ok-command.ensures)) c.run_command.ensures.carries);
}
