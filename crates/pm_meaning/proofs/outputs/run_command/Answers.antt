use Rattle.std.proofs.Common.{refl, rules}
use Rattle.pm_journal.specs.Outcomes.{last_output}
use Rattle.pm_journal.proofs.WantsMemory.{on_err, out_anywhere}
use Rattle.pm_meaning.specs.Minds.{mind_of}
use Rattle.pm_meaning.proofs.OutputLemmas.{command_unrun, command_then, command_then_out, told_after, untold_after}
use Rattle.pm_meaning.proofs.outputs.run_command.Goals as goal

pub returns-in_err-input : goal.returns-in_err-input
returns-in_err-input g c = record { carries = (search rules, on_err _ _ (out_anywhere _ _ _ _ refl)) }

pub returns-in_err-end : goal.returns-in_err-end
returns-in_err-end g c = record {
  carries = (
      let p = mind_of c.args.run.now.process in
      (search rules, on_err _ _ (command_unrun c.args.command c.in_ok-input.input c.args.text.now p _ _ _ _ c.in_ok-input.ensures c.in_err-end.ensures.memory)));
}

pub returns-in_err-output : goal.returns-in_err-output
returns-in_err-output g c = record {
  carries = (
      let p = mind_of c.args.run.now.process in
      let ran = c.in_ok-end.ensures.ok in
      (search rules, on_err _ _ (command_then_out c.args.command c.in_ok-input.input c.args.text.now p ran.reply _ _ _ _ _ _ c.in_ok-input.ensures ran.executes (out_anywhere _ _ _ _ refl))));
}

pub returns-in_err-tell_run : goal.returns-in_err-tell_run
returns-in_err-tell_run g c = record {
  carries = (
      let p = mind_of c.args.run.now.process in
      let q = mind_of c.note_code.new.process in
      let ran = c.in_ok-end.ensures.ok in
      let came = last_output c.run_program.new.self.journal.entries in
      let noted = rw c.run_program.ensures.same at c.note_code.ensures.mind in (
        search rules,
        on_err _ _ (command_then_out c.args.command c.in_ok-input.input c.args.text.now p ran.reply _ _ _ _ _ _ c.in_ok-input.ensures ran.executes
            (untold_after c.args.command c.in_ok-input.input c.args.text.now c.in_ok-end.end came p q ran.reply (ran.end_is, ran.output, noted) _ _ _ _ c.in_err-tell_run.ensures.carries.1)),
      ));
}

pub returns : goal.returns
returns g c = record {
  carries = (
      let p = mind_of c.args.run.now.process in
      let q = mind_of c.note_code.new.process in
      let ran = c.in_ok-end.ensures.ok in
      let came = last_output c.run_program.new.self.journal.entries in
      let noted = rw c.run_program.ensures.same at c.note_code.ensures.mind in
      rw c.tell_run.ensures.same (
        command_then c.args.command c.in_ok-input.input c.args.text.now p ran.reply c.in_ok-output.output q _ _ _ _ _ _ c.in_ok-input.ensures ran.executes
            (told_after c.args.command c.in_ok-input.input c.args.text.now c.in_ok-end.end came p q ran.reply (ran.end_is, ran.output, noted) c.in_ok-output.output _ _ _ _ c.in_ok-output.ensures c.in_ok-tell_run.ensures.carries.0),
        tt,
      ));
}
