use Rattle.std.proofs.Common.{refl, rules, ap, ◌∙◌}
use Rattle.pm_journal.proofs.WantsMemory.{on_err, out_anywhere}
use Rattle.pm_meaning.specs.Evaluating.{exited}
use Rattle.pm_meaning.specs.Minds.{mind_of}
use Rattle.pm_conds.proofs.ConditionLemmas.{program_unrun, program_then, program_then_out, program_told, program_untold}
use Rattle.pm_conds.proofs.conditions.ask_program.Goals as goal

pub returns-in_err-input : goal.returns-in_err-input
returns-in_err-input g c = record { carries = (search rules, on_err _ _ (out_anywhere _ _ _ _ refl)) }

pub returns-in_err-end : goal.returns-in_err-end
returns-in_err-end g c = record {
  carries = (
      let p = mind_of c.args.run.now.process in
      (search rules, on_err _ _ (program_unrun c.args.command c.in_ok-input.input c.args.line.now c.args.flags c.args.question.now p _ _ _ _ c.in_ok-input.ensures c.in_err-end.ensures.memory)));
}

pub returns-in_err-tell_run : goal.returns-in_err-tell_run
returns-in_err-tell_run g c = record {
  carries = (
      let p = mind_of c.args.run.now.process in
      let q = mind_of c.note_code.new.process in
      let ran = c.in_ok-end.ensures.ok in
      let noted = rw c.run_program.ensures.same at c.note_code.ensures.mind in (
        search rules,
        on_err _ _ (program_then_out c.args.command c.in_ok-input.input c.args.line.now c.args.flags c.args.question.now p ran.reply _ _ _ _ _ _ c.in_ok-input.ensures ran.executes
            (program_untold c.args.line.now c.args.question.now c.in_ok-end.end p q ran.reply (ran.end_is, noted) _ _ _ _ c.in_err-tell_run.ensures.carries.1)),
      ));
}

pub returns : goal.returns
returns g c = record {
  carries = (
      let p = mind_of c.args.run.now.process in
      let q = mind_of c.note_code.new.process in
      let ran = c.in_ok-end.ensures.ok in
      let noted = rw c.run_program.ensures.same at c.note_code.ensures.mind in
      rw c.tell_run.ensures.same (
        program_then c.args.command c.in_ok-input.input c.args.line.now c.args.flags c.args.question.now p ran.reply c.exited.result q _ _ _ _ _ _ c.in_ok-input.ensures ran.executes
            (program_told c.args.line.now c.args.question.now c.in_ok-end.end p q ran.reply (ran.end_is, noted) c.exited.result _ _ _ _ (c.exited.ensures ∙ ap (exited c.args.question.now) c.code_of.ensures) c.in_ok-tell_run.ensures.carries.0),
        tt,
      ));
}
