use Rattle.std.proofs.Common.{rules, refl}
use Rattle.pm_journal.proofs.WantsMemory.{on_err, out_anywhere}
use Rattle.pm_meaning.specs.Minds.{mind_of}
use Rattle.pm_run.proofs.EndLemmas.{trap_unrun, trap_then, trap_then_out, told_after, untold_after}
use Rattle.pm_run.proofs.ends.run_trap.Goals as goal

pub returns-in_err-input : goal.returns-in_err-input
returns-in_err-input g c = record { carries = (search rules, on_err _ _ (out_anywhere _ _ _ _ refl)) }

pub returns-in_err-end : goal.returns-in_err-end
returns-in_err-end g c = record {
  carries = (
      let p = mind_of c.args.run.now.process in
      (search rules, on_err _ _ (trap_unrun c.args.command c.in_ok-input.input c.args.text.now p _ _ _ _ c.in_ok-input.ensures c.in_err-end.ensures.memory)));
}

pub returns-in_err-tell_run : goal.returns-in_err-tell_run
returns-in_err-tell_run g c = record {
  carries = (
      let p = mind_of c.args.run.now.process in
      let q = mind_of c.note_code.new.process in
      let ran = c.in_ok-end.ensures.ok in
      let noted = rw c.run_program.ensures.same at c.note_code.ensures.mind in (
        search rules,
        on_err _ _ (trap_then_out c.args.command c.in_ok-input.input c.args.text.now p ran.reply _ _ _ _ _ _ c.in_ok-input.ensures ran.executes
            (untold_after c.args.text.now c.in_ok-end.end p q ran.reply (ran.end_is, noted) _ _ _ _ c.in_err-tell_run.ensures.carries.1)),
      ));
}

pub returns : goal.returns
returns g c = record {
  carries = (
      let p = mind_of c.args.run.now.process in
      let q = mind_of c.note_code.new.process in
      let ran = c.in_ok-end.ensures.ok in
      let noted = rw c.run_program.ensures.same at c.note_code.ensures.mind in rw c.tell_run.ensures.same (
        trap_then c.args.command c.in_ok-input.input c.args.text.now p ran.reply c.code_of.result q _ _ _ _ _ _ c.in_ok-input.ensures ran.executes
            (told_after c.args.text.now c.in_ok-end.end p q ran.reply (ran.end_is, noted) c.code_of.result _ _ _ _ c.code_of.ensures c.in_ok-tell_run.ensures.carries.0),
        tt,
      ));
}
