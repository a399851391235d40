use Rattle.std.proofs.Common.{rules}
use Rattle.pm_journal.specs.Outcomes.{last_output}
use Rattle.pm_journal.proofs.WantsMemory.{on_err}
use Rattle.pm_meaning.specs.Minds.{mind_of}
use Rattle.pm_perform.proofs.FilterLemmas.{capture_unrun, was_captured}
use Rattle.pm_perform.proofs.filtering.capture.Goals as goal

pub returns-in_err-end-clause-carries : goal.returns-in_err-end-clause-carries
returns-in_err-end-clause-carries g c =
    (search rules, on_err _ _ (capture_unrun c.args.flags c.args.command c.args.input (mind_of c.args.run.now.process) _ _ _ _ c.args.name c.in_err-end.ensures.memory))

pub returns-clause-carries : goal.returns-clause-carries
returns-clause-carries g c =
    let p = mind_of c.args.run.now.process in
    let q = mind_of c.note_code.new.process in
    let ran = c.in_ok-end.ensures.ok in
    was_captured c.args.flags c.args.command c.args.input p _ _ _ _ c.args.name ran.reply c.in_ok-end.end (last_output c.run_program.new.self.journal.entries) c.as_slice.result.now c.last_output.result.now q (mind_of c.take_value.new.process) c.take_value.result
    (record { end_is = ran.end_is; output_is = ran.output; mind_is = rw c.run_program.ensures.same at c.note_code.ensures.mind }) c.as_slice.ensures c.last_output.ensures ran.executes c.take_value.ensures.outcome c.take_value.ensures.mind
