use Rattle.std.proofs.Common.{[], refl, rules}
use Rattle.pm_journal.specs.Outcomes.{last_output}
use Rattle.pm_journal.proofs.WantsMemory.{on_err}
use Rattle.pm_meaning.specs.Locks.{text_or}
use Rattle.pm_meaning.specs.Minds.{mind_of}
use Rattle.pm_perform.proofs.FilterLemmas.{filter_unrun, was_filtered}
use Rattle.pm_perform.proofs.filtering.filter.Goals as goal

pub returns-in_err-end-clause-carries : goal.returns-in_err-end-clause-carries
returns-in_err-end-clause-carries g c =
    (search rules, on_err _ _ (filter_unrun c.args.flags c.args.command c.args.input (mind_of c.args.run.now.process) _ _ _ _ c.in_err-end.ensures.memory))

pub returns-clause-carries : goal.returns-clause-carries
returns-clause-carries g c =
    let p = mind_of c.args.run.now.process in
    let q = mind_of c.note_code.new.process in
    let ran = c.in_ok-end.ensures.ok in
    was_filtered c.args.flags c.args.command c.args.input p _ _ _ _ ran.reply _ c.in_ok-end.end _ (last_output c.run_program.new.self.journal.entries) (text_or [] (last_output c.run_program.new.self.journal.entries)) q (mind_of c.take_mail.new.process) c.take_mail.result
    (record { end_is = ran.end_is; output_is = ran.output; mind_is = rw c.run_program.ensures.same at c.note_code.ensures.mind }) c.len-count.ensures c.feed_outcome-fed.ensures refl ran.executes c.take_mail.ensures.outcome c.take_mail.ensures.mind
