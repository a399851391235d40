use Rattle.std.proofs.Common.{rules, refl, sym, ◌∙◌}
use Rattle.pm_journal.proofs.WantsMemory.{on_err, out_anywhere}
use Rattle.pm_meaning.specs.Ends.{trap}
use Rattle.pm_meaning.specs.Minds.{mind_of}
use Rattle.pm_meaning.proofs.Choices.{carried}
use Rattle.pm_run.proofs.EndLemmas.{not_trapped, trap_runs}
use Rattle.pm_run.proofs.ends.trap.Goals as goal

pub returns-then-not-is_trapped-clause-carries : goal.returns-then-not-is_trapped-clause-carries
returns-then-not-is_trapped-clause-carries g c =
    (not_trapped c.args.end (mind_of c.args.run.now.process) _ _ (sym c.is_trapped.ensures ∙ c.if-not-is_trapped.true), tt)

pub returns-in_err-text-clause-carries : goal.returns-in_err-text-clause-carries
returns-in_err-text-clause-carries g c = (search rules, on_err _ _ (out_anywhere _ _ _ _ refl))

pub returns-in_err-set_exit_status-clause-carries : goal.returns-in_err-set_exit_status-clause-carries
returns-in_err-set_exit_status-clause-carries g c = (search rules, on_err _ _ (out_anywhere _ _ _ _ refl))

pub returns-clause-carries : goal.returns-clause-carries
returns-clause-carries g c =
    let p = mind_of c.args.run.now.process in
    let q = mind_of c.set_exit_status.new.process in
    carried _ (trap c.args.end p) _ _ _ _ _ _ (trap_runs c.args.end c.as_slice.result.now p q (sym c.is_trapped.ensures ∙ c.if-not-is_trapped.false) (c.as_slice.ensures ∙ c.in_ok-text.ensures) c.in_ok-set_exit_status.ensures.ok) c.trap_line.ensures.carries

pub returns-in_err-text-clause-set : goal.returns-in_err-text-clause-set
returns-in_err-text-clause-set g c = on_err _ _ (sym c.is_trapped.ensures ∙ c.if-not-is_trapped.false)

pub returns-in_err-set_exit_status-clause-set : goal.returns-in_err-set_exit_status-clause-set
returns-in_err-set_exit_status-clause-set g c = on_err _ _ (sym c.is_trapped.ensures ∙ c.if-not-is_trapped.false)

pub returns-clause-set : goal.returns-clause-set
returns-clause-set g c = on_err _ _ (sym c.is_trapped.ensures ∙ c.if-not-is_trapped.false)
