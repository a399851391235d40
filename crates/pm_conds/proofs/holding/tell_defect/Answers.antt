use Rattle.std.proofs.Common.{false, rules, refl, ap, ◌∙◌}
use Rattle.pm_journal.specs.LogText.{defective_condition_line}
use Rattle.pm_journal.proofs.WantsMemory.{on_err, out_anywhere}
use Rattle.pm_meaning.specs.Minds.{mind_of}
use Rattle.pm_meaning.proofs.Choices.{line_told, line_out}
use Rattle.pm_meaning.specs.Judging.{held_with}
use Rattle.pm_conds.proofs.holding.tell_defect.Goals as goal

pub returns-in_err-line-clause-carries : goal.returns-in_err-line-clause-carries
returns-in_err-line-clause-carries g c = (search rules, on_err _ _ (out_anywhere _ _ _ _ refl))

pub returns-in_err-tell-clause-carries : goal.returns-in_err-tell-clause-carries
returns-in_err-tell-clause-carries g c =
    let p = mind_of c.args.run.now.process in
    (search rules, on_err _ _ (line_out p (defective_condition_line c.args.text) _ (held_with false p) _ _ _ _ (c.in_ok-line.ensures ∙ ap defective_condition_line c.as_slice.ensures) c.in_err-tell.ensures.carries.1))

pub returns-clause-carries : goal.returns-clause-carries
returns-clause-carries g c =
    let p = mind_of c.args.run.now.process in
    (line_told p (defective_condition_line c.args.text) _ (held_with false p) _ _ _ _ (c.in_ok-line.ensures ∙ ap defective_condition_line c.as_slice.ensures) c.in_ok-tell.ensures.carries.0, tt)
