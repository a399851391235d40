use Rattle.std.proofs.Common.{refl, rules}
use Rattle.pm_journal.specs.LogText.{unusable_name_line}
use Rattle.pm_journal.proofs.WantsMemory.{on_err, out_anywhere}
use Rattle.pm_meaning.specs.Minds.{mind_of}
use Rattle.pm_meaning.specs.Turns.{GoesOn}
use Rattle.pm_meaning.proofs.Choices.{line_told, line_out}
use Rattle.pm_perform.proofs.delivering.refuse.Goals as goal

pub returns-in_err-line-clause-carries : goal.returns-in_err-line-clause-carries
returns-in_err-line-clause-carries g c = (search rules, on_err _ _ (out_anywhere _ _ _ _ refl))

pub returns-in_err-tell-clause-carries : goal.returns-in_err-tell-clause-carries
returns-in_err-tell-clause-carries g c =
    let p = mind_of c.args.run.now.process in
    (search rules, on_err _ _ (line_out p (unusable_name_line c.args.text.now) _ (GoesOn p) _ _ _ _ c.in_ok-line.ensures c.in_err-tell.ensures.carries.1))

pub returns-clause-carries : goal.returns-clause-carries
returns-clause-carries g c =
    let p = mind_of c.args.run.now.process in
    rw c.tell.ensures.same (line_told p (unusable_name_line c.args.text.now) _ (GoesOn p) _ _ _ _ c.in_ok-line.ensures c.in_ok-tell.ensures.carries.0, tt)
