use Rattle.std.proofs.Common.{sym, ◌∙◌}
use Rattle.pm_meaning.specs.Assigning.{change_rcfile}
use Rattle.pm_meaning.specs.Minds.{mind_of}
use Rattle.pm_meaning.specs.Turns.{GoesOn}
use Rattle.pm_meaning.proofs.Choices.{carried}
use Rattle.pm_run.proofs.AssignLemmas.{ended, including, switching, hosting, set_plainly}
use Rattle.pm_run.proofs.assigning.change_rcfile.Goals as goal

pub returns-then-is_includerc-clause-carries : goal.returns-then-is_includerc-clause-carries
returns-then-is_includerc-clause-carries g c =
    let p = mind_of c.args.run.now.process in
    carried _ (change_rcfile c.args.name.now c.args.value.now p) _ _ _ _ _ _ (including c.args.name.now c.args.value.now p (sym c.is_includerc.ensures ∙ c.if-is_includerc.true)) c.include_rcfile.ensures.carries

pub returns-then-is_switchrc-clause-carries : goal.returns-then-is_switchrc-clause-carries
returns-then-is_switchrc-clause-carries g c =
    let p = mind_of c.args.run.now.process in
    carried _ (change_rcfile c.args.name.now c.args.value.now p) _ _ _ _ _ _
    (switching c.args.name.now c.args.value.now p (sym c.is_includerc.ensures ∙ c.if-is_includerc.false) (sym c.is_switchrc.ensures ∙ c.if-is_switchrc.true)) c.switch_rcfile.ensures.carries

pub returns-then-is_host-clause-carries : goal.returns-then-is_host-clause-carries
returns-then-is_host-clause-carries g c =
    let p = mind_of c.args.run.now.process in
    carried _ (change_rcfile c.args.name.now c.args.value.now p) _ _ _ _ _ _
    (hosting c.args.name.now c.args.value.now p (sym c.is_includerc.ensures ∙ c.if-is_includerc.false) (sym c.is_switchrc.ensures ∙ c.if-is_switchrc.false) (sym c.is_host.ensures ∙ c.if-is_host.true)) c.change_host.ensures.carries

pub returns-clause-carries : goal.returns-clause-carries
returns-clause-carries g c =
    let p = mind_of c.args.run.now.process in
    (ended (GoesOn p) _ _ _ (set_plainly c.args.name.now c.args.value.now p (sym c.is_includerc.ensures ∙ c.if-is_includerc.false) (sym c.is_switchrc.ensures ∙ c.if-is_switchrc.false) (sym c.is_host.ensures ∙ c.if-is_host.false)), tt)
