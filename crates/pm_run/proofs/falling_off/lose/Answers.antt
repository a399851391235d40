use Rattle.std.proofs.Common.{[], refl, rules}
use Rattle.pm_journal.specs.LogText.{no_delivery_line}
use Rattle.pm_journal.specs.Walking.{Next, Go}
use Rattle.pm_journal.proofs.WantsMemory.{on_err, out_anywhere}
use Rattle.pm_meaning.specs.Minds.{mind_of}
use Rattle.pm_meaning.specs.Running.{State, Event, FallingOff, Over, step}
use Rattle.pm_meaning.specs.declared.process.End.TheVariants.{FellOff}
use Rattle.pm_meaning.proofs.Choices.{line_told, line_out}
use Rattle.pm_run.proofs.falling_off.lose.Goals as goal

pub returns-in_err-line-clause-carries : goal.returns-in_err-line-clause-carries
returns-in_err-line-clause-carries g c = (search rules, on_err _ _ (out_anywhere (step (FallingOff [] (mind_of c.args.run.now.process))) _ _ _ refl))

pub returns-in_err-tell-clause-carries : goal.returns-in_err-tell-clause-carries
returns-in_err-tell-clause-carries g c =
    let p = mind_of c.args.run.now.process in
    let next : Next State Event = Go (Over FellOff p) in
    (search rules, on_err _ _ (line_out p no_delivery_line _ next _ _ _ _ c.in_ok-line.ensures c.in_err-tell.ensures.carries.1))

pub returns-clause-carries : goal.returns-clause-carries
returns-clause-carries g c =
    let p = mind_of c.args.run.now.process in
    let next : Next State Event = Go (Over FellOff p) in
    rw c.tell.ensures.same (line_told p no_delivery_line _ next _ _ _ _ c.in_ok-line.ensures c.in_ok-tell.ensures.carries.0, tt)
