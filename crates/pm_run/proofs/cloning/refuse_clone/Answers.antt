use Rattle.std.proofs.Common.{rules, refl}
use Rattle.pm_journal.specs.LogText.{too_many_clones_line}
use Rattle.pm_journal.specs.Walking.{Next, Go}
use Rattle.pm_journal.proofs.WantsMemory.{on_err, out_anywhere}
use Rattle.pm_meaning.specs.Minds.{mind_of}
use Rattle.pm_meaning.specs.Running.{State, Event, Running, Refusing, step}
use Rattle.pm_meaning.proofs.Choices.{ok_map, err_map, line_told, line_out}
use Rattle.pm_run.proofs.cloning.refuse_clone.Goals as goal

pub returns-in_err-line-clause-carries : goal.returns-in_err-line-clause-carries
returns-in_err-line-clause-carries g c = λ items. (search rules, on_err _ _ (out_anywhere (step (Refusing items (mind_of c.args.run.now.process))) _ _ _ refl))

pub returns-clause-carries : goal.returns-clause-carries
returns-clause-carries g c = λ items.
    let p = mind_of c.args.run.now.process in
    let next : Next State Event = Go (Running items p) in rw c.tell.ensures.same (
      ok_map c.tell.result _ _ (λ _ h. line_told p too_many_clones_line c.in_ok-line.line next _ _ _ _ c.in_ok-line.ensures h) c.tell.ensures.carries.0,
      err_map c.tell.result _ _ (λ h. line_out p too_many_clones_line c.in_ok-line.line next _ _ _ _ c.in_ok-line.ensures h) c.tell.ensures.carries.1,
    )
