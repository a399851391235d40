use Rattle.std.proofs.Common.{List, ℕ, rules, refl, sym, ◌∙◌}
use Rattle.pm_journal.specs.Plan.{Plan, Ends}
use Rattle.pm_journal.proofs.WantsMemory.{on_err, out_anywhere}
use Rattle.pm_meaning.specs.Assigning.{switch_rcfile}
use Rattle.pm_meaning.specs.Minds.{mind_of}
use Rattle.pm_meaning.specs.Turns.{Turn, Switches, EndsFile}
use Rattle.pm_meaning.proofs.Choices.{carried}
use Rattle.pm_run.proofs.AssignLemmas.{ended, named_nothing, named_so, named_badly}
use Rattle.pm_run.proofs.assigning.switch_rcfile.Goals as goal

pub returns-then-is_empty-clause-carries : goal.returns-then-is_empty-clause-carries
returns-then-is_empty-clause-carries g c =
    let p = mind_of c.args.run.now.process in
    let asks : List ℕ → Plan Turn = λ full. Ends (Switches full p) in
    (ended (EndsFile p) _ _ _ (named_nothing (Ends (EndsFile p)) asks c.args.value.now p (search rules)), tt)

pub returns-in_err-name-clause-carries : goal.returns-in_err-name-clause-carries
returns-in_err-name-clause-carries g c = (search rules, on_err _ _ (out_anywhere _ _ _ _ refl))

pub returns-in_err-full-in-Some-clause-carries : goal.returns-in_err-full-in-Some-clause-carries
returns-in_err-full-in-Some-clause-carries g c = (search rules, on_err _ _ (out_anywhere _ _ _ _ refl))

pub returns-in_ok-full-in-Some-clause-carries : goal.returns-in_ok-full-in-Some-clause-carries
returns-in_ok-full-in-Some-clause-carries g c =
    let p = mind_of c.args.run.now.process in
    let asks : List ℕ → Plan Turn = λ full. Ends (Switches full p) in
    (ended (Switches c.in_ok-full-in-Some.field-0 p) _ _ _ (named_so (Ends (EndsFile p)) asks c.args.value.now c.in-Some.name c.in_ok-full-in-Some.field-0 p (search rules) (sym c.in-Some.is ∙ c.in_ok-name.ensures) c.in_ok-full-in-Some.ensures), tt)

pub returns-in-None-clause-carries : goal.returns-in-None-clause-carries
returns-in-None-clause-carries g c =
    let p = mind_of c.args.run.now.process in
    let asks : List ℕ → Plan Turn = λ full. Ends (Switches full p) in
    c.turned_by.ensures _ _ _ _ _ _ (carried _ (switch_rcfile c.args.value.now p) _ _ _ _ _ _ (named_badly (Ends (EndsFile p)) asks c.args.value.now p (search rules) (sym c.in-None.is ∙ c.in_ok-name.ensures)) c.refuse.ensures.carries)
