use Rattle.pm_meaning.specs.Minds.{mind_of}
use Rattle.std.proofs.Common.{rules, refl, sym, ◌∙◌}
use Rattle.pm_journal.proofs.WantsMemory.{on_err, out_anywhere}
use Rattle.pm_meaning.proofs.Choices.{ok_map, err_map}
use Rattle.pm_run.proofs.AssignLemmas.{changed, changed_out, unusable_told, unusable_out}
use Rattle.pm_run.proofs.assigning.move_to_folder.Goals as goal

pub returns-in_err-name : goal.returns-in_err-name
returns-in_err-name g c = record { carries = (search rules, on_err _ _ (out_anywhere _ _ _ _ refl)) }

pub returns-in_err-name-in-Some : goal.returns-in_err-name-in-Some
returns-in_err-name-in-Some g c = record { carries = (search rules, on_err _ _ (out_anywhere _ _ _ _ refl)) }

pub returns-in_err-line-in-None : goal.returns-in_err-line-in-None
returns-in_err-line-in-None g c = record { carries = (search rules, on_err _ _ (out_anywhere _ _ _ _ refl)) }

pub returns-in_err-tell-in-None : goal.returns-in_err-tell-in-None
returns-in_err-tell-in-None g c = record { carries = (search rules, on_err _ _ (unusable_out c.args.value.now _ (mind_of c.args.run.now.process) _ _ _ _ (sym c.in-None.is ∙ c.in_ok-name.ensures) c.in_ok-line-in-None.ensures c.in_err-tell-in-None.ensures.carries.1)) }

pub returns-in_ok-name-in-Some : goal.returns-in_ok-name-in-Some
returns-in_ok-name-in-Some g c = record { carries = (ok_map _ _ _ (λ end h. changed c.args.value.now _ _ (mind_of c.args.run.now.process) _ _ _ _ _ (sym c.in-Some.is ∙ c.in_ok-name.ensures) c.in_ok-name-in-Some.ensures h) c.probe_folder.ensures.carries.0, err_map _ _ _ (λ h. changed_out c.args.value.now _ _ (mind_of c.args.run.now.process) _ _ _ _ (sym c.in-Some.is ∙ c.in_ok-name.ensures) c.in_ok-name-in-Some.ensures h) c.probe_folder.ensures.carries.1) }

pub returns-in_ok-tell-in-None : goal.returns-in_ok-tell-in-None
returns-in_ok-tell-in-None g c = record { carries = rw c.tell.ensures.same (unusable_told c.args.value.now _ (mind_of c.args.run.now.process) _ _ _ _ (sym c.in-None.is ∙ c.in_ok-name.ensures) c.in_ok-line-in-None.ensures c.in_ok-tell-in-None.ensures.carries.0, tt) }
