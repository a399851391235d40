use Rattle.std.proofs.Common.{◌++◌, refl, rules, ap, ◌∙◌}
use Rattle.pm_journal.proofs.WantsMemory.{on_err, out_anywhere}
use Rattle.pm_perform.proofs.CalmLemmas.{sure_none}
use Rattle.pm_perform.proofs.pipes.forward.Goals as goal

pub returns-in_err-destination-clause-carries : goal.returns-in_err-destination-clause-carries
returns-in_err-destination-clause-carries g c = (search rules, on_err _ _ (out_anywhere _ _ _ _ refl))

pub returns-in_err-push_slice-clause-carries : goal.returns-in_err-push_slice-clause-carries
returns-in_err-push_slice-clause-carries g c = (search rules, on_err _ _ (out_anywhere _ _ _ _ refl))

pub forward_as-requires : goal.forward_as-requires
forward_as-requires g c = record { called = c.as_slice.ensures ∙ (c.in_ok-push_slice.ensures.ok ∙ ap (λ l. l ++ c.args.order.now.text.now) c.in_ok-destination.ensures) }

pub returns-in_err-destination-clause-sure : goal.returns-in_err-destination-clause-sure
returns-in_err-destination-clause-sure g c = on_err _ _ (sure_none c.args.order.now.flags c.args.run.now.journal c.args.run.now.journal refl)

pub returns-in_err-push_slice-clause-sure : goal.returns-in_err-push_slice-clause-sure
returns-in_err-push_slice-clause-sure g c = on_err _ _ (sure_none c.args.order.now.flags c.args.run.now.journal c.args.run.now.journal refl)
