use Rattle.std.proofs.Common.{refl, rules, ap}
use Rattle.pm_journal.proofs.WantsMemory.{on_err, out_anywhere}
use Rattle.pm_meaning.specs.Apart.{acted_with}
use Rattle.pm_meaning.specs.Delivering.{try_each, no_flags}
use Rattle.pm_meaning.specs.Minds.{mind_of}
use Rattle.pm_meaning.specs.Running.{default_mailboxes}
use Rattle.pm_meaning.specs.declared.acted.Acted.TheVariants.{Failed}
use Rattle.pm_meaning.specs.declared.acted.Cause.TheVariants.{NoName}
use Rattle.pm_meaning.proofs.Choices.{carried}
use Rattle.pm_perform.proofs.CalmLemmas.{sure_none}
use Rattle.pm_perform.proofs.fallback.fall_back.Goals as goal

pub returns-in_err-mailboxes-clause-carries : goal.returns-in_err-mailboxes-clause-carries
returns-in_err-mailboxes-clause-carries g c = (search rules, on_err _ _ (out_anywhere _ _ _ _ refl))

pub returns-clause-carries : goal.returns-clause-carries
returns-clause-carries g c =
    let p = mind_of c.args.run.now.process in
    carried (try_each c.in_ok-mailboxes.mailboxes.items (Failed NoName) p) (try_each (default_mailboxes p.vars) (Failed NoName) p) (λ acted. acted_with acted (mind_of c.try_each.new.run.process)) _ _ _ _ _ (ap (λ l. try_each l (Failed NoName) p) c.in_ok-mailboxes.ensures) c.try_each.ensures.carries

pub returns-in_err-mailboxes-clause-sure : goal.returns-in_err-mailboxes-clause-sure
returns-in_err-mailboxes-clause-sure g c = on_err _ _ (sure_none no_flags c.args.run.now.journal c.args.run.now.journal refl)
