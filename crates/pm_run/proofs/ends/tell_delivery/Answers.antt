use Rattle.std.proofs.Common.{refl, sym, ◌∙◌}
use Rattle.pm_meaning.specs.Ends.{tell_delivery}
use Rattle.pm_meaning.specs.Abstracts.{abstract_of}
use Rattle.pm_meaning.specs.Minds.{mind_of}
use Rattle.pm_meaning.proofs.Choices.{carried}
use Rattle.pm_journal.proofs.WantsMemory.{on_err}
use Rattle.pm_run.proofs.EndLemmas.{untold, abstract_told}
use Rattle.pm_run.proofs.ends.tell_delivery.Goals as goal

pub returns-then-not-is_told-clause-carries : goal.returns-then-not-is_told-clause-carries
returns-then-not-is_told-clause-carries g c =
    (untold c.args.end (mind_of c.args.run.now.process) _ _ (sym c.is_told.ensures ∙ c.if-not-is_told.true), tt)

pub returns-clause-carries : goal.returns-clause-carries
returns-clause-carries g c =
    let p = mind_of c.args.run.now.process in
    carried _ (tell_delivery c.args.end p) _ _ _ _ _ _ (abstract_told c.args.end (abstract_of p) p (sym c.is_told.ensures ∙ c.if-not-is_told.false) refl) c.tell_abstract.ensures.carries

pub returns-clause-told : goal.returns-clause-told
returns-clause-told g c = on_err _ _ (sym c.is_told.ensures ∙ c.if-not-is_told.false)
