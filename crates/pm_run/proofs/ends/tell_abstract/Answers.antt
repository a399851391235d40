use Rattle.std.proofs.Common.{refl, rules, ap}
use Rattle.pm_journal.proofs.WantsMemory.{on_err, out_anywhere}
use Rattle.pm_meaning.specs.Abstracts.{abstract_of}
use Rattle.pm_meaning.specs.Logging.{log}
use Rattle.pm_meaning.specs.Minds.{mind_of}
use Rattle.pm_meaning.proofs.Choices.{carried}
use Rattle.pm_run.proofs.ends.tell_abstract.Goals as goal

pub returns-in_err-text-clause-carries : goal.returns-in_err-text-clause-carries
returns-in_err-text-clause-carries g c = (search rules, on_err _ _ (out_anywhere _ _ _ _ refl))

pub returns-clause-carries : goal.returns-clause-carries
returns-clause-carries g c =
    let p = mind_of c.args.run.now.process in
    carried _ (log (abstract_of p) p) _ _ _ _ _ _ (ap (λ t. log t p) c.in_ok-text.ensures) c.tell.ensures.carries
