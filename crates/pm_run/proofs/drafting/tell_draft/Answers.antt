use Rattle.std.proofs.Common.{refl, rules, ap, ◌∙◌}
use Rattle.pm_journal.proofs.WantsMemory.{on_err, out_anywhere}
use Rattle.pm_meaning.specs.Abstracts.{abstract_of}
use Rattle.pm_meaning.specs.Logging.{log}
use Rattle.pm_meaning.specs.Minds.{mind_of}
use Rattle.pm_meaning.proofs.Choices.{carried}
use Rattle.pm_run.proofs.DraftLemmas.{file_is, finished}
use Rattle.pm_run.proofs.drafting.tell_draft.Goals as goal

pub returns-in_err-push_folder-clause-carries : goal.returns-in_err-push_folder-clause-carries
returns-in_err-push_folder-clause-carries g c = (search rules, on_err _ _ (out_anywhere _ _ _ _ refl))

pub tell_in-requires : goal.tell_in-requires
tell_in-requires g c = record { named = file_is c.args.draft (mind_of c.args.run.now.process) c.requires.suits }

pub returns-clause-carries : goal.returns-clause-carries
returns-clause-carries g c =
    let p = mind_of c.args.run.now.process in
    carried _ (log (abstract_of p) p) _ _ _ _ _ _ (ap (λ t. log t p) (finished c.args.draft p c.requires.suits c.from_vec.result (c.from_vec.ensures ∙ c.in_ok-push_folder.ensures))) c.tell_in.ensures.carries
