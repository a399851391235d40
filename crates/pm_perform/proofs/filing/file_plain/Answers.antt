use Rattle.std.proofs.Common.{refl, rules, sym, ◌∙◌}
use Rattle.pm_journal.proofs.WantsMemory.{on_err, out_anywhere}
use Rattle.pm_meaning.specs.Minds.{mind_of}
use Rattle.pm_perform.specs.Copies.{filing_of}
use Rattle.pm_meaning.proofs.Choices.{ok_map, err_map}
use Rattle.pm_perform.proofs.FileLemmas.{plain_unnamed, plain_filed, plain_wants}
use Rattle.pm_perform.proofs.filing.file_plain.Goals as goal

pub returns-in_err-plain_prefix-clause-carries : goal.returns-in_err-plain_prefix-clause-carries
returns-in_err-plain_prefix-clause-carries g c = (search rules, on_err _ _ (out_anywhere _ _ _ _ refl))

pub returns-in_err-shown-in-Some-clause-carries : goal.returns-in_err-shown-in-Some-clause-carries
returns-in_err-shown-in-Some-clause-carries g c = (search rules, on_err _ _ (out_anywhere _ _ _ _ refl))

pub returns-in_err-piece-in-Some-clause-carries : goal.returns-in_err-piece-in-Some-clause-carries
returns-in_err-piece-in-Some-clause-carries g c = (search rules, on_err _ _ (out_anywhere _ _ _ _ refl))

pub returns-in-None-clause-carries : goal.returns-in-None-clause-carries
returns-in-None-clause-carries g c = (plain_unnamed c.args.flags c.args.folder (mind_of c.args.run.now.process) _ _ (sym c.in-None.is ∙ c.in_ok-plain_prefix.ensures), tt)

pub returns-in_ok-piece-in-Some-clause-carries : goal.returns-in_ok-piece-in-Some-clause-carries
returns-in_ok-piece-in-Some-clause-carries g c =
    let p = mind_of c.args.run.now.process in
    let prefix = c.in-Some.prefix in
    let piece = c.in_ok-piece-in-Some.piece in
    let named = sym c.in-Some.is ∙ c.in_ok-plain_prefix.ensures in (
      ok_map c.file_in_folder.result _ _ (λ filed h. plain_filed c.args.flags c.args.folder prefix piece p (filing_of filed (mind_of c.file_in_folder.new.run.process)) _ _ _ _ named c.in_ok-piece-in-Some.ensures h) c.file_in_folder.ensures.carries.0,
      err_map c.file_in_folder.result _ _ (λ h. plain_wants c.args.flags c.args.folder prefix piece p _ _ _ _ named c.in_ok-piece-in-Some.ensures h) c.file_in_folder.ensures.carries.1,
    )
