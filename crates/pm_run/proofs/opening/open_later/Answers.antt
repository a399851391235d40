use Rattle.std.proofs.Common.{◌≡◌, [], reverse, ap, rules}
use Rattle.pm_meaning.specs.Minds.{mind_of}
use Rattle.pm_meaning.specs.declared.process.End.TheVariants.{HostOff}
use Rattle.pm_meaning.specs.Running.{left_by}
use Rattle.pm_meaning.proofs.Choices.{ok_map, err_map}
use Rattle.pm_run.specs.Ends.{opened_at}
use Rattle.pm_run.proofs.OpeningLemmas.{later_state, opened_reaches, reaches_from, wants_from}
use Rattle.pm_run.proofs.opening.open_later.Goals as goal

pub returns-clause-walks : goal.returns-clause-walks
returns-clause-walks g c =
    let p = mind_of c.args.run.now.process in
    let q = mind_of c.open_first.new.run.process in
    let same : c.replace-names.result.items ≡ c.args.run.now.process.later.items = search rules in
    let names : reverse c.replace-names.result.items ≡ reverse c.args.run.now.process.later.items = ap reverse same in
    let empty : c.replace-names.new.dest.items ≡ [] = search rules in
    let none : reverse c.replace-names.new.dest.items ≡ [] = ap reverse empty in
    let start = later_state p (reverse c.replace-names.result.items) (reverse c.replace-names.new.dest.items) names none in (
      ok_map c.open_first.result _ _ (λ opened h. reaches_from _ (left_by HostOff p) (opened_at opened q) _ _ _ _ start (opened_reaches _ opened q _ _ _ _ h)) c.open_first.ensures.opens,
      err_map c.open_first.result _ _ (λ h. wants_from _ (left_by HostOff p) _ _ _ _ start h) c.open_first.ensures.memory,
    )
