use Rattle.std.proofs.Common.{sym, ◌∙◌}
use Rattle.pm_meaning.specs.Minds.{mind_of}
use Rattle.pm_meaning.proofs.Choices.{ok_map, err_map}
use Rattle.pm_meaning.proofs.TellLemmas.{named_file, tells_nothing, tells_line, tells_none}
use Rattle.pm_meaning.proofs.telling.tell_in.Goals as goal

pub returns-then-is_nowhere-clause-carries : goal.returns-then-is_nowhere-clause-carries
returns-then-is_nowhere-clause-carries g c =
    let p = mind_of c.args.run.now.process in
    let is = named_file c.args.name c.unless_held-to.result p c.requires.named c.unless_held-to.ensures in
    (tells_nothing c.unless_held-to.result c.args.line p _ _ is (sym c.is_nowhere.ensures ∙ c.if-is_nowhere.true), tt)

pub returns-clause-carries : goal.returns-clause-carries
returns-clause-carries g c =
    let p = mind_of c.args.run.now.process in
    let is = named_file c.args.name c.unless_held-to.result p c.requires.named c.unless_held-to.ensures in
    let there = sym c.is_nowhere.ensures ∙ c.if-is_nowhere.false in (
      ok_map c.say.result _ _ (λ u h. tells_line c.unless_held-to.result c.args.line p _ _ _ _ is there h) c.say.ensures.ok,
      err_map c.say.result _ _ (λ h. tells_none c.unless_held-to.result c.args.line p _ _ _ _ is there h) c.say.ensures.memory,
    )
