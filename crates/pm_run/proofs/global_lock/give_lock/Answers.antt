use Rattle.std.proofs.Common.{refl, sym, ◌∙◌}
use Rattle.pm_meaning.specs.GlobalLock.{give_named}
use Rattle.pm_meaning.specs.Minds.{mind_of}
use Rattle.pm_meaning.proofs.Choices.{carried}
use Rattle.pm_run.proofs.GlobalLemmas.{none_left, not_given, is_held}
use Rattle.pm_run.proofs.global_lock.give_lock.Goals as goal

pub returns-in-None-clause-carries : goal.returns-in-None-clause-carries
returns-in-None-clause-carries g c =
    let p = mind_of c.args.run.now.process in
    (none_left c.args.run.now.process.global c.take.new.self p _ _ (sym c.take.ensures.value ∙ c.in-None.is) c.take.ensures.after, tt)

pub returns-then-not-holds-clause-carries : goal.returns-then-not-holds-clause-carries
returns-then-not-holds-clause-carries g c =
    let p = mind_of c.args.run.now.process in
    (not_given c.args.run.now.process.global c.in-Some.name p _ _ (sym c.take.ensures.value ∙ c.in-Some.is) (sym c.holds.ensures ∙ c.if-not-holds.true), tt)

pub returns-else-not-holds-clause-carries : goal.returns-else-not-holds-clause-carries
returns-else-not-holds-clause-carries g c =
    let p = mind_of c.args.run.now.process in
    let same = is_held c.args.run.now.process.global c.in-Some.name c.in-Some.name p (sym c.take.ensures.value ∙ c.in-Some.is) refl (sym c.holds.ensures ∙ c.if-not-holds.false) in
    carried _ (give_named c.args.run.now.process.global p) _ _ _ _ _ _ same c.give_held.ensures.carries
