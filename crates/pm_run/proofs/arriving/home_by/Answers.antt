use Rattle.std.proofs.Common.{refl}
use Rattle.std.proofs.lemmas.List.{at_drop_all}
use Rattle.pm_meaning.proofs.Sequences.{front_of_rest}
use Rattle.pm_run.proofs.ArriveLemmas.{home_step, home_over}
use Rattle.pm_run.proofs.arriving.home_by.Goals as goal

pub loop-value-init : goal.loop-value-init
loop-value-init c = (refl, c.requires.usable, c.utf8.home)

pub home_of-found-requires-text-home : goal.home_of-found-requires-text-home
home_of-found-requires-text-home c κs = c.loop-value.invariant.2

pub loop-value-preserved : goal.loop-value-preserved
loop-value-preserved c =
    (home_step _ _ c.value-item.result _ _ _ (front_of_rest _ _ _ _ c.value-item.is c.loop-value-test.true) c.home_of-found.ensures.same c.loop-value.invariant.0, c.home_of-found.ensures.usable, c.home_of-found.utf8)

pub returns-text : goal.returns-text
returns-text c = c.loop-value.invariant.2

pub returns-clause-same : goal.returns-clause-same
returns-clause-same c = home_over _ _ _ (at_drop_all (λ l. l) _ c.loop-value.value-index c.loop-value-test.false) c.loop-value.invariant.0
