use Rattle.std.proofs.Common.{[], refl, ap}
use Rattle.pm_meaning.specs.Forwards.{forward_reading}
use Rattle.pm_meaning.specs.Minds.{mind_of}
use Rattle.pm_meaning.specs.ProgramActions.{Delivers, forward}
use Rattle.pm_meaning.proofs.Choices.{carried}
use Rattle.pm_perform.proofs.PipeLemmas.{is_forward}
use Rattle.pm_perform.proofs.pipes.forward_as.Goals as goal

pub returns-clause-carries : goal.returns-clause-carries
returns-clause-carries g c =
    let p = mind_of c.args.run.now.process in
    let flags = c.args.flags in
    let lock = c.args.lock.now in
    let text = c.args.text.now in
    carried _ (forward flags lock text p) _ _ _ _ _ _ (is_forward flags lock text [] (Delivers c.args.destination.now) (forward_reading text) p refl (ap Delivers c.requires.called) refl) c.do_program.ensures.carries

pub returns-clause-sure : goal.returns-clause-sure
returns-clause-sure g c = c.do_program.ensures.sure
