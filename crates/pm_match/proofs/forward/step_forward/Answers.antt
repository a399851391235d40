use Rattle.std.proofs.Common.{◌+◌, sym, subst}
use Rattle.pm_match.specs.Forward.{AreRunLabels}
use Rattle.pm_match.proofs.ForwardLemmas.{ahead_next}
use Rattle.pm_match.proofs.forward.step_forward.Goals as goal

pub returns-clause-ahead : goal.returns-clause-ahead
returns-clause-ahead c = λ entry start low ahead.
    subst (λ l. AreRunLabels c.args.program.now.steps.items c.args.area.now entry start (c.args.place + 1) l.of.items) (sym c.swap.ensures.x_after)
    (ahead_next c.args.program.now.steps.items c.deref.result.now c.args.area.now entry start c.deref.ensures.value
    c.args.place c.args.labels.now.of.items c.advance.new.next.of.items low ahead c.advance.ensures.sound c.advance.ensures.reached c.advance.ensures.closed)
