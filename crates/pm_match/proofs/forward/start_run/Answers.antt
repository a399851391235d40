use Rattle.pm_match.specs.Labels.{rank}
use Rattle.pm_match.proofs.ForwardLemmas.{ahead_first}
use Rattle.pm_match.proofs.forward.start_run.Goals as goal

pub returns-clause-ahead : goal.returns-clause-ahead
returns-clause-ahead c =
    ahead_first c.args.program.now.steps.items c.deref.result.now c.args.area.now c.args.program.now.entry c.args.start c.deref.ensures.value
    (rank (record { start = c.args.start; cut = 0 })) c.clear.new.labels.of.items c.reach.new.labels.of.items c.clear.ensures.none
    c.reach.ensures.sound c.reach.ensures.reached c.reach.ensures.closed
