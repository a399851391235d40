use Rattle.pm_match.proofs.ListLemmas.{listed_label}
use Rattle.pm_match.proofs.anywhere.settle.Goals as goal

pub returns-in-Some-clause-met : goal.returns-in-Some-clause-met
returns-in-Some-clause-met c = λ p entry exit met none.
    let labels = c.args.labels.now in
    c.number_of.ensures.met p entry exit met (listed_label labels.of.items labels.states.items labels.held exit none)

pub returns-in-None-clause-met : goal.returns-in-None-clause-met
returns-in-None-clause-met c = λ p entry exit met none.
    let labels = c.args.labels.now in
    c.number_of-in-None.ensures.met p entry exit (c.restart.ensures.met p entry exit) (listed_label labels.of.items labels.states.items labels.held exit none)
