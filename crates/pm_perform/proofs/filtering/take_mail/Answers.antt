use Rattle.pm_perform.proofs.filtering.take_mail.Goals as goal

pub returns-clause-outcome : goal.returns-clause-outcome
returns-clause-outcome g c = rw c.in_ok-output.ensures at c.take_output.ensures.outcome

pub returns-clause-mind : goal.returns-clause-mind
returns-clause-mind g c = rw c.in_ok-output.ensures at c.take_output.ensures.mind
