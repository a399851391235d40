use Rattle.pm_match.proofs.anywhere.before_all.Goals as goal

pub returns-in-Some-clause-none : goal.returns-in-Some-clause-none
returns-in-Some-clause-none c = λ g h. c.pass.ensures.none g h.embeds
