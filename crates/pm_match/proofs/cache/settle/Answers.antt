use Rattle.pm_match.proofs.cache.settle.Goals as goal

pub returns-clause-links : goal.returns-clause-links
returns-clause-links c = λ on p exit old. c.restart.ensures.links on p exit
