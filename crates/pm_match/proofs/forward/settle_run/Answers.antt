use Rattle.std.proofs.Common.{true}
use Rattle.pm_match.proofs.RunLemmas.{no_begins}
use Rattle.pm_match.proofs.forward.settle_run.Goals as goal

pub returns-clause-links : goal.returns-clause-links
returns-clause-links c = λ p entry old. c.restart.ensures.links true p entry

pub returns-clause-begins : goal.returns-clause-begins
returns-clause-begins c = λ p entry old.
    no_begins p entry c.restart.new.cache.count c.restart.new.cache.sets.items c.empty.new.links.items c.empty.ensures.none
