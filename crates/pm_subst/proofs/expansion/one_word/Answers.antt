use Rattle.std.proofs.Common.{[], None}
use Rattle.pm_subst.proofs.expansion.one_word.Goals as goal

pub returns-clause-holds : goal.returns-clause-holds
returns-clause-holds c = c.begin.ensures.holds (record { done = []; current = None }) c.new-buffer.ensures.empty
