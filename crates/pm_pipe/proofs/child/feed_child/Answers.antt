use Rattle.std.proofs.Common.{ap, Some}
use Rattle.pm_pipe.proofs.ChildLemmas.{child_not, child_ran, asked_none, unasked}
use Rattle.pm_pipe.proofs.child.feed_child.Goals as goal

pub returns-in-Failed-clause-runs : goal.returns-in-Failed-clause-runs
returns-in-Failed-clause-runs g c = child_not _ _ _ _ _ c.in-Failed.ensures

pub returns-clause-runs : goal.returns-clause-runs
returns-clause-runs g c =
    child_ran _ _ _ _ _ _ _ _ _ _ _ _ c.in_default.ensures c.feed_all-fed.ensures.feeds (asked_none _ _ (unasked _)) c.finish-ended.ensures (ap Some c.fate_of.ensures)
