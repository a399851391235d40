-- The giving back of a lock.
use Rattle.std.specs.Prelude.{ℕ, List}
use Rattle.pm_host.specs.Told.{HostView, Makes}
use Rattle.pm_host.specs.declared.answers.Removed.{Removed}
use Rattle.pm_host.specs.declared.answers.Removed.TheVariants.{Removed as RemovedDone, Absent, Failed as RemoveFailed}
use Rattle.pm_host.specs.declared.calls.Call.TheVariants.{Remove}
use Rattle.pm_host.specs.declared.calls.Answer.TheVariants.{Remove as AnswerRemove}
use Rattle.pm_locks.specs.declared.give.GiveEnd.{GiveEnd}
use Rattle.pm_locks.specs.declared.give.GiveEnd.TheVariants.{Removed as GaveBack, Gone, Failed}

-- the answer to the `remove` that this end stands for
abbrev pub removed_of : GiveEnd → Removed
removed_of GaveBack = RemovedDone
removed_of Gone = Absent
removed_of Failed = RemoveFailed

-- one `remove` of the lock file, with the answer of this end
abbrev pub GivesLock : List ℕ → GiveEnd → HostView → HostView → Type 0
GivesLock name end before after = Makes (Remove name) (AnswerRemove (removed_of end)) before after
