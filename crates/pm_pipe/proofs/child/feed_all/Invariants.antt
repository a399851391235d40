use Rattle.std.proofs.Common.{◌≡◌, ◌≤◌, ◌-◌, length}
use Rattle.pm_host.specs.declared.answers.Child.TheVariants.{Feeding as ChildFeeding}
use Rattle.pm_journal.specs.Children.{FeedOn}
use Rattle.pm_pipe.specs.Runs.{Feeding}
use Rattle.pm_pipe.proofs.child.feed_all.Given as goal

abbrev pub invariant-loop-taken : goal.invariant-loop-taken
invariant-loop-taken g l = record {
  within : l.taken ≤ length l.input;
  feeding : Feeding l.input (FeedOn l.taken) (g.H.Host.told l.fn.host) (g.H.Host.told l.host);
  still : (g.H.Host.told l.host).child ≡ ChildFeeding;
}

abbrev pub decreases-loop-taken : goal.decreases-loop-taken
decreases-loop-taken g l = length l.input - l.taken
