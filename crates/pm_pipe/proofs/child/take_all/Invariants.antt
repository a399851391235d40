use Rattle.std.proofs.Common.{◌≡◌, ◌-◌, length}
use Rattle.pm_host.specs.World.{IsRunning}
use Rattle.pm_journal.specs.Children.{TakeOn}
use Rattle.pm_pipe.specs.Runs.{Taking}
use Rattle.pm_pipe.proofs.child.take_all.Given as goal

abbrev pub invariant-loop-room : goal.invariant-loop-room
invariant-loop-room g l = record {
  taking : Taking (TakeOn l.output) (g.H.Host.told l.fn.host) (g.H.Host.told l.host);
  sized : length l.room ≡ 4096;
  running : IsRunning (g.H.Host.told l.host).child;
}

abbrev pub decreases-loop-room : goal.decreases-loop-room
decreases-loop-room g l = 67108865 - length l.output
