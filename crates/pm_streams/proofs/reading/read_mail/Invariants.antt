use Rattle.std.proofs.Common.{◌≤◌, ◌-◌, length}
use Rattle.pm_host.specs.Told.{Tells}
use Rattle.pm_streams.specs.Reading.{TakesOff, NoFault}
use Rattle.pm_streams.proofs.reading.read_mail.Given as goal

abbrev pub invariant-loop-room : goal.invariant-loop-room
invariant-loop-room g l = record {
  off : Tells (TakesOff l.bytes) (g.S.Source.told l.fn.source).bytes (g.S.Source.told l.source).bytes;
  later : (g.S.Source.told l.fn.source).faults ≤ (g.S.Source.told l.source).faults;
  steady : NoFault (g.S.Source.told l.fn.source) (g.S.Source.told l.source);
  bounded : length l.bytes ≤ 67108865;
}

abbrev pub decreases-loop-room : goal.decreases-loop-room
decreases-loop-room g l = 67108865 - length l.bytes
