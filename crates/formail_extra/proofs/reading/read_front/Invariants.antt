use Rattle.std.proofs.Common.{◌≡◌, ◌≤◌, ◌-◌, length, vec_capacity}
use Rattle.formail_extra.specs.Reading.{CacheOn, ReadsTo}
use Rattle.formail_extra.proofs.reading.read_front.Given as goal

abbrev pub invariant-loop-room : goal.invariant-loop-room
invariant-loop-room g l = record {
  reads : ReadsTo l.name (CacheOn l.bytes.items) (g.H.Host.told l.fn.host) (g.H.Host.told l.host);
  sized : length l.room ≡ 4096;
  bounded : length l.bytes.items ≤ 2097152;
  space : 2097152 ≤ vec_capacity l.bytes;
}

abbrev pub decreases-loop-room : goal.decreases-loop-room
decreases-loop-room g l = 2097152 - length l.bytes.items
