use Rattle.std.proofs.Common.{refl}
use Rattle.pm_perform.proofs.laws.examples.Goals as goal

-- each by computing
pub returns : goal.returns
returns c = record {
  appended = refl;
  torn = refl;
  folder = refl;
  placed = refl;
  torn_there = refl;
  fed = refl;
  failed = refl;
  left = refl;
  may_leave = refl;
  not_started = refl;
  filtered = refl;
  written = refl;
  short = refl;
  said = refl;
  whole = refl;
  another = refl;
  moment = refl;
  plain_lock = refl;
  forced = refl;
  busy = refl;
  removed = refl;
  stuck = refl;
  program = refl;
}
