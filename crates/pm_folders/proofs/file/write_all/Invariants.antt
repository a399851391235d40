use Rattle.std.proofs.Common.{◌≤◌, ◌-◌, length}
use Rattle.pm_journal.specs.Placing.{Writing}
use Rattle.pm_folders.specs.Filing.{Goes}
use Rattle.pm_folders.specs.Trying.{tried_last}
use Rattle.pm_folders.proofs.file.write_all.Given as goal

abbrev pub invariant-loop-taken : goal.invariant-loop-taken
invariant-loop-taken g l = record {
  within : l.taken ≤ length l.piece;
  goes : Goes (tried_last l.names) l.piece (Writing 0) (Writing l.taken) (g.H.Host.told l.fn.host) (g.H.Host.told l.host);
}

abbrev pub decreases-loop-taken : goal.decreases-loop-taken
decreases-loop-taken g l = length l.piece - l.taken
