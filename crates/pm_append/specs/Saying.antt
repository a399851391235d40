-- The counts of faults that a log act notes.
use Rattle.std.specs.Prelude.{ℕ}
use Rattle.pm_host.specs.Told.{HostView}
use Rattle.pm_host.specs.Streams.{StreamView}
use Rattle.pm_journal.specs.declared.acts.Counts.{Counts}

-- the counts of faults, with this one of `out`
abbrev pub counts_beside : ℕ → HostView → StreamView → Counts
counts_beside out host err = record { host = host.faults; out = out; err = err.faults }
