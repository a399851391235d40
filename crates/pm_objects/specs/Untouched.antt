-- A sink that a run doesn't touch.
use Rattle.std.specs.Prelude.{ℕ, None}
use Rattle.pm_host.specs.Streams.{StreamView}

-- its count of faults alone is known
abbrev pub silent : ℕ → StreamView
silent count = record { bytes = None; faults = count }
