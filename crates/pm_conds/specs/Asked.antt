-- What is told of the standard output while conditions are judged.
use Rattle.std.specs.Prelude.{ℕ, None}
use Rattle.pm_host.specs.Streams.{StreamView}

-- a sink of which the count of faults alone is known
abbrev pub silent : ℕ → StreamView
silent count = record { bytes = None; faults = count }
