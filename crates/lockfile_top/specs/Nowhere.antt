-- A sink that nobody reads.
use Rattle.std.specs.Prelude.{None}
use Rattle.pm_host.specs.Streams.{StreamView}

-- it tells nothing but that no call failed
abbrev pub nowhere : StreamView
nowhere = record { bytes = None; faults = 0 }
