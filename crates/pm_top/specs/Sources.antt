-- A message as a source.
use Rattle.std.specs.Prelude.{ℕ, List, drop, Some}
use Rattle.pm_host.specs.Streams.{StreamView}
use Rattle.pm_top.specs.declared.source.MessageSource.{MessageSource}

-- these bytes are left, and no read failed
abbrev pub telling : List ℕ → StreamView
telling left = record { bytes = Some left; faults = 0 }

-- what is left of a message
abbrev pub left_of : MessageSource → List ℕ
left_of s = drop s.at s.bytes.items

-- a source as the input that a run reads
abbrev pub source_view : MessageSource → StreamView
source_view s = telling (left_of s)
