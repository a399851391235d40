-- A table of tallies as a list of rows, whatever the map does with its memory.
use Rattle.std.specs.Prelude.{map, List}
use Rattle.log_summary.specs.Tallies.{Row}
use Rattle.log_summary.specs.declared.table.Table.TheInside.{Inside}

abbrev pub rows_of : Inside → List Row
rows_of inside = map (λ entry. record { name = entry.0.items; count = entry.1.count; bytes = entry.1.bytes }) inside.tallies.entries
