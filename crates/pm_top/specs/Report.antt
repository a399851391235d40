-- What a trial says at its end.
use Rattle.std.specs.Prelude.{ℕ, List, ◌++◌, codes, decimal}
use Rattle.pm_top.specs.declared.totals.Totals.{Totals}

-- a line with a number
abbrev pub count_line : List ℕ → ℕ → List ℕ
count_line label number = label ++ decimal number ++ codes "\n"

-- the five lines
abbrev pub report_of : ℕ → Totals → List ℕ
report_of messages totals =
    count_line (codes "messages ") messages ++ count_line (codes "entries ") totals.entries
    ++ count_line (codes "appends ") totals.appends ++ count_line (codes "locks ") totals.locks
    ++ count_line (codes "bytes ") totals.bytes
