-- The number of an exit status that a text writes.
use Rattle.std.specs.Prelude.{ℕ, List, Option, None, if◌then◌else◌}
use Rattle.pm_bytes.specs.Number.{count_of}
use Rattle.pm_meaning.specs.Status.{is_code}

-- a number that an exit status can be, other than success
abbrev pub code_written : List ℕ → Option ℕ
code_written text = if is_code (count_of text) then count_of text else None
