-- Where lines are logged, and which are taken without an act.
use Rattle.std.specs.Prelude.{ℕ, Bool, false, not, List, Option, Some, None, if◌then◌else◌}
use Rattle.pm_bytes.specs.Path.{full_name}
use Rattle.pm_journal.specs.Held.{holds_name}
use Rattle.pm_meaning.specs.Locks.{is_nothing}
use Rattle.pm_meaning.specs.Texts.{is_file_text}

-- a line to this file is taken by `/dev/null`
abbrev pub is_nowhere : Option (List ℕ) → Bool
is_nowhere None = false
is_nowhere (Some name) = is_nothing name

-- the file of LOGFILE's value, seen from a directory, where that can be a file's name
abbrev pub log_name : List ℕ → List ℕ → Option (List ℕ)
log_name value base = if is_file_text value then Some (full_name base value) else None

-- a file that isn't a held lock's
abbrev pub free_name : Option (List ℕ) → List (List ℕ) → Option (List ℕ)
free_name None locks = None
free_name (Some name) locks = if not (holds_name locks name) then Some name else None
