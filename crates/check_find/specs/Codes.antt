-- The codes of what the disk shows.
use Rattle.std.specs.Prelude.{ℕ, List, codes}
use Rattle.check_find.specs.declared.codes.Severity.{Severity}
use Rattle.check_find.specs.declared.codes.Severity.TheVariants.{Error, Warning}
use Rattle.check_find.specs.declared.rules.DiskMistake.{DiskMistake}
use Rattle.check_find.specs.declared.rules.DiskMistake.TheVariants as disk

-- the name of a code
abbrev pub disk_code : DiskMistake → List ℕ
disk_code disk.TooLong = codes "limit"
disk_code disk.NoDirectory = codes "maildir"
disk_code disk.Unreadable = codes "unreadable"
disk_code disk.Writable = codes "writable"
disk_code disk.Recursion = codes "recursion"
disk_code disk.NoProgram = codes "path"

-- an rcfile that is too long isn't run at all; all else is a warning
abbrev pub disk_severity_of : DiskMistake → Severity
disk_severity_of disk.TooLong = Error
disk_severity_of _ = Warning
