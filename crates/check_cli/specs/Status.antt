-- The exit status of a check.
use Rattle.std.specs.Prelude.{ℕ, List, if◌then◌else◌}
use Rattle.std.specs.List.{list_any}
use Rattle.check_find.specs.declared.line.Line.{Line}
use Rattle.check_find.specs.Objects.{is_error_word, is_warning_word}
use Rattle.check_cli.specs.declared.status.Status.{Status}
use Rattle.check_cli.specs.declared.status.Status.TheVariants.{Clean, Warnings, Errors, Usage, NoInput, SystemError, NoOutput}

-- the numbers of procmail-check(1)
abbrev pub status_number : Status → ℕ
status_number Clean = 0
status_number Warnings = 1
status_number Errors = 2
status_number Usage = 64
status_number NoInput = 66
status_number SystemError = 71
status_number NoOutput = 73

-- errors count more than warnings, and notes don't count
abbrev pub status_of : List Line → Status
status_of lines =
    if list_any (λ line. is_error_word line.severity) lines then Errors
    else if list_any (λ line. is_warning_word line.severity) lines then Warnings
    else Clean
