-- The exit status of a run.
use Rattle.std.specs.Prelude.{ℕ, Bool, true, false, ◌&&◌, Option, Some, None, List, [], nat_le, codes, decimal, bytes_eq, if◌then◌else◌}
use Rattle.pm_bytes.specs.Number.{count_of}
use Rattle.pm_vars.specs.Table.{Table}
use Rattle.pm_vars.specs.Variables.{value_of}
use Rattle.pm_meaning.specs.Locks.{value_or}
use Rattle.pm_meaning.specs.Minds.{Mind}
use Rattle.pm_meaning.specs.Changes.{with_variable, is_given}
use Rattle.pm_meaning.specs.declared.process.End.{End}
use Rattle.pm_meaning.specs.declared.process.End.TheVariants.{Delivered, FellOff, NoRc, HostOff}
use Rattle.pm_meaning.specs.declared.status.Status.{Status}
use Rattle.pm_meaning.specs.declared.status.Status.TheVariants.{Success, Usage, DataError, NoInput, SystemError, CannotCreate, InputOutput, TemporaryFailure}

-- the numbers of sysexits(3)
abbrev pub status_number : Status → ℕ
status_number Success = 0
status_number Usage = 64
status_number DataError = 65
status_number NoInput = 66
status_number SystemError = 71
status_number CannotCreate = 73
status_number InputOutput = 74
status_number TemporaryFailure = 75

-- the status of a process's end; under `-t` a mail that wasn't delivered shall be tried again later
abbrev pub end_status : Bool → End → Status
end_status softly Delivered = Success
end_status softly FellOff = if softly then TemporaryFailure else CannotCreate
end_status softly NoRc = NoInput
end_status softly HostOff = Success

-- the rcfile says that the mail counts as delivered
abbrev pub says_delivered : Table → Bool
says_delivered vars = bytes_eq (value_or [] (codes "DELIVERED") vars) (codes "yes")

-- the status so far, before EXITCODE and TRAP are heeded
abbrev pub base_status : End → Mind → ℕ
base_status end p = if says_delivered p.vars then 0 else status_number (end_status p.fails_softly end)

-- a number that an exit status can be, other than success
abbrev pub is_code : Option ℕ → Bool
is_code None = false
is_code (Some code) = nat_le 1 code && nat_le code 255

-- the number, which is there
abbrev pub code_in : Option ℕ → ℕ
code_in None = 0
code_in (Some code) = code

-- the value is there and empty
abbrev pub is_there_empty : Option (List ℕ) → Bool
is_there_empty None = false
is_there_empty (Some value) = bytes_eq value []

-- EXITCODE's number; where EXITCODE is set and empty, that of TRAP's program, if TRAP names one; and otherwise the status so far
abbrev pub chosen_status : End → ℕ → Mind → ℕ
chosen_status end trapped p =
    if is_code (count_of (value_or [] (codes "EXITCODE") p.vars)) then code_in (count_of (value_or [] (codes "EXITCODE") p.vars))
    else if is_there_empty (value_of (codes "EXITCODE") p.vars.variables) && is_given (codes "TRAP") p then trapped
    else base_status end p

-- a mail filter without its rcfile has its own status
abbrev pub exit_status : End → ℕ → Mind → ℕ
exit_status NoRc trapped p = status_number NoInput
exit_status other trapped p = chosen_status other trapped p

-- whether a variable is set
abbrev pub is_set : Option (List ℕ) → Bool
is_set None = false
is_set (Some value) = true

-- an EXITCODE that isn't set gets the status so far
abbrev pub with_exit_status : End → Mind → Mind
with_exit_status end p =
    if is_set (value_of (codes "EXITCODE") p.vars.variables) then p else with_variable (codes "EXITCODE") (decimal (base_status end p)) p
