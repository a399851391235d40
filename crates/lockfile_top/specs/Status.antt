-- The exit status of a run.
use Rattle.std.specs.Prelude.{ℕ, Bool, true, false}
use Rattle.lockfile_top.specs.declared.status.Status.{Status}
use Rattle.lockfile_top.specs.declared.status.Status.TheVariants.{Success, Usage, SystemError, CannotCreate}
use Rattle.lockfile_top.specs.declared.tasks.Ending.{Ending}
use Rattle.lockfile_top.specs.declared.tasks.Ending.TheVariants.{AllDone, GaveUp}

-- the numbers of sysexits(3)
abbrev pub status_number : Status → ℕ
status_number Success = 0
status_number Usage = 64
status_number SystemError = 71
status_number CannotCreate = 73

-- the status of an end; `-!` exchanges the two
abbrev pub end_status : Bool → Ending → Status
end_status false AllDone = Success
end_status false GaveUp = CannotCreate
end_status true AllDone = CannotCreate
end_status true GaveUp = Success
