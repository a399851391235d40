-- What a process does at its end: the abstract of its delivery, and the program of TRAP (procmailrc(5), "Environment").
use Rattle.std.specs.Prelude.{ℕ, Bool, true, false, not, ◌&&◌, List, [], codes, if◌then◌else◌}
use Rattle.pm_host.specs.declared.command.Command.{Command}
use Rattle.pm_message.specs.Split.{whole_of}
use Rattle.pm_journal.specs.LogText.{unusable_name_line, value_too_long_line}
use Rattle.pm_journal.specs.Outcomes.{run_end}
use Rattle.pm_journal.specs.declared.acts.Act.TheVariants.{Run}
use Rattle.pm_journal.specs.Plan.{Plan, Ends, and_then, ask}
use Rattle.pm_meaning.specs.Abstracts.{abstract_of, logs_last}
use Rattle.pm_meaning.specs.Changes.{is_given, overflowed}
use Rattle.pm_meaning.specs.Locks.{value_or}
use Rattle.pm_meaning.specs.Logging.{log, logged}
use Rattle.pm_meaning.specs.Minds.{Mind}
use Rattle.pm_meaning.specs.Outputs.{tell_run, read_line}
use Rattle.pm_meaning.specs.Programs.{code_of, with_code}
use Rattle.pm_meaning.specs.Turns.{say_then}
use Rattle.pm_meaning.specs.declared.process.End.{End}
use Rattle.pm_meaning.specs.declared.process.End.TheVariants.{Delivered, NoRc}
use Rattle.pm_meaning.specs.declared.process.ProgramLine.{ProgramLine}
use Rattle.pm_meaning.specs.declared.process.ProgramLine.TheVariants as line
use Rattle.pm_meaning.specs.Status.{with_exit_status}

-- the process delivered the mail
abbrev pub is_delivered : End → Bool
is_delivered Delivered = true
is_delivered other = false

-- the abstract of the delivery that ended the process is logged, where it is wanted
abbrev pub tell_delivery : End → Mind → Plan (Unit {0})
tell_delivery end p = if is_delivered end && logs_last p then log (abstract_of p) p else Ends logged

-- the process's rcfile was read
abbrev pub has_rcfile : End → Bool
has_rcfile NoRc = false
has_rcfile other = true

-- TRAP's program runs: at the end of the first process, where TRAP isn't empty
abbrev pub is_trapped : End → Mind → Bool
is_trapped end p = has_rcfile end && not p.is_clone && is_given (codes "TRAP") p

-- the exit code of TRAP's program, and the process then
pub record Trapped : Type 0 where
  pub code : ℕ
  pub mind : Mind

-- the end of TRAP with these parts
abbrev pub trapped_with : ℕ → Mind → Trapped
trapped_with code p = record { code = code; mind = p }

-- the program gets the whole mail; that it didn't run well is told
abbrev pub run_trap : Command → List ℕ → Mind → Plan Trapped
run_trap command text p =
    and_then (ask (Run command (whole_of p.message) false))
    (λ reply. tell_run (run_end reply) text (with_code reply p) (trapped_with (code_of (run_end reply)) (with_code reply p)))

-- the program by its line; one that can't be run is told, and counts as one that didn't end
abbrev pub trap_by : ProgramLine → List ℕ → Mind → Plan Trapped
trap_by (line.Runs command) text p = run_trap command text p
trap_by line.NoWords text p = say_then p (unusable_name_line text) (trapped_with 127 p)
trap_by line.Unusable text p = say_then p (unusable_name_line text) (trapped_with 127 p)
trap_by (line.TooLong size) text p = say_then p (value_too_long_line size) (trapped_with 127 (overflowed p))

-- the program line of TRAP is read after its commands
abbrev pub trap_line : List ℕ → Mind → Plan Trapped
trap_line text p = and_then (read_line text p) (λ read. trap_by read.line text read.mind)

-- TRAP's program runs, and finds the status so far in EXITCODE, unless that is set
abbrev pub trap : End → Mind → Plan Trapped
trap end p =
    if is_trapped end p then trap_line (value_or [] (codes "TRAP") p.vars) (with_exit_status end p) else Ends (trapped_with 127 p)
