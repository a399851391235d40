-- What plans have in common writes nothing to the standard output: lines of the log, commands and program lines.
use Rattle.std.proofs.Common.{Bool, true, false, ℕ, List, [], ◌∷◌, ◌++◌, Option, Some, None, if◌then◌else◌}
use Rattle.pm_host.specs.declared.command.Command.{Command}
use Rattle.pm_subst.specs.Commands.{commands_in}
use Rattle.pm_subst.specs.declared.kinds.Mode.TheVariants.{Many}
use Rattle.pm_journal.specs.Outcomes.{run_end}
use Rattle.pm_journal.specs.Plan.{Plan}
use Rattle.pm_meaning.specs.Locks.{is_nothing}
use Rattle.pm_meaning.specs.Logging.{log, log_to, log_file}
use Rattle.pm_meaning.specs.Minds.{Mind}
use Rattle.pm_meaning.specs.Turns.{say_then}
use Rattle.pm_meaning.specs.Outputs.{tell_maybe, run_fault, run_command, run_line, output_of, outputs_behind, outputs_of, read_line}
use Rattle.pm_meaning.specs.Programs.{command_line_of, needs_shell}
use Rattle.pm_meaning.specs.declared.process.ProgramLine.{ProgramLine}
use Rattle.pm_meaning.specs.declared.process.ProgramLine.TheVariants as line
use Rattle.pm_meaning.proofs.Beside.{WritesNothing, nothing_then}

pub quiet_if : {R : Type 0} (b : Bool) (x y : Plan R) → WritesNothing x → WritesNothing y → WritesNothing (if b then x else y)
quiet_if true x y h k = h
quiet_if false x y h k = k

pub quiet_log_to : (to : Option (List ℕ)) (text : List ℕ) → WritesNothing (log_to to text)
quiet_log_to None text = (tt, λ reply. tt)
quiet_log_to (Some name) text = quiet_if (is_nothing name) _ _ tt (tt, λ reply. tt)

pub quiet_say : {R : Type 0} (p : Mind) (text : List ℕ) (next : R) → WritesNothing (say_then p text next)
quiet_say p text next = nothing_then (log text p) _ (quiet_log_to (log_file p) text) (λ done. tt)

pub quiet_maybe : {R : Type 0} (o : Option (List ℕ)) (p : Mind) (next : R) → WritesNothing (tell_maybe o p next)
quiet_maybe None p next = tt
quiet_maybe (Some text) p next = quiet_say p text next

pub quiet_command : (command : Command) (text : List ℕ) (p : Mind) → WritesNothing (run_command command text p)
quiet_command command text p = (tt, λ reply. quiet_maybe (run_fault (run_end reply) text) _ _)

pub quiet_run_line : (l : ProgramLine) (text : List ℕ) (p : Mind) → WritesNothing (run_line l text p)
quiet_run_line (line.Runs command) text p = quiet_command command text p
quiet_run_line line.NoWords text p = quiet_say p _ _
quiet_run_line line.Unusable text p = quiet_say p _ _
quiet_run_line (line.TooLong size) text p = quiet_say p _ _

pub quiet_outputs : (outputs texts : List (List ℕ)) (p : Mind) → WritesNothing (outputs_behind outputs texts p)
quiet_outputs outputs [] p = tt
quiet_outputs outputs (text ∷ texts) p =
    nothing_then (output_of text p) _ (quiet_run_line (command_line_of text p) text p) (λ one. quiet_outputs (outputs ++ one.output ∷ []) texts one.mind)

pub quiet_read_line : (text : List ℕ) (p : Mind) → WritesNothing (read_line text p)
quiet_read_line text p = quiet_if (needs_shell text p) _ _ tt (nothing_then (outputs_of (commands_in Many text) p) _ (quiet_outputs [] (commands_in Many text) p) (λ ran. tt))
