-- The outputs of backquoted commands.
use Rattle.std.specs.Prelude.{ℕ, true, nat_lt, List, [], ◌∷◌, ◌++◌, length, Option, Some, None, if◌then◌else◌}
use Rattle.pm_host.specs.declared.command.Command.{Command}
use Rattle.pm_message.specs.Split.{whole_of}
use Rattle.pm_subst.specs.Commands.{commands_in}
use Rattle.pm_subst.specs.declared.kinds.Mode.TheVariants.{Many}
use Rattle.pm_journal.specs.LogText.{couldnt_start_line, lost_contact_line, output_too_long_line, unusable_name_line, value_too_long_line}
use Rattle.pm_journal.specs.Outcomes.{run_end, output_in}
use Rattle.pm_journal.specs.declared.acts.Act.TheVariants.{Run}
use Rattle.pm_journal.specs.declared.children.RunEnd.{RunEnd}
use Rattle.pm_journal.specs.declared.children.RunEnd.TheVariants.{Ended, NotStarted, Broken, TooLong}
use Rattle.pm_journal.specs.Plan.{Plan, Ends, and_then, ask}
use Rattle.pm_meaning.specs.Changes.{overflowed}
use Rattle.pm_meaning.specs.Minds.{Mind}
use Rattle.pm_meaning.specs.Programs.{command_line_of, line_of_words, shell_words, needs_shell, expanded_line, with_code}
use Rattle.pm_meaning.specs.Turns.{say_then}
use Rattle.pm_meaning.specs.declared.process.ProgramLine.{ProgramLine}
use Rattle.pm_meaning.specs.declared.process.ProgramLine.TheVariants as line

-- the output of a command, and the process then
pub record Output : Type 0 where
  pub output : List ℕ
  pub mind : Mind

-- a command's output with the process after it
abbrev pub output_with : List ℕ → Mind → Output
output_with output p = record { output = output; mind = p }

-- the outputs of commands in their order, and the process then
pub record Outputs : Type 0 where
  pub outputs : List (List ℕ)
  pub mind : Mind

-- the outputs of commands with the process after them
abbrev pub outputs_with : List (List ℕ) → Mind → Outputs
outputs_with outputs p = record { outputs = outputs; mind = p }

-- what is told of a program of this line: that it didn't start, that it was lost, or that its output is too long
abbrev pub run_fault : RunEnd → List ℕ → Option (List ℕ)
run_fault (Ended code took) text = None
run_fault NotStarted text = Some (couldnt_start_line text)
run_fault Broken text = Some (lost_contact_line text)
run_fault TooLong text = Some (output_too_long_line text)

-- the line is told, if there is one, and then this comes
abbrev pub tell_maybe : {R : Type 0} → Option (List ℕ) → Mind → R → Plan R
tell_maybe None p next = Ends next
tell_maybe (Some text) p next = say_then p text next

-- what didn't go well with a program is told, and then this comes
abbrev pub tell_run : {R : Type 0} → RunEnd → List ℕ → Mind → R → Plan R
tell_run end text p next = tell_maybe (run_fault end text) p next

-- what a text gets of an output: nothing where none came, or where it has more than 1,048,576 bytes
abbrev pub taken_output : Option (List ℕ) → List ℕ
taken_output None = []
taken_output (Some output) = if nat_lt 1048576 (length output) then [] else output

-- a command with the whole mail as its input, whose output is wanted; its exit code is remembered
abbrev pub run_command : Command → List ℕ → Mind → Plan Output
run_command command text p =
    and_then (ask (Run command (whole_of p.message) true))
    (λ reply. tell_run (run_end reply) text (with_code reply p) (output_with (taken_output (output_in reply)) (with_code reply p)))

-- a command by its line; one that can't be run is told, and has no output
abbrev pub run_line : ProgramLine → List ℕ → Mind → Plan Output
run_line (line.Runs command) text p = run_command command text p
run_line line.NoWords text p = say_then p (unusable_name_line text) (output_with [] p)
run_line line.Unusable text p = say_then p (unusable_name_line text) (output_with [] p)
run_line (line.TooLong size) text p = say_then p (value_too_long_line size) (output_with [] (overflowed p))

-- the output of a command
abbrev pub output_of : List ℕ → Mind → Plan Output
output_of text p = run_line (command_line_of text p) text p

-- after these outputs come those of commands, each of which is run where the one before ended
abbrev pub outputs_behind : List (List ℕ) → List (List ℕ) → Mind → Plan Outputs
outputs_behind outputs [] p = Ends (outputs_with outputs p)
outputs_behind outputs (text ∷ texts) p = and_then (output_of text p) (λ one. outputs_behind (outputs ++ one.output ∷ []) texts one.mind)

-- a program's line as it is read, and the process then
pub record Read : Type 0 where
  pub line : ProgramLine
  pub mind : Mind

-- a program line with the process after it was read
abbrev pub read_with : ProgramLine → Mind → Read
read_with line p = record { line = line; mind = p }

-- the outputs of commands, which are run from left to right
abbrev pub outputs_of : List (List ℕ) → Mind → Plan Outputs
outputs_of texts p = outputs_behind [] texts p

-- a line that no shell runs is expanded after its commands
abbrev pub read_line : List ℕ → Mind → Plan Read
read_line text p =
    if needs_shell text p then Ends (read_with (line_of_words (shell_words text p.vars) p) p)
    else and_then (outputs_of (commands_in Many text) p) (λ ran. Ends (read_with (expanded_line ran.outputs text ran.mind) ran.mind))
