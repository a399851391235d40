-- Commands, program lines and TRAP's program change nothing about locks.
use Rattle.std.proofs.Common.{ℕ, List, [], ◌∷◌, ◌++◌, Option}
use Rattle.std.specs.Prelude.{codes}
use Rattle.pm_host.specs.declared.command.Command.{Command}
use Rattle.pm_subst.specs.Commands.{commands_in}
use Rattle.pm_subst.specs.declared.kinds.Mode.TheVariants.{Many}
use Rattle.pm_journal.specs.Outcomes.{run_end}
use Rattle.pm_meaning.specs.Ends.{is_trapped, trap_by, trap_line, trap}
use Rattle.pm_meaning.specs.Locks.{value_or}
use Rattle.pm_meaning.specs.Minds.{Mind}
use Rattle.pm_meaning.specs.Outputs.{run_fault, run_command, run_line, output_of, outputs_behind, outputs_of, read_line}
use Rattle.pm_meaning.specs.Programs.{command_line_of, needs_shell}
use Rattle.pm_meaning.specs.Status.{is_set, with_exit_status}
use Rattle.pm_meaning.specs.declared.process.End.{End}
use Rattle.pm_meaning.specs.declared.process.ProgramLine.{ProgramLine}
use Rattle.pm_meaning.specs.declared.process.ProgramLine.TheVariants as line
use Rattle.pm_vars.specs.Variables.{value_of}
use Rattle.pm_run.proofs.Always.{Always, always_then, always_if, always_said, always_told}
use Rattle.pm_run.proofs.Kept.{Kept, kept_if, AfterCommand, AfterCommands, AfterLine, AfterTrap}

module _ (K : List (List ℕ) → Option (List ℕ) → Type 0) where
  kept_command : (command : Command) (text : List ℕ) (p : Mind) → Kept K p → Always (AfterCommand K) (run_command command text p)
  kept_command command text p h = λ reply. always_told (AfterCommand K) (run_fault (run_end reply) text) _ _ h

  kept_run_line : (l : ProgramLine) (text : List ℕ) (p : Mind) → Kept K p → Always (AfterCommand K) (run_line l text p)
  kept_run_line (line.Runs command) text p h = kept_command command text p h
  kept_run_line line.NoWords text p h = always_said (AfterCommand K) p _ _ h
  kept_run_line line.Unusable text p h = always_said (AfterCommand K) p _ _ h
  kept_run_line (line.TooLong size) text p h = always_said (AfterCommand K) p _ _ h

  kept_behind : (outputs texts : List (List ℕ)) (p : Mind) → Kept K p → Always (AfterCommands K) (outputs_behind outputs texts p)
  kept_behind outputs [] p h = h
  kept_behind outputs (text ∷ texts) p h =
      always_then (AfterCommand K) (AfterCommands K) (output_of text p) _ (kept_run_line (command_line_of text p) text p h)
      (λ one k. kept_behind (outputs ++ one.output ∷ []) texts one.mind k)

  pub kept_outputs : (texts : List (List ℕ)) (p : Mind) → Kept K p → Always (AfterCommands K) (outputs_of texts p)
  kept_outputs texts p h = kept_behind [] texts p h

  pub kept_read : (text : List ℕ) (p : Mind) → Kept K p → Always (AfterLine K) (read_line text p)
  kept_read text p h =
      always_if (AfterLine K) (needs_shell text p) _ _ h
      (always_then (AfterCommands K) (AfterLine K) (outputs_of (commands_in Many text) p) _ (kept_outputs (commands_in Many text) p h) (λ ran k. k))

  kept_trap_by : (l : ProgramLine) (text : List ℕ) (p : Mind) → Kept K p → Always (AfterTrap K) (trap_by l text p)
  kept_trap_by (line.Runs command) text p h = λ reply. always_told (AfterTrap K) (run_fault (run_end reply) text) _ _ h
  kept_trap_by line.NoWords text p h = always_said (AfterTrap K) p _ _ h
  kept_trap_by line.Unusable text p h = always_said (AfterTrap K) p _ _ h
  kept_trap_by (line.TooLong size) text p h = always_said (AfterTrap K) p _ _ h

  kept_trap_line : (text : List ℕ) (p : Mind) → Kept K p → Always (AfterTrap K) (trap_line text p)
  kept_trap_line text p h = always_then (AfterLine K) (AfterTrap K) (read_line text p) _ (kept_read text p h) (λ read k. kept_trap_by read.line text read.mind k)

  pub kept_trap : (end : End) (p : Mind) → Kept K p → Always (AfterTrap K) (trap end p)
  kept_trap end p h =
      always_if (AfterTrap K) (is_trapped end p) (trap_line (value_or [] (codes "TRAP") p.vars) (with_exit_status end p)) _
      (kept_trap_line (value_or [] (codes "TRAP") p.vars) (with_exit_status end p) (kept_if K (is_set (value_of (codes "EXITCODE") p.vars.variables)) _ _ h h)) h
