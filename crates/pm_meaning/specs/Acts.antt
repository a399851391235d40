-- A program that a run starts and waits for.
use Rattle.std.specs.Prelude.{◌≡◌, ℕ, Bool, List}
use Rattle.pm_host.specs.declared.command.Command.{Command}
use Rattle.pm_journal.specs.Entries.{View}
use Rattle.pm_journal.specs.Executed.{Executes}
use Rattle.pm_journal.specs.JournalState.{JournalState}
use Rattle.pm_journal.specs.Outcomes.{run_end, output_in, last_output}
use Rattle.pm_journal.specs.Plan.{ask}
use Rattle.pm_journal.specs.declared.acts.Act.TheVariants.{Run}
use Rattle.pm_journal.specs.declared.acts.Reply.{Reply}
use Rattle.pm_journal.specs.declared.children.RunEnd.{RunEnd}

-- the program was run, with some reply that has this end: the entry of the reply is the journal's last one
pub record RunsProgram (command : Command) (input : List ℕ) (want : Bool) (end : RunEnd) (old new : JournalState) (before after : View) : Type 0 where
  pub reply : Reply
  pub end_is : end ≡ run_end reply
  pub output : last_output new.entries ≡ output_in reply
  pub executes : Executes (ask (Run command input want)) reply old new before after
