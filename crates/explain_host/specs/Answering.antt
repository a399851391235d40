-- What a program's own code answers.
use Rattle.std.specs.Prelude.{◌≡◌, ℕ, List, [], Option, Some, None}
use Rattle.pm_bytes.specs.declared.environment.Pair.{Pair}
use Rattle.pm_host.specs.Streams.{Gives}
use Rattle.pm_host.specs.declared.command.Command.{Command}
use Rattle.pm_host.specs.declared.answers.Got.{Got}
use Rattle.pm_host.specs.declared.answers.Got.TheVariants.{Got as GotSome, Failed as GotFailed}
use Rattle.pm_host.specs.declared.answers.Finished.{Finished}
use Rattle.pm_host.specs.declared.answers.Finished.TheVariants.{Code, Signal, Failed as FinishFailed}
use Rattle.pm_memory.specs.Source.{left_of, source_view}
use Rattle.formail_top.specs.Run.{Seen, Ended}
use Rattle.lockfile_top.specs.Promise.{Run, Promise}
use Rattle.pm_overlay.specs.declared.tool.Tool.{Tool}
use Rattle.pm_overlay.specs.declared.tool.Tool.TheVariants.{Formail, Lockfile}
use Rattle.explain_host.specs.declared.program.Program.{Program}
use Rattle.explain_host.specs.declared.program.Output.{Output}

-- a run of formail with these words read this input, wrote this output and ended with this code
pub record RunsFormail (words : List (List ℕ)) (vars : List Pair) (input : List ℕ) (code : ℕ) (output : List ℕ) : Type 0 where
  pub seen : Seen
  pub ended : Ended words vars code seen
  pub read : seen.source.bytes ≡ Some input
  pub unwritten : seen.out.bytes ≡ Some []
  pub written : seen.out'.bytes ≡ Some output

-- a run of lockfile with these words ended with this code
pub record RunsLockfile (words : List (List ℕ)) (vars : List Pair) (code : ℕ) : Type 0 where
  pub run : Run
  pub promise : Promise run
  pub words_are : run.words ≡ words
  pub vars_are : run.env.vars ≡ vars
  pub code_is : run.status ≡ code

-- the code and the output are those of a run of the program with this input; lockfile reads and writes nothing
abbrev pub Answers : Tool → Command → List ℕ → ℕ → List ℕ → Type 0
Answers Formail command input code output = RunsFormail command.args command.env input code output
Answers Lockfile command input code output = RunsLockfile command.args command.env code × (output ≡ [])

-- what the program answered, where it ran, and else what a run of it with its input answers
abbrev pub OutputOf : Option Output → Program → Output → Type 0
OutputOf (Some ran) program output = output ≡ ran
OutputOf None program output = Answers program.tool program.command program.input output.code (left_of output.left)

-- the program is as it was, but for its output
pub record SameBut (old new : Program) : Type 0 where
  pub tool : new.tool ≡ old.tool
  pub command : new.command ≡ old.command
  pub input : new.input ≡ old.input

-- the bytes that came are the next of its output, and its code stays
pub record GivesNext (most : ℕ) (got : Got) (room : List ℕ) (old new : Program) : Type 0 where
  pub output : Output
  pub right : OutputOf old.output old output
  pub rest : Output
  pub kept : new.output ≡ Some rest
  pub gives : Gives most got room (source_view output.left) (source_view rest.left)
  pub code : rest.code ≡ output.code
  pub same : SameBut old new

-- it ended with the code of its run
pub record EndsWith (code : ℕ) (old : Program) : Type 0 where
  pub output : Output
  pub right : OutputOf old.output old output
  pub code_is : code ≡ output.code
