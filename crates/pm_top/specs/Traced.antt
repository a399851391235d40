-- A run within the program: what its words and its source leave open is given by its callers.
use Rattle.std.specs.Prelude.{◌≡◌, ℕ, List, Some, None, IsSome, String}
use Rattle.std.specs.declared.alloc.Global.{Global}
use Rattle.pm_bytes.specs.declared.environment.Environ.{Environ}
use Rattle.pm_host.specs.Streams.{StreamView}
use Rattle.pm_top.specs.Words.{command_line}
use Rattle.pm_meaning.specs.declared.command_line.CommandLine.{CommandLine}
use Rattle.pm_meaning.specs.declared.status.Status.{Status}
use Rattle.pm_meaning.specs.declared.status.Status.TheVariants.{Usage, DataError, SystemError, InputOutput}
use Rattle.pm_run.specs.declared.process.Arrival.{Arrival}
use Rattle.pm_streams.specs.Reading.{Drained, ReadPast, StopsFailed}
use Rattle.pm_top.specs.Run.{Run}
use Rattle.pm_top.specs.Outcome.{Outcome}
use Rattle.pm_top.specs.Account.{Account}

-- the run went so, and this was done
pub record Traced (run : Run) : Type 0 where
  pub how : Outcome run
  pub account : Account run how

-- the words ask for this run, and the source gave its mail
abbrev pub Arrives : List (String Global) → Environ → Arrival → StreamView → StreamView → Type 0
Arrives words env arrival source rest =
    (command_line words ≡ Some arrival.line) × (arrival.env.now ≡ env) × Drained arrival.bytes source rest

-- Why no process begins, by the run's status: the words aren't read, and of the source nothing was. Or they are, and a
-- read failed, more bytes came than a message may have, or memory was wanting.
abbrev pub IsUnbegun : Status → List (String Global) → StreamView → StreamView → Type 0
IsUnbegun Usage words source rest = (command_line words ≡ None) × (rest ≡ source)
IsUnbegun InputOutput words source rest = IsSome (command_line words) × StopsFailed source rest
IsUnbegun DataError words source rest = IsSome (command_line words) × ReadPast source rest
IsUnbegun SystemError words source rest = IsSome (command_line words)
IsUnbegun other words source rest = ⊥

-- the trace of every command line that asks for this run, and of all sources that gave this message
abbrev pub RunsMail : CommandLine → List ℕ → (List (String Global) → StreamView → StreamView → Run) → Type 0
RunsMail line mail run =
    (words : List (String Global)) (source rest : StreamView) → command_line words ≡ Some line
    → Drained mail source rest → Traced (run words source rest)
