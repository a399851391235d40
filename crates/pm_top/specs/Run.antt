-- What a run of the program was given, and what was told of it.
use Rattle.std.specs.Prelude.{ℕ, List, String}
use Rattle.std.specs.declared.alloc.Global.{Global}
use Rattle.pm_bytes.specs.declared.environment.Environ.{Environ}
use Rattle.pm_host.specs.Streams.{StreamView}
use Rattle.pm_journal.specs.Entries.{View}
use Rattle.pm_journal.specs.declared.acts.Entry.{Entry}

-- the words and the environment of a run, its exit status, and what was told before it and after it
pub record Run : Type 0 where
  pub words : List (String Global)
  pub env : Environ
  pub status : ℕ
  -- the source before the run and after it
  pub source : StreamView
  pub rest : StreamView
  -- what the run noted
  pub entries : List Entry
  -- the host and the two sinks before the run and after it
  pub before : View
  pub after : View
