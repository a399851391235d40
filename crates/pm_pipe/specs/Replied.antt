-- What an act answers, or that memory ran out in it.
use Rattle.std.specs.Prelude.{◌≡◌, Option, Some, None, Result, Ok, Err}
use Rattle.pm_bytes.specs.declared.error.Memory.{Memory}
use Rattle.pm_host.specs.Told.{HostView}
use Rattle.pm_journal.specs.declared.acts.Counts.{Counts}
use Rattle.pm_journal.specs.declared.acts.Reply.{Reply}
use Rattle.pm_pipe.specs.declared.noting.SinkFaults.{SinkFaults}

-- the reply, or none if memory ran out
abbrev pub AreReply : Option Reply → Result Reply Memory → Type 0
AreReply (Some reply) (Ok answer) = answer ≡ reply
AreReply None (Err e) = Unit {0}
AreReply (Some reply) (Err e) = ⊥
AreReply None (Ok answer) = ⊥

-- the counts of faults of a run, with these of its sinks
abbrev pub counts_with : SinkFaults → HostView → Counts
counts_with sinks host = record { host = host.faults; out = sinks.out; err = sinks.err }
