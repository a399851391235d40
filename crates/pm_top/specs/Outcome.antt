-- How a run went.
use Rattle.std.specs.Prelude.{◌≡◌, ℕ, List, [], ◌++◌, Some, None, codes}
use Rattle.pm_host.specs.Streams.{StreamView}
use Rattle.pm_host.specs.declared.calls.Logged.{Logged}
use Rattle.pm_journal.specs.Held.{Keeps, AreUnlocks}
use Rattle.pm_journal.specs.Walking.{Means, IsUnfinished}
use Rattle.pm_journal.specs.declared.acts.Entry.{Entry}
use Rattle.pm_append.specs.Writing.{WritesText}
use Rattle.pm_journal.specs.declared.saying.WriteEnd.{WriteEnd}
use Rattle.pm_top.specs.Words.{command_line}
use Rattle.pm_meaning.specs.Courses.{advance, run_of}
use Rattle.pm_meaning.specs.Status.{status_number}
use Rattle.pm_meaning.specs.declared.command_line.CommandLine.{CommandLine}
use Rattle.pm_meaning.specs.declared.process.End.{End}
use Rattle.pm_meaning.specs.declared.process.End.TheVariants.{NoRc}
use Rattle.pm_meaning.specs.declared.ending.Ending.{Ending}
use Rattle.pm_meaning.specs.declared.status.Status.{Status}
use Rattle.pm_meaning.specs.declared.status.Status.TheVariants.{Usage, DataError, NoInput, SystemError, InputOutput}
use Rattle.pm_run.specs.RunningOut.{RunMayRunOut, RanOutAt}
use Rattle.pm_streams.specs.Reading.{Drained, ReadPast, StopsFailed}
use Rattle.pm_top.specs.Run.{Run}

-- the line that is said before these statuses
abbrev pub status_line : Status → List ℕ
status_line Usage = codes "procmail: Bad words\n"
status_line DataError = codes "procmail: Message too long\n"
status_line NoInput = codes "procmail: No rcfile\n"
status_line SystemError = codes "procmail: Out of memory\n"
status_line InputOutput = codes "procmail: Couldn't read the message\n"
status_line other = []

-- `err` took this line, or a front of it where its count of faults rose
pub record SaysLine (line : List ℕ) (before after : StreamView) : Type 0 where
  pub end : WriteEnd
  pub writes : WritesText line end before after

-- a mail filter whose rcfile wasn't read says a line at its end, and others say none
abbrev pub LastLine : End → StreamView → StreamView → Type 0
LastLine NoRc before after = SaysLine (status_line NoInput) before after
LastLine other before after = after ≡ before

-- the host took no call, nothing was noted, and this status's line was said
pub record Refused (status : Status) (run : Run) : Type 0 where
  pub status_is : run.status ≡ status_number status
  pub nothing : run.entries ≡ []
  pub host_same : run.after.host ≡ run.before.host
  pub out_same : run.after.out ≡ run.before.out
  pub said : SaysLine (status_line status) run.before.err run.after.err

-- the words aren't read, and of the source nothing was read
pub record BadWords (run : Run) : Type 0 where
  pub unread : command_line run.words ≡ None
  pub source_same : run.rest ≡ run.source
  pub refused : Refused Usage run

-- a read of the source failed, and it was the last
pub record ReadFault (run : Run) : Type 0 where
  pub line : CommandLine
  pub read : command_line run.words ≡ Some line
  pub stopped : StopsFailed run.source run.rest
  pub refused : Refused InputOutput run

-- more bytes came than a message may have
pub record TooLong (run : Run) : Type 0 where
  pub line : CommandLine
  pub read : command_line run.words ≡ Some line
  pub past : ReadPast run.source run.rest
  pub refused : Refused DataError run

-- memory was wanting before the host took a call
pub record NotBegun (run : Run) : Type 0 where
  pub line : CommandLine
  pub read : command_line run.words ≡ Some line
  pub refused : Refused SystemError run

-- Memory was wanting in the process, where it may be: after its entries it wanted an act, of which at most some calls were
-- made, and then the locks that it held were given back.
pub record LeftOff (run : Run) : Type 0 where
  pub status_is : run.status ≡ status_number SystemError
  pub line : CommandLine
  pub read : command_line run.words ≡ Some line
  pub mail : List ℕ
  pub drained : Drained mail run.source run.rest
  pub done : List Entry
  pub left_off : List Logged
  pub unfinished : IsUnfinished {X = Ending} advance (run_of line run.env mail) done left_off
  pub place : RanOutAt {X = Ending} advance RunMayRunOut (run_of line run.env mail) done left_off
  pub held : List (List ℕ)
  pub kept : Keeps [] done held
  pub given : List Entry
  pub unlocks : AreUnlocks held given
  pub entries_are : run.entries ≡ done ++ given

-- The source was read whole, what the run noted is the meaning of the words, the environment and the message
-- over its replies, and the status is the one of that meaning's end.
pub record HasMeaning (run : Run) : Type 0 where
  pub line : CommandLine
  pub read : command_line run.words ≡ Some line
  pub mail : List ℕ
  pub drained : Drained mail run.source run.rest
  pub ending : Ending
  pub means : Means advance (run_of line run.env mail) run.entries ending
  pub status_is : run.status ≡ ending.status

-- how a run went
pub data Outcome (run : Run) : Type 0 where
  bad_words : BadWords run → Outcome run
  read_fault : ReadFault run → Outcome run
  too_long : TooLong run → Outcome run
  not_begun : NotBegun run → Outcome run
  left_off : LeftOff run → Outcome run
  meant : HasMeaning run → Outcome run
