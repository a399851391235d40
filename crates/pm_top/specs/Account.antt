-- What was done in a run, in order.
use Rattle.std.specs.Prelude.{◌≡◌, List, [], ◌++◌}
use Rattle.pm_host.specs.Streams.{StreamView}
use Rattle.pm_host.specs.declared.calls.Logged.{Logged}
use Rattle.pm_journal.specs.Entries.{View, Accounts}
use Rattle.pm_journal.specs.Executed.{TakesCalls}
use Rattle.pm_journal.specs.declared.acts.Entry.{Entry}
use Rattle.pm_meaning.specs.declared.status.Status.TheVariants.{Usage, DataError, SystemError, InputOutput}
use Rattle.pm_top.specs.Run.{Run}
use Rattle.pm_top.specs.Outcome.{SaysLine, LastLine, status_line, Outcome, bad_words, read_fault, too_long, not_begun, left_off, meant}

-- the entries up to the end of the run, or up to the want of memory in which it was left off
abbrev pub done_in : (run : Run) → Outcome run → List Entry
done_in run (left_off h) = h.done
done_in run other = run.entries

-- the calls of the act that was left off
abbrev pub calls_in : (run : Run) → Outcome run → List Logged
calls_in run (left_off h) = h.left_off
calls_in run other = []

-- the unlocks after them
abbrev pub given_in : (run : Run) → Outcome run → List Entry
given_in run (left_off h) = h.given
given_in run other = []

-- only a run that was left off goes on after its entries
abbrev pub StopsAt : (run : Run) → Outcome run → View → View → Type 0
StopsAt run (left_off h) middle last = Unit {0}
StopsAt run other middle last = last ≡ middle

-- the last line on `err`, by how the run went
abbrev pub SaysLast : (run : Run) → Outcome run → StreamView → StreamView → Type 0
SaysLast run (bad_words h) before after = SaysLine (status_line Usage) before after
SaysLast run (read_fault h) before after = SaysLine (status_line InputOutput) before after
SaysLast run (too_long h) before after = SaysLine (status_line DataError) before after
SaysLast run (not_begun h) before after = SaysLine (status_line SystemError) before after
SaysLast run (left_off h) before after = SaysLine (status_line SystemError) before after
SaysLast run (meant h) before after = LastLine h.ending.end before after

-- What was done in a run that went so: its entries up to the end or to a want of memory, the calls of the act
-- that was then left off, the unlocks of the locks that were still held, and at last a line on `err`.
pub record Account (run : Run) (how : Outcome run) : Type 0 where
  pub entries_are : run.entries ≡ done_in run how ++ given_in run how
  pub middle : View
  pub accounts : Accounts (done_in run how) run.before middle
  pub later : View
  pub took : TakesCalls (calls_in run how) middle later
  pub last : View
  pub back : Accounts (given_in run how) later last
  pub stops : StopsAt run how middle last
  pub host_same : run.after.host ≡ last.host
  pub out_same : run.after.out ≡ last.out
  pub said : SaysLast run how last.err run.after.err
