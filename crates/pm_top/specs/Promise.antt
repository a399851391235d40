-- What is promised of every run.
use Rattle.std.specs.Prelude.{◌≡◌, ◌<◌, ◌⊎◌, List, ℕ, ◌++◌, length, Some, None}
use Rattle.pm_host.specs.Told.{Tells, Adds, Rose}
use Rattle.pm_host.specs.Runs.{Ran, after_calls}
use Rattle.pm_host.specs.declared.answers.Child.TheVariants.{NoChild}
use Rattle.pm_journal.specs.Entries.{counts_of, view_of, Honest, joined, after_entries, all_said, all_written, Frame, AllCovered}
use Rattle.pm_journal.specs.declared.acts.Counts.{Counts}
use Rattle.pm_journal.specs.Deliveries.{all_folders, asked_folders, AllDelivered, AllGrow}
use Rattle.pm_journal.specs.Held.{AllGivenBack, AllLeftFaulted}
use Rattle.pm_journal.specs.Laws.{SomeFaulty}
use Rattle.pm_meaning.specs.Completeness.{IsClear, EndsWell}
use Rattle.pm_meaning.specs.EndStatus.{EndsBy}
use Rattle.pm_meaning.specs.Courses.{run_of}
use Rattle.pm_meaning.specs.Laws.{StoredIsDone}
use Rattle.pm_meaning.specs.RunLaws.{DeliversLast}
use Rattle.pm_meaning.specs.declared.process.End.TheVariants.{Delivered}
use Rattle.pm_run.specs.NotDelivered.{HasNotDelivered}
use Rattle.pm_top.specs.Words.{command_line}
use Rattle.pm_top.specs.Run.{Run}
use Rattle.pm_top.specs.Outcome.{BadWords, ReadFault, TooLong, NotBegun, LeftOff, HasMeaning, Outcome, left_off}
use Rattle.pm_top.specs.Account.{done_in, calls_in, given_in, Account}

-- the run ended before the host took a call: its words weren't read, a read failed, or too many bytes came
abbrev pub IsRefused : Run → Type 0
IsRefused run = BadWords run ⊎ (ReadFault run ⊎ TooLong run)

-- memory was wanting, before the process began or in it
abbrev pub IsStarved : Run → Type 0
IsStarved run = NotBegun run ⊎ LeftOff run

-- The tree is what the entries, the calls of an act that was left off and the unlocks make of the tree at the
-- beginning, and the sinks took what the entries say, `err` besides its last line.
pub record HasState (run : Run) (how : Outcome run) (account : Account run how) : Type 0 where
  pub tree : Tells (λ old new. new ≡ after_entries (given_in run how) account.back.groups
      (after_calls (calls_in run how) (after_entries (done_in run how) account.accounts.groups old)))
      run.before.host.world run.after.host.world
  pub written : Tells (Adds (all_written run.entries)) run.before.out.bytes run.after.out.bytes
  pub said : Tells (Adds (all_said run.entries)) run.before.err.bytes account.last.err.bytes

-- Each act left what its reply says: a done append its piece, a torn one the front that it states, a placed piece one
-- new file, a program that ran what others did meanwhile; and an act that states nothing of the kind changed nothing.
abbrev pub HasDelivered : (run : Run) (how : Outcome run) → Account run how → Type 0
HasDelivered run how account =
    Tells (λ old new. AllDelivered (done_in run how) account.accounts.groups old)
    run.before.host.world account.middle.host.world

-- the folders that a run makes where nothing stands: those of its entries, and those that an act asked for that was left off
abbrev pub folders_of_run : (run : Run) → Outcome run → List (List ℕ)
folders_of_run run how = all_folders run.entries ++ asked_folders (calls_in run how)

-- In the end each file has its opening bytes and what the entries added to it, in order, and nothing else. Where none
-- wrote exactly that stands which stood, or one of those folders where nothing stood. That is so at each name that isn't
-- a lock file's and that others leave alone.
abbrev pub HasGrown : (run : Run) → Outcome run → Type 0
HasGrown run how = Tells (AllGrow run.entries (folders_of_run run how)) run.before.host.world run.after.host.world

-- the counts of faults at the end of the run, before its last line
abbrev pub last_counts : (run : Run) (how : Outcome run) → Account run how → Counts
last_counts run how account = counts_of (view_of run.after.host run.after.out account.last.err)

-- Each count of faults is the one that the entry before left, from the beginning of the run to its last line;
-- where an act was left off, up to it and from it on.
abbrev pub IsFramed : (run : Run) (how : Outcome run) → Account run how → Type 0
IsFramed run (left_off h) account =
    Frame h.done (counts_of run.before) (counts_of account.middle)
    × Frame h.given (counts_of account.later) (last_counts run (left_off h) account)
IsFramed run other account =
    Frame run.entries (counts_of run.before) (last_counts run other account)

-- Each entry has the calls of its protocol, in order, and a host took these calls and those of an act that
-- was left off and no others; a reply that tells of a fault has the count of its own object risen.
pub record HasCauses (run : Run) (how : Outcome run) (account : Account run how) : Type 0 where
  pub honest : Honest run.entries (account.accounts.groups ++ account.back.groups)
  pub ran : Ran (joined account.accounts.groups ++ calls_in run how ++ joined account.back.groups)
      run.before.host run.after.host
  pub framed : IsFramed run how account
  pub covered : AllCovered run.entries

-- How a run ends by what came: words that aren't read, a failed read, or more bytes than a message may have;
-- and what came where it ends with one of their statuses, unless the meaning gives that status.
pub record Refuses (run : Run) : Type 0 where
  pub unread : command_line run.words ≡ None → BadWords run
  pub faulted : (old new : List ℕ) → run.source.bytes ≡ Some old → run.rest.bytes ≡ Some new
      → run.source.faults < run.rest.faults → ReadFault run ⊎ NotBegun run
  pub over : (old new : List ℕ) → run.source.bytes ≡ Some old → run.rest.bytes ≡ Some new
      → 67108864 < length old → IsRefused run ⊎ NotBegun run
  pub on_64 : run.status ≡ 64 → BadWords run ⊎ HasMeaning run
  pub on_65 : run.status ≡ 65 → TooLong run ⊎ HasMeaning run
  pub on_66 : run.status ≡ 66 → HasMeaning run
  pub on_74 : run.status ≡ 74 → ReadFault run ⊎ HasMeaning run

-- what is promised of a run: how it went and the account of what was done, of which the rest speaks
pub record Promise (run : Run) : Type 0 where
  pub how : Outcome run
  pub account : Account run how
  -- the entries are the meaning of every run that was neither refused nor starved
  pub meaning : IsRefused run ⊎ (IsStarved run ⊎ HasMeaning run)
  -- its status is that of its first process's end
  pub status : (h : HasMeaning run) → EndsBy (run_of h.line run.env h.mail) run.entries h.ending
  -- the files and the sinks are what the account makes of them
  pub state : HasState run how account
  -- each act left in the files what its reply says
  pub deliveries : HasDelivered run how account
  -- in the end each file has its opening bytes and what the entries added to it, in order, and nothing else
  pub files : HasGrown run how
  -- a mailbox action counts as done only where each of its destinations got the mail
  pub stored : StoredIsDone
  -- where the first process ends as delivered, its last acts put the mail whole in each of its destinations
  pub delivered : (h : HasMeaning run) → h.ending.end ≡ Delivered → DeliversLast (run_of h.line run.env h.mail) run.entries h.ending
  -- each lock that was taken was given back
  pub locks : AllGivenBack run.entries
  -- a lock file that is left has an unlock that failed
  pub left : AllLeftFaulted run.entries
  -- no call is hidden, and no fault is invented
  pub causes : HasCauses run how account
  -- what came decides how a run is refused
  pub refusals : Refuses run
  -- where memory was wanting in the process no recipe had delivered the mail for good, but for what stands in the way of that
  pub undelivered : (h : LeftOff run) → HasNotDelivered h.place.at h.place.begun
  -- a run with status 71 was starved, or its meaning gives that status
  pub memory : run.status ≡ 71 → IsStarved run ⊎ HasMeaning run
  -- where nothing stands in its way, the first process delivers the mail or goes off on another host, and the status is that of this end
  pub complete : (h : HasMeaning run) → IsClear (run_of h.line run.env h.mail) run.entries
      → EndsWell (run_of h.line run.env h.mail) run.entries h.ending
  -- where an entry of the host's tells of a fault, the host's count rose in the run
  pub faultless : SomeFaulty run.entries → Rose run.before.host.faults run.after.host.faults
  -- no child runs afterwards
  pub children : run.after.host.child ≡ NoChild
