-- What a run of formail does.
use Rattle.std.specs.Prelude.{◌≡◌, ◌⊎◌, ℕ, ℤ, Bool, true, false, Option, Some, None, List, codes, if◌then◌else◌}
use Rattle.std.specs.List.{list_any}
use Rattle.pm_host.specs.Told.{HostView, Makes, Tells}
use Rattle.pm_host.specs.Streams.{StreamView}
use Rattle.pm_host.specs.declared.calls.Call.TheVariants.{Now}
use Rattle.pm_host.specs.declared.calls.Answer.TheVariants.{Now as AnswerNow}
use Rattle.pm_streams.specs.Reading.{Drained, ReadPast, StopsFailed}
use Rattle.pm_streams.specs.Writing.{WritesText}
use Rattle.pm_streams.specs.declared.writing.WriteEnd.{WriteEnd}
use Rattle.pm_streams.specs.declared.writing.WriteEnd.TheVariants.{Wrote, Short}
use Rattle.pm_bytes.specs.declared.environment.Pair.{Pair}
use Rattle.pm_host.specs.declared.command.Command.{Command}
use Rattle.formail_split.specs.Feeding.{FeedsEach}
use Rattle.formail_split.specs.declared.feeding.Outcome.{Outcome}
use Rattle.formail_split.specs.declared.feeding.Outcome.TheVariants.{Fine, Amiss, Failed}
use Rattle.formail_extra.specs.Stepping.{cache_at, Steps}
use Rattle.formail_extra.specs.Tree.{StepsRight}
use Rattle.formail_extra.specs.declared.stepping.CacheEnd.{CacheEnd}
use Rattle.formail_extra.specs.declared.stepping.CacheEnd.TheVariants.{Kept, Busy, IsFolder, Failed as CacheFailed, Memory, Raced}
use Rattle.formail_top.specs.Asked.{request_for}
use Rattle.formail_top.specs.Outputs.{mails_of, wants_moment, outputs_of, each_output_of, ids_of, kept_of}
use Rattle.formail_top.specs.declared.request.Request.{Request}
use Rattle.formail_top.specs.declared.settings.Cache.{Cache}

-- the host was asked for the moment, and took no other call
abbrev pub Asks : ℤ → HostView → HostView → Type 0
Asks moment before after = Makes Now (AnswerNow moment) before after

-- the host took at most that call
abbrev pub AsksAtMost : HostView → HostView → Type 0
AsksAtMost before after = (after ≡ before) ⊎ ((moment : ℤ) × Asks moment before after)

-- where the moment is wanted it is the host's, and else the host took no call
abbrev pub AsksIf : Bool → ℤ → HostView → HostView → Type 0
AsksIf true moment before after = Asks moment before after
AsksIf false moment before after = after ≡ before

-- the output for some mails, with the host's moment where that is wanted
pub record IsOutput (request : Request) (mails : List (List ℕ)) (text : List ℕ) (before after : HostView) : Type 0 where
  pub moment : ℤ
  pub asks : AsksIf (wants_moment request mails) moment before after
  pub outputs : text ≡ outputs_of request moment mails

-- what was told before and after a run
pub record Seen : Type 0 where
  pub source : StreamView
  pub source' : StreamView
  pub host : HostView
  pub host' : HostView
  pub out : StreamView
  pub out' : StreamView

-- the host and the sink took no call
pub record Untouched (seen : Seen) : Type 0 where
  pub host_same : seen.host' ≡ seen.host
  pub out_same : seen.out' ≡ seen.out

-- 0 says that all was written, and 74 that less was
abbrev pub IsWriteStatus : ℕ → WriteEnd → Type 0
IsWriteStatus status Wrote = status ≡ 0
IsWriteStatus status (Short n) = status ≡ 74

-- the text was written, or a front of it
pub record WritesAll (text : List ℕ) (status : ℕ) (before after : StreamView) : Type 0 where
  pub end : WriteEnd
  pub written : WritesText text end before after
  pub status_is : IsWriteStatus status end

-- the output for some mails was written, or a front of it
pub record Writes (request : Request) (mails : List (List ℕ)) (status : ℕ) (host host' : HostView) (out out' : StreamView) : Type 0 where
  pub text : List ℕ
  pub output : IsOutput request mails text host host'
  pub written : WritesAll text status out out'

-- the program after `-s` with its words, the environment of the run, and its folder
abbrev pub command_for : List Pair → List ℕ → List (List ℕ) → Command
command_for vars program arguments = record { program = program; args = arguments; env = vars; folder = codes "." }

-- 0 says that each child took all and ended with code 0, 1 that one didn't, and 74 that a call failed
abbrev pub feed_status : Outcome → ℕ
feed_status Fine = 0
feed_status Amiss = 1
feed_status Failed = 74

-- the moment was asked for where it is wanted, and then each mail's output was given to a child of its own
pub record Feeds (command : Command) (request : Request) (mails : List (List ℕ)) (status : ℕ) (host host' : HostView) : Type 0 where
  pub moment : ℤ
  pub middle : HostView
  pub asks : AsksIf (wants_moment request mails) moment host middle
  pub outcome : Outcome
  pub feeds : FeedsEach command (each_output_of request moment mails) outcome middle host'
  pub status_is : status ≡ feed_status outcome

-- what became of the output: without a program it was written, or a front of it; with one each mail's output was given
-- to a child of its own, and nothing was written
abbrev pub Puts : Option (List ℕ) → Request → List Pair → List (List ℕ) → ℕ → HostView → HostView → StreamView → StreamView → Type 0
Puts None request vars mails status host host' out out' = Writes request mails status host host' out out'
Puts (Some program) request vars mails status host host' out out' =
    Feeds (command_for vars program request.arguments) request mails status host host' × (out' ≡ out)

-- the host and the sink took no call, and the status is this
abbrev pub Stops : ℕ → ℕ → HostView → HostView → StreamView → StreamView → Type 0
Stops wanted status host host' out out' = (status ≡ wanted) × (host' ≡ host) × (out' ≡ out)

-- 1 says that a mail is kept, and 0 that none is
abbrev pub kept_status : List Bool → ℕ
kept_status kept = if list_any (λ keep. keep) kept then 1 else 0

-- what is done with the mails once they are marked: under `-s` those that are kept are put where the words ask for, and
-- else the status says whether the mail is kept
abbrev pub PutsKept : Bool → List Bool → Request → List Pair → List (List ℕ) → ℕ → HostView → HostView → StreamView → StreamView → Type 0
PutsKept true kept request vars mails status host host' out out' =
    Puts request.program request vars (kept_of kept mails) status host host' out out'
PutsKept false kept request vars mails status host host' out out' = Stops (kept_status kept) status host host' out out'

-- what is done after the step with the cache: 73 says that its lock was held by others, that a directory is at its name or
-- that others made the file meanwhile, and 74 that a call failed
abbrev pub AfterStep : CacheEnd → Request → List Pair → List (List ℕ) → ℕ → HostView → HostView → StreamView → StreamView → Type 0
AfterStep (Kept kept) request vars mails status host host' out out' =
    PutsKept request.split kept request vars mails status host host' out out'
AfterStep Busy request vars mails status host host' out out' = Stops 73 status host host' out out'
AfterStep IsFolder request vars mails status host host' out out' = Stops 73 status host host' out out'
AfterStep CacheFailed request vars mails status host host' out out' = Stops 74 status host host' out out'
AfterStep Memory request vars mails status host host' out out' = ⊥
AfterStep Raced request vars mails status host host' out out' = Stops 73 status host host' out out'

-- the step with the cache whose name and bound the words give
abbrev pub StepsWith : Cache → List (Option (List ℕ)) → CacheEnd → HostView → HostView → Type 0
StepsWith cache ids end before after = Steps (cache_at cache.name cache.most) ids end before after

-- The mails were held against the cache, and treated by what came of that. Of a tree that is told it is stated what the
-- step with the cache made of it.
pub record Remembers (cache : Cache) (request : Request) (vars : List Pair) (mails : List (List ℕ)) (status : ℕ) (host host' : HostView) (out out' : StreamView) : Type 0 where
  pub end : CacheEnd
  pub middle : HostView
  pub steps : StepsWith cache (ids_of request mails) end host middle
  pub tree : Tells (StepsRight (cache_at cache.name cache.most) (ids_of request mails) end) host.world middle.world
  pub after : AfterStep end request vars mails status middle host' out out'

-- what became of the mails, without `-D` or with it
abbrev pub Treats : Option Cache → Request → List Pair → List (List ℕ) → ℕ → HostView → HostView → StreamView → StreamView → Type 0
Treats None request vars mails status host host' out out' =
    Puts request.program request vars mails status host host' out out'
Treats (Some cache) request vars mails status host host' out out' =
    Remembers cache request vars mails status host host' out out'

-- where memory was wanting beside a cache: nothing was asked; or the cache was used whole, and then the moment was asked
-- for at most
pub data LeavesCache (cache : Cache) (before after : HostView) : Type 0 where
  untouched : after ≡ before → LeavesCache cache before after
  used : (ids : List (Option (List ℕ))) (end : CacheEnd) (middle : HostView) → StepsWith cache ids end before middle
      → AsksAtMost middle after → LeavesCache cache before after

-- where memory was wanting, without `-D` or with it
abbrev pub Leaves : Option Cache → HostView → HostView → Type 0
Leaves None before after = AsksAtMost before after
Leaves (Some cache) before after = LeavesCache cache before after

-- the words are read, and ask for this
abbrev pub AsksFor : List (List ℕ) → Request → Type 0
AsksFor words request = request_for words ≡ Some request

-- where memory was wanting: the host took no call, or those that the words allow before a mail is put anywhere
pub data LeavesOff (words : List (List ℕ)) (before after : HostView) : Type 0 where
  unasked : after ≡ before → LeavesOff words before after
  asked : (request : Request) → AsksFor words request → Leaves request.cache before after → LeavesOff words before after

-- memory was wanting, and the sink took no call
pub record Unwritten (words : List (List ℕ)) (seen : Seen) : Type 0 where
  pub host_left : LeavesOff words seen.host seen.host'
  pub out_same : seen.out' ≡ seen.out

-- how a run ended: by its status 64 the words weren't read and nothing was done; by 65 the input was too long, and by
-- 74 a read failed, and nothing was written; by 71 memory was wanting, and nothing was written; by 0, 1, 73 or 74 the
-- mails were treated as the words ask for
pub data Ended (words : List (List ℕ)) (vars : List Pair) (status : ℕ) (seen : Seen) : Type 0 where
  unread : status ≡ 64 → request_for words ≡ None → seen.source' ≡ seen.source → Untouched seen
      → Ended words vars status seen
  too_long : status ≡ 65 → (request : Request) → AsksFor words request → ReadPast seen.source seen.source'
      → Untouched seen → Ended words vars status seen
  lost : status ≡ 74 → (request : Request) → AsksFor words request → StopsFailed seen.source seen.source'
      → Untouched seen → Ended words vars status seen
  memory : status ≡ 71 → Unwritten words seen → Ended words vars status seen
  put : (request : Request) → AsksFor words request → (bytes : List ℕ) → Drained bytes seen.source seen.source'
      → Treats request.cache request vars (mails_of request bytes) status seen.host seen.host' seen.out seen.out'
      → Ended words vars status seen
