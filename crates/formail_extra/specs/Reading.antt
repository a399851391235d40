-- Which calls read the first 2,097,152 bytes of a cache.
use Rattle.std.specs.Prelude.{◌≡◌, ◌≤◌, ℕ, ◌+◌, ◌++◌, List, [], ◌∷◌, length}
use Rattle.pm_host.specs.Runs.{Ran, Transitions}
use Rattle.pm_host.specs.Told.{HostView, Makes}
use Rattle.pm_host.specs.declared.answers.Looked.TheVariants.{File as LookedFile, Folder as LookedFolder, Nothing}
use Rattle.pm_host.specs.declared.calls.Call.{Call}
use Rattle.pm_host.specs.declared.calls.Call.TheVariants.{Look, Read}
use Rattle.pm_host.specs.declared.calls.Answer.{Answer}
use Rattle.pm_host.specs.declared.calls.Answer.TheVariants.{Look as AnswerLook, Read as AnswerRead, Failed as AnswerFailed}
use Rattle.pm_host.specs.declared.calls.Logged.{Logged}
use Rattle.formail_extra.specs.declared.reading.CacheRead.{CacheRead}
use Rattle.formail_extra.specs.declared.reading.CacheRead.TheVariants.{Whole, Front, Missing, Folder, Failed}
use Rattle.formail_extra.specs.declared.reading.Came.{Came}
use Rattle.formail_extra.specs.declared.reading.Came.TheVariants.{More, End, Failed as CameFailed}

-- where the reading of a cache stands
pub data CacheState : Type 0 where
  CacheLooking : CacheState
  -- these bytes came so far
  CacheOn : List ℕ → CacheState
  CacheEnded : CacheRead → CacheState

-- a `read` that may be made after these bytes
pub record IsNextRead (name so_far : List ℕ) (call : Call) : Type 0 where
  pub room : ℕ
  pub is : call ≡ Read name (length so_far) room
  pub some : 1 ≤ room
  pub bounded : length so_far + room ≤ 2097152

-- the call by which a reading that stands so goes on
abbrev pub CacheAsks : List ℕ → CacheState → Call → Type 0
CacheAsks name CacheLooking call = call ≡ Look name
CacheAsks name (CacheOn so_far) call = IsNextRead name so_far call
CacheAsks name (CacheEnded end) call = ⊥

-- after a `read` that gave these bytes; none is the end of the file
abbrev pub more_came : List ℕ → List ℕ → CacheState
more_came so_far [] = CacheEnded (Whole so_far)
more_came so_far (b ∷ more) = CacheOn (so_far ++ b ∷ more)

-- after the `look`
abbrev pub heard_first : Answer → CacheState
heard_first (AnswerLook (LookedFile len)) = CacheOn []
heard_first (AnswerLook LookedFolder) = CacheEnded Folder
heard_first (AnswerLook Nothing) = CacheEnded Missing
heard_first other = CacheEnded Failed

-- after a `read`
abbrev pub heard_read : List ℕ → Answer → CacheState
heard_read so_far (AnswerRead more) = more_came so_far more
heard_read so_far other = CacheEnded Failed

-- how the reading goes on after an answer
abbrev pub cache_heard : CacheState → Answer → CacheState
cache_heard CacheLooking answer = heard_first answer
cache_heard (CacheOn so_far) answer = heard_read so_far answer
cache_heard (CacheEnded end) answer = CacheEnded end

-- the reading ends here so
abbrev pub CacheDone : CacheState → CacheRead → Type 0
CacheDone CacheLooking end = ⊥
CacheDone (CacheOn so_far) end = (length so_far ≡ 2097152) × (end ≡ Front so_far)
CacheDone (CacheEnded e) end = end ≡ e

-- the cache was read so far
pub record ReadsTo (name : List ℕ) (at : CacheState) (before after : HostView) : Type 0 where
  pub calls : List Logged
  pub ran : Ran calls before after
  pub walk : Transitions (CacheAsks name) cache_heard CacheLooking calls at

-- the reading ended so
pub record ReadsCache (name : List ℕ) (end : CacheRead) (before after : HostView) : Type 0 where
  pub at : CacheState
  pub reads : ReadsTo name at before after
  pub done : CacheDone at end

-- no more bytes came than are looked through
abbrev pub IsFew : CacheRead → Type 0
IsFew (Whole bytes) = length bytes ≤ 2097152
IsFew (Front bytes) = length bytes ≤ 2097152
IsFew other = Unit {0}

-- what the answer brought
abbrev pub Brings : Came → Answer → List ℕ → List ℕ → Type 0
Brings More answer old new = (part : List ℕ) × (answer ≡ AnswerRead part) × (1 ≤ length part) × (new ≡ old ++ part)
Brings End answer old new = (answer ≡ AnswerRead []) × (new ≡ old)
Brings CameFailed answer old new = (answer ≡ AnswerFailed) × (new ≡ old)

-- one `read` from where the bytes so far end: what the host answered, and what it brought
pub record MakesRead (name : List ℕ) (room : ℕ) (old : List ℕ) (came : Came) (new : List ℕ) (before after : HostView) : Type 0 where
  pub answer : Answer
  pub makes : Makes (Read name (length old) room) answer before after
  pub brings : Brings came answer old new
