-- A cache is used under its lock.
use Rattle.std.specs.Prelude.{◌≡◌, ℕ, Bool, Option, Some, None, List, [], ◌++◌, codes}
use Rattle.pm_host.specs.Told.{HostView, Makes}
use Rattle.pm_host.specs.declared.answers.Removed.{Removed}
use Rattle.pm_host.specs.declared.answers.Removed.TheVariants.{Failed as RemovedFailed}
use Rattle.pm_host.specs.declared.calls.Call.TheVariants.{Remove}
use Rattle.pm_host.specs.declared.calls.Answer.TheVariants.{Remove as AnswerRemove}
use Rattle.pm_journal.specs.Locking.{TakesLock}
use Rattle.pm_journal.specs.declared.locking.LockRule.{LockRule}
use Rattle.pm_journal.specs.declared.locking.LockEnd.TheVariants.{Held, Busy as LockBusy, Failed as LockFailed}
use Rattle.formail_extra.specs.Cache.{marks_of}
use Rattle.formail_extra.specs.Adding.{HoldsAll}
use Rattle.formail_extra.specs.Reading.{ReadsCache}
use Rattle.formail_extra.specs.declared.reading.CacheRead.TheVariants.{Whole, Front, Missing, Folder, Failed as ReadFailed}
use Rattle.formail_extra.specs.declared.adding.Written.{Written}
use Rattle.formail_extra.specs.declared.adding.Written.TheVariants.{Done, IsFolder, Raced, Failed}
use Rattle.formail_extra.specs.declared.stepping.Cache.{Cache}
use Rattle.formail_extra.specs.declared.stepping.CacheEnd.{CacheEnd}
use Rattle.formail_extra.specs.declared.stepping.CacheEnd.TheVariants.{Kept, Busy, IsFolder as EndFolder, Failed as EndFailed, Memory, Raced as EndRaced}

-- the cache of this name, which begins anew once it has so many bytes; its lock file is the name with `.lock` after it
abbrev pub cache_at : List ℕ → ℕ → Cache
cache_at name most = record { most = most; name = name; lock = name ++ codes ".lock" }

-- 1,000 tries with sleeps of 8 seconds; a lock file older than 1,024 seconds is removed by force, with a pause of 16
abbrev pub cache_rule : LockRule
cache_rule = record { sleep = 8; limit = 1024; suspend = 16; tries = 1000 }

-- the end, by how the writing ended
abbrev pub end_of : Written → List Bool → CacheEnd
end_of Done kept = Kept kept
end_of IsFolder kept = EndFolder
end_of Raced kept = EndRaced
end_of Failed kept = EndFailed

-- the mails were held against a cache of these bytes, and what is new was added
pub record Remembers (cache : Cache) (old : List ℕ) (ids : List (Option (List ℕ))) (end : CacheEnd) (before after : HostView) : Type 0 where
  pub written : Written
  pub holds : HoldsAll cache.name cache.most old ids written before after
  pub is : end ≡ end_of written (marks_of cache.most old ids).kept

-- the first 2,097,152 bytes of the cache were read, and what is new was added to it; a cache that is absent has none
pub data Uses (cache : Cache) (ids : List (Option (List ℕ))) (end : CacheEnd) (before after : HostView) : Type 0 where
  came : (bytes : List ℕ) (middle : HostView) → ReadsCache cache.name (Whole bytes) before middle
      → Remembers cache bytes ids end middle after → Uses cache ids end before after
  too_long : (bytes : List ℕ) (middle : HostView) → ReadsCache cache.name (Front bytes) before middle
      → Remembers cache bytes ids end middle after → Uses cache ids end before after
  absent : (middle : HostView) → ReadsCache cache.name Missing before middle
      → Remembers cache [] ids end middle after → Uses cache ids end before after
  folder : end ≡ EndFolder → ReadsCache cache.name Folder before after → Uses cache ids end before after
  unread : end ≡ EndFailed → ReadsCache cache.name ReadFailed before after → Uses cache ids end before after

-- the end, once the lock file was removed
abbrev pub given_back : Removed → CacheEnd → CacheEnd
given_back RemovedFailed end = EndFailed
given_back other end = end

-- with the lock held the cache was used, and then the lock file was removed
pub record UnderLock (cache : Cache) (ids : List (Option (List ℕ))) (end : CacheEnd) (before after : HostView) : Type 0 where
  pub used : CacheEnd
  pub middle : HostView
  pub uses : Uses cache ids used before middle
  pub removed : Removed
  pub gives : Makes (Remove cache.lock) (AnswerRemove removed) middle after
  pub is : end ≡ given_back removed used

-- the cache was used under its lock, or the lock couldn't be taken
pub data Steps (cache : Cache) (ids : List (Option (List ℕ))) (end : CacheEnd) (before after : HostView) : Type 0 where
  busy : end ≡ Busy → TakesLock cache_rule cache.lock LockBusy before after → Steps cache ids end before after
  unlocked : end ≡ EndFailed → TakesLock cache_rule cache.lock LockFailed before after → Steps cache ids end before after
  locked : (sleeps forced : ℕ) (middle : HostView) → TakesLock cache_rule cache.lock (Held sleeps forced) before middle
      → UnderLock cache ids end middle after → Steps cache ids end before after

-- the end of a step that was made; none where memory was wanting
abbrev pub step_end : CacheEnd → Option CacheEnd
step_end Memory = None
step_end end = Some end
