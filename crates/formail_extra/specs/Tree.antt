-- What a step with a cache makes of the tree of files.
use Rattle.std.specs.Prelude.{◌≡◌, ◌≤◌, ℕ, ◌+◌, false, Option, Some, None, List, ◌∷◌, ◌++◌, take, length}
use Rattle.std.specs.List.{list_any}
use Rattle.pm_host.specs.World.{World, world_with}
use Rattle.pm_host.specs.declared.nodes.Node.{Node}
use Rattle.pm_host.specs.declared.nodes.Node.TheVariants.{Folder as AFolder}
use Rattle.pm_journal.specs.Deliveries.{bytes_at, TakesRight}
use Rattle.pm_journal.specs.declared.acts.Reply.TheVariants.{Held as ReplyHeld, Busy as ReplyBusy, Faulted}
use Rattle.formail_extra.specs.Cache.{left_of, addition_to, is_new, Marks, marks_of}
use Rattle.formail_extra.specs.declared.stepping.Cache.{Cache}
use Rattle.formail_extra.specs.declared.stepping.CacheEnd.{CacheEnd}
use Rattle.formail_extra.specs.declared.stepping.CacheEnd.TheVariants.{Kept, Busy, IsFolder, Failed, Memory, Raced}

-- the marks of some mails by what stands at the cache's name, and the bytes that they leave there
abbrev pub marks_at : ℕ → List (Option (List ℕ)) → Option Node → Marks
marks_at most ids there = marks_of most (bytes_at there) ids

-- the file has the bytes that these mails leave; if nothing of them is new, all is as it was, and so is a directory
pub record Brought (most : ℕ) (ids : List (Option (List ℕ))) (there here : Option Node) : Type 0 where
  pub bytes : bytes_at here ≡ (marks_at most ids there).cache
  pub same : list_any (is_new (bytes_at there)) ids ≡ false → here ≡ there
  pub folder : there ≡ Some AFolder → here ≡ there

-- what an addition leaves that was broken off after so many of its bytes: the cache was emptied before if it was full
abbrev pub part_of : ℕ → List ℕ → List ℕ → ℕ → List ℕ
part_of most bytes id count = left_of most bytes ++ take count (addition_to (left_of most bytes) id)

-- the file has the bytes that some first mails leave, or these with a part of the next addition
pub data BroughtInPart (most : ℕ) (ids : List (Option (List ℕ))) (there here : Option Node) : Type 0 where
  whole : (first rest : List (Option (List ℕ))) → ids ≡ first ++ rest → Brought most first there here
      → BroughtInPart most ids there here
  partly : (first : List (Option (List ℕ))) (id : List ℕ) (rest : List (Option (List ℕ))) (count : ℕ)
      → ids ≡ first ++ Some id ∷ rest → bytes_at here ≡ part_of most (marks_at most first there).cache id count
      → BroughtInPart most ids there here

-- a call failed: a directory is as it was, and a cache was brought in part to what the mails leave
pub record LeftInPart (most : ℕ) (ids : List (Option (List ℕ))) (there here : Option Node) : Type 0 where
  pub folder : there ≡ Some AFolder → here ≡ there
  pub part : BroughtInPart most ids there here

-- What the end says of the cache, by what stood at its name when the lock was got: the mails were marked by it, and it was
-- brought to what they leave; or a directory stood there and stands there; or a call failed. Where the host tells its
-- tree, nobody else makes the file meanwhile.
abbrev pub EndsRight : Cache → List (Option (List ℕ)) → CacheEnd → Option Node → Option Node → Type 0
EndsRight cache ids (Kept kept) there here =
    (kept ≡ (marks_at cache.most ids there).kept) × Brought cache.most ids there here
EndsRight cache ids Busy there here = ⊥
EndsRight cache ids IsFolder there here = (there ≡ Some AFolder) × (here ≡ there)
EndsRight cache ids Failed there here = LeftInPart cache.most ids there here
EndsRight cache ids Memory there here = ⊥
EndsRight cache ids Raced there here = ⊥

-- a cache that had at most this many bytes has at most so many
abbrev pub StaysBounded : ℕ → Option Node → Option Node → Type 0
StaysBounded most there here = length (bytes_at there) ≤ most + 4097 → length (bytes_at here) ≤ most + 4097

-- With the lock held the tree changed at the cache's name alone, and then the lock file was removed; where its removal
-- failed it is left, and the end is that a call failed. Others didn't act meanwhile.
pub data LockedRight (cache : Cache) (ids : List (Option (List ℕ))) (end : CacheEnd) (got new : World) : Type 0 where
  let_go : (here : Option Node) → EndsRight cache ids end (got.nodes cache.name) here
      → StaysBounded cache.most (got.nodes cache.name) here
      → new ≡ world_with (world_with got cache.name here) cache.lock None → LockedRight cache ids end got new
  kept_on : (here : Option Node) → end ≡ Failed → LeftInPart cache.most ids (got.nodes cache.name) here
      → StaysBounded cache.most (got.nodes cache.name) here
      → new ≡ world_with got cache.name here → LockedRight cache ids end got new

-- The taking of the lock made of the tree what it may: at the names that others leave alone nothing but the lock file.
-- Where the lock was got the cache was used.
pub data StepsRight (cache : Cache) (ids : List (Option (List ℕ))) (end : CacheEnd) (old new : World) : Type 0 where
  was_busy : end ≡ Busy → TakesRight cache.lock ReplyBusy old new → StepsRight cache ids end old new
  was_unlocked : end ≡ Failed → TakesRight cache.lock Faulted old new → StepsRight cache ids end old new
  was_locked : (sleeps forced : ℕ) (got : World) → TakesRight cache.lock (ReplyHeld sleeps forced) old got
      → LockedRight cache ids end got new → StepsRight cache ids end old new
