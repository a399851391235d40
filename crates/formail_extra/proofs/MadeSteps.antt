-- A step that was made doesn't end with want of memory.
use Rattle.std.proofs.Common.{ℕ, Bool, List, [], Option, sym, subst}
use Rattle.std.specs.Prelude.{IfSome}
use Rattle.pm_host.specs.Told.{HostView}
use Rattle.pm_host.specs.declared.answers.Removed.{Removed}
use Rattle.pm_host.specs.declared.answers.Removed.TheVariants.{Removed as RemovedDone, Absent, Failed as RemoveFailed}
use Rattle.formail_extra.specs.Cache.{marks_of}
use Rattle.formail_extra.specs.Stepping.{step_end, end_of, given_back, Remembers, Uses, came, absent, too_long, folder, unread, Steps, busy, unlocked, locked}
use Rattle.formail_extra.specs.declared.adding.Written.{Written}
use Rattle.formail_extra.specs.declared.adding.Written.TheVariants.{Done, IsFolder as WrittenFolder, Raced as WrittenRaced, Failed as NotDone}
use Rattle.formail_extra.specs.declared.stepping.Cache.{Cache}
use Rattle.formail_extra.specs.declared.stepping.CacheEnd.{CacheEnd}
use Rattle.formail_extra.specs.declared.stepping.CacheEnd.TheVariants.{Kept, Busy, IsFolder, Failed, Memory, Raced}

-- the end isn't want of memory
abbrev pub IsMade : CacheEnd → Type 0
IsMade Memory = ⊥
IsMade end = Unit {0}

written_made : (written : Written) (kept : List Bool) → IsMade (end_of written kept)
written_made Done kept = tt
written_made WrittenFolder kept = tt
written_made WrittenRaced kept = tt
written_made NotDone kept = tt

remembers_made : (cache : Cache) (old : List ℕ) (ids : List (Option (List ℕ))) (end : CacheEnd) (a b : HostView) → Remembers cache old ids end a b → IsMade end
remembers_made cache old ids end a b remembers = subst IsMade (sym remembers.is) (written_made remembers.written (marks_of cache.most old ids).kept)

uses_made : (cache : Cache) (ids : List (Option (List ℕ))) (end : CacheEnd) (a b : HostView) → Uses cache ids end a b → IsMade end
uses_made cache ids end a b (came bytes middle reads remembers) = remembers_made cache bytes ids end middle b remembers
uses_made cache ids end a b (absent middle reads remembers) = remembers_made cache [] ids end middle b remembers
uses_made cache ids end a b (too_long bytes middle reads remembers) = remembers_made cache bytes ids end middle b remembers
uses_made cache ids end a b (folder is reads) = subst IsMade (sym is) tt
uses_made cache ids end a b (unread is reads) = subst IsMade (sym is) tt

given_made : (removed : Removed) (end : CacheEnd) → IsMade end → IsMade (given_back removed end)
given_made RemovedDone end made = made
given_made Absent end made = made
given_made RemoveFailed end made = tt

pub steps_made : (cache : Cache) (ids : List (Option (List ℕ))) (end : CacheEnd) (a b : HostView) → Steps cache ids end a b → IsMade end
steps_made cache ids end a b (busy is takes) = subst IsMade (sym is) tt
steps_made cache ids end a b (unlocked is takes) = subst IsMade (sym is) tt
steps_made cache ids end a b (locked sleeps forced middle takes under) =
    subst IsMade (sym under.is) (given_made under.removed under.used (uses_made cache ids under.used middle under.middle under.uses))

-- what holds of an end holds of it as that of a step that was made
pub made_end : (P : CacheEnd → Type 0) (end : CacheEnd) → P end → IfSome (step_end end) P
made_end P (Kept kept) h = h
made_end P Busy h = h
made_end P IsFolder h = h
made_end P Failed h = h
made_end P Memory h = tt
made_end P Raced h = h
