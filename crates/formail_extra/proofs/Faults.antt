-- A step with a cache answers that a call failed only where one did.
use Rattle.std.proofs.Common.{◌≡◌, ◌≤◌, ℕ, Bool, true, List, [], ◌∷◌, Option, refl, sym, subst, arith, le_trans}
use Rattle.pm_host.specs.World.{IsFailed}
use Rattle.pm_host.specs.Told.{HostView, Rose}
use Rattle.pm_host.specs.declared.calls.Answer.TheVariants.{Remove as AnswerRemove}
use Rattle.pm_host.specs.declared.answers.Removed.{Removed}
use Rattle.pm_host.specs.declared.answers.Removed.TheVariants.{Removed as RemovedDone, Absent, Failed as RemoveFailed}
use Rattle.pm_journal.specs.declared.appending.AppendEnd.{AppendEnd}
use Rattle.pm_journal.specs.declared.appending.AppendEnd.TheVariants.{Done as EndDone, Undone as EndUndone, Torn as EndTorn, IsFolder as EndFolder, Raced as EndRaced}
use Rattle.pm_journal.specs.Appending.{IsFaultEnd}
use Rattle.pm_journal.proofs.AppendCause.{append_cause}
use Rattle.pm_journal.proofs.LockEffect.{lock_cause}
use Rattle.formail_extra.specs.Cache.{addition_to, cache_after, marks_of}
use Rattle.formail_extra.proofs.ReadLemmas.{read_cause}
use Rattle.formail_extra.specs.Adding.{written_of, Adds, uncut, cut, AddsId, at_end, again, Holds, no_id, known_id, new_id, Onward, HoldsAll}
use Rattle.formail_extra.specs.Stepping.{cache_rule, end_of, given_back, Remembers, Uses, came, absent, too_long, folder, unread, Steps, busy, unlocked, locked}
use Rattle.formail_extra.specs.declared.adding.Written.{Written}
use Rattle.formail_extra.specs.declared.adding.Written.TheVariants.{Done, IsFolder, Raced, Failed as NotDone}
use Rattle.formail_extra.specs.declared.stepping.Cache.{Cache}
use Rattle.formail_extra.specs.declared.stepping.CacheEnd.{CacheEnd}
use Rattle.formail_extra.specs.declared.stepping.CacheEnd.TheVariants.{Failed}

rose_then : (a b c : ℕ) → Rose a b → b ≤ c → Rose a c
rose_then a b c rose later = omega arith

rose_after : (a b c : ℕ) → a ≤ b → Rose b c → Rose a c
rose_after a b c later rose = omega arith

fault_end : (end : AppendEnd) → NotDone ≡ written_of end → IsFaultEnd end
fault_end EndDone e = absurd (cc)
fault_end EndUndone e = tt
fault_end (EndTorn n) e = tt
fault_end EndFolder e = absurd (cc)
fault_end EndRaced e = absurd (cc)

adds_rose : (name piece : List ℕ) (a b : HostView) → Adds name piece NotDone a b → Rose a.faults b.faults
adds_rose name piece a b adds =
    let appends = adds.appends in
    appends.ran.failed (append_cause name piece true adds.end appends.calls appends.group (fault_end adds.end adds.is))

adds_id_rose : (name : List ℕ) (most : ℕ) (bytes id : List ℕ) (a b : HostView) → AddsId name most bytes id NotDone a b → Rose a.faults b.faults
adds_id_rose name most bytes id a b (at_end few adds) = adds_rose name (addition_to bytes id) a b adds
adds_id_rose name most bytes id a b (again full (uncut failed makes)) = makes.failed tt
adds_id_rose name most bytes id a b (again full (cut middle makes adds)) =
    rose_after a.faults middle.faults b.faults makes.later (adds_rose name (addition_to [] id) middle b adds)

holds_rose : (name : List ℕ) (most : ℕ) (bytes : List ℕ) (id : Option (List ℕ)) (a b : HostView) → Holds name most bytes id NotDone a b → Rose a.faults b.faults
holds_rose name most bytes id a b (no_id is asks) = let e = asks.0 in absurd (cc)
holds_rose name most bytes id a b (known_id line is seen asks) = let e = asks.0 in absurd (cc)
holds_rose name most bytes id a b (new_id line is unseen adds) = adds_id_rose name most bytes line a b adds

adds_later : (name piece : List ℕ) (how : Written) (a b : HostView) → Adds name piece how a b → a.faults ≤ b.faults
adds_later name piece how a b adds = adds.appends.ran.later

asks_later : (how : Written) (a b : HostView) → (how ≡ Done) × (b ≡ a) → a.faults ≤ b.faults
asks_later how a b asks = subst (λ h. a.faults ≤ h.faults) (sym asks.1) (omega arith)

holds_later : (name : List ℕ) (most : ℕ) (bytes : List ℕ) (id : Option (List ℕ)) (how : Written) (a b : HostView) → Holds name most bytes id how a b → a.faults ≤ b.faults
holds_later name most bytes id how a b (no_id is asks) = asks_later how a b asks
holds_later name most bytes id how a b (known_id line is seen asks) = asks_later how a b asks
holds_later name most bytes id how a b (new_id line is unseen (at_end few adds)) = adds_later name (addition_to bytes line) how a b adds
holds_later name most bytes id how a b (new_id line is unseen (again full (uncut failed makes))) = makes.later
holds_later name most bytes id how a b (new_id line is unseen (again full (cut middle makes adds))) =
    le_trans makes.later (adds_later name (addition_to [] line) how middle b adds)

-- what comes after the first mail
onward_rose : (first : Written) (others : Type 0) (a m b : HostView) → a.faults ≤ m.faults → (first ≡ NotDone → Rose a.faults m.faults) → (others → Rose m.faults b.faults)
    → Onward first others NotDone m b → Rose a.faults b.faults
onward_rose Done others a m b later failed rest onward = rose_after a.faults m.faults b.faults later (rest onward)
onward_rose IsFolder others a m b later failed rest onward = let e = onward.0 in absurd (cc)
onward_rose Raced others a m b later failed rest onward = let e = onward.0 in absurd (cc)
onward_rose NotDone others a m b later failed rest onward = subst (λ h. Rose a.faults h.faults) (sym onward.1) (failed refl)

all_rose : (name : List ℕ) (most : ℕ) (bytes : List ℕ) (ids : List (Option (List ℕ))) (a b : HostView) → HoldsAll name most bytes ids NotDone a b → Rose a.faults b.faults
all_rose name most bytes [] a b asks = let e = asks.0 in absurd (cc)
all_rose name most bytes (id ∷ ids) a b all =
    let middle = all.1 in
    onward_rose all.0 (HoldsAll name most (cache_after most bytes id) ids NotDone middle b) a middle b
    (holds_later name most bytes id all.0 a middle all.2)
    (λ e. holds_rose name most bytes id a middle (subst (λ w. Holds name most bytes id w a middle) e all.2))
    (all_rose name most (cache_after most bytes id) ids middle b) all.3

onward_later : (first : Written) (others : Type 0) (how : Written) (m b : HostView) → (others → m.faults ≤ b.faults) → Onward first others how m b → m.faults ≤ b.faults
onward_later Done others how m b rest onward = rest onward
onward_later IsFolder others how m b rest onward = subst (λ h. m.faults ≤ h.faults) (sym onward.1) (omega arith)
onward_later Raced others how m b rest onward = subst (λ h. m.faults ≤ h.faults) (sym onward.1) (omega arith)
onward_later NotDone others how m b rest onward = subst (λ h. m.faults ≤ h.faults) (sym onward.1) (omega arith)

all_later : (name : List ℕ) (most : ℕ) (bytes : List ℕ) (ids : List (Option (List ℕ))) (how : Written) (a b : HostView) → HoldsAll name most bytes ids how a b → a.faults ≤ b.faults
all_later name most bytes [] how a b asks = asks_later how a b asks
all_later name most bytes (id ∷ ids) how a b all =
    let middle = all.1 in
    le_trans (holds_later name most bytes id all.0 a middle all.2)
    (onward_later all.0 (HoldsAll name most (cache_after most bytes id) ids how middle b) how middle b (all_later name most (cache_after most bytes id) ids how middle b) all.3)

not_done : (how : Written) (kept : List Bool) → Failed ≡ end_of how kept → how ≡ NotDone
not_done Done kept e = absurd (cc)
not_done IsFolder kept e = absurd (cc)
not_done Raced kept e = absurd (cc)
not_done NotDone kept e = refl

remembers_rose : (cache : Cache) (old : List ℕ) (ids : List (Option (List ℕ))) (a b : HostView) → Remembers cache old ids Failed a b → Rose a.faults b.faults
remembers_rose cache old ids a b remembers =
    all_rose cache.name cache.most old ids a b
    (subst (λ how. HoldsAll cache.name cache.most old ids how a b) (not_done remembers.written (marks_of cache.most old ids).kept remembers.is) remembers.holds)

uses_rose : (cache : Cache) (ids : List (Option (List ℕ))) (a b : HostView) → Uses cache ids Failed a b → Rose a.faults b.faults
uses_rose cache ids a b (came bytes middle reads remembers) = rose_after a.faults middle.faults b.faults reads.reads.ran.later (remembers_rose cache bytes ids middle b remembers)
uses_rose cache ids a b (absent middle reads remembers) = rose_after a.faults middle.faults b.faults reads.reads.ran.later (remembers_rose cache [] ids middle b remembers)
uses_rose cache ids a b (too_long bytes middle reads remembers) = rose_after a.faults middle.faults b.faults reads.reads.ran.later (remembers_rose cache bytes ids middle b remembers)
uses_rose cache ids a b (folder is reads) = absurd (cc)
uses_rose cache ids a b (unread is file) = file.reads.ran.failed (read_cause cache.name a b file)

-- what was used failed, or the removal of the lock file
under_rose : (cache : Cache) (ids : List (Option (List ℕ))) (used : CacheEnd) (removed : Removed) (a m b : HostView) → Failed ≡ given_back removed used → Uses cache ids used a m
    → a.faults ≤ m.faults → m.faults ≤ b.faults → (removed ≡ RemoveFailed → Rose m.faults b.faults) → Rose a.faults b.faults
under_rose cache ids used RemoveFailed a m b is uses earlier later failed = rose_after a.faults m.faults b.faults earlier (failed refl)
under_rose cache ids used RemovedDone a m b is uses earlier later failed = rose_then a.faults m.faults b.faults (uses_rose cache ids a m (subst (λ e. Uses cache ids e a m) (sym is) uses)) later
under_rose cache ids used Absent a m b is uses earlier later failed = rose_then a.faults m.faults b.faults (uses_rose cache ids a m (subst (λ e. Uses cache ids e a m) (sym is) uses)) later

remembers_later : (cache : Cache) (old : List ℕ) (ids : List (Option (List ℕ))) (end : CacheEnd) (a b : HostView) → Remembers cache old ids end a b → a.faults ≤ b.faults
remembers_later cache old ids end a b remembers = all_later cache.name cache.most old ids remembers.written a b remembers.holds

uses_later : (cache : Cache) (ids : List (Option (List ℕ))) (end : CacheEnd) (a b : HostView) → Uses cache ids end a b → a.faults ≤ b.faults
uses_later cache ids end a b (came bytes middle reads remembers) = le_trans reads.reads.ran.later (remembers_later cache bytes ids end middle b remembers)
uses_later cache ids end a b (absent middle reads remembers) = le_trans reads.reads.ran.later (remembers_later cache [] ids end middle b remembers)
uses_later cache ids end a b (too_long bytes middle reads remembers) = le_trans reads.reads.ran.later (remembers_later cache bytes ids end middle b remembers)
uses_later cache ids end a b (folder is reads) = reads.reads.ran.later
uses_later cache ids end a b (unread is reads) = reads.reads.ran.later

-- the count of the host rose
pub failed_rose : (cache : Cache) (ids : List (Option (List ℕ))) (a b : HostView) → Steps cache ids Failed a b → Rose a.faults b.faults
failed_rose cache ids a b (busy is takes) = absurd (cc)
failed_rose cache ids a b (unlocked is takes) = takes.ran.failed (lock_cause cache_rule cache.lock takes.calls takes.group)
failed_rose cache ids a b (locked sleeps forced middle takes under) =
    rose_after a.faults middle.faults b.faults takes.ran.later
    (under_rose cache ids under.used under.removed middle under.middle b under.is under.uses (uses_later cache ids under.used middle under.middle under.uses) under.gives.later
    (λ e. under.gives.failed (subst (λ r. IsFailed (AnswerRemove r)) (sym e) tt)))

-- the count of the host never falls
pub steps_later : (cache : Cache) (ids : List (Option (List ℕ))) (end : CacheEnd) (a b : HostView) → Steps cache ids end a b → a.faults ≤ b.faults
steps_later cache ids end a b (busy is takes) = takes.ran.later
steps_later cache ids end a b (unlocked is takes) = takes.ran.later
steps_later cache ids end a b (locked sleeps forced middle takes under) =
    le_trans takes.ran.later (le_trans (uses_later cache ids under.used middle under.middle under.uses) under.gives.later)
