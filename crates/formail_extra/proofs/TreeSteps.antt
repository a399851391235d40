-- What a step with a cache makes of the tree.
use Rattle.std.proofs.Common.{◌≡◌, ◌≤◌, ℕ, List, [], Option, Some, None, refl, sym, ap, ◌∙◌, subst, inl, inr, take, append-nil, All}
use Rattle.pm_host.specs.World.{World, RemovesRight, Step, world_with}
use Rattle.pm_host.specs.Told.{HostView, Tells}
use Rattle.pm_host.specs.Runs.{Steps as RunSteps}
use Rattle.pm_host.proofs.Put.{put_same}
use Rattle.pm_host.proofs.RunsJoin.{tells_map, tells_then}
use Rattle.pm_host.specs.declared.nodes.File.{File}
use Rattle.pm_host.specs.declared.nodes.Node.{Node}
use Rattle.pm_host.specs.declared.nodes.Node.TheVariants.{File as AFile, Folder as AFolder}
use Rattle.pm_host.specs.declared.answers.Removed.{Removed}
use Rattle.pm_host.specs.declared.answers.Removed.TheVariants.{Removed as RemovedDone, Absent, Failed as RemoveFailed}
use Rattle.pm_host.specs.declared.calls.Call.TheVariants.{Remove}
use Rattle.pm_host.specs.declared.calls.Answer.TheVariants.{Remove as AnswerRemove}
use Rattle.pm_journal.specs.Deliveries.{bytes_at, TakesRight}
use Rattle.pm_journal.specs.Locking.{TakesLock, lock_reply}
use Rattle.pm_journal.specs.declared.locking.LockEnd.{LockEnd}
use Rattle.pm_journal.specs.declared.locking.LockEnd.TheVariants.{Held, Busy as LockBusy, Failed as LockFailed}
use Rattle.pm_journal.proofs.LockLeaves.{lock_leaves}
use Rattle.formail_extra.specs.Cache.{IsShortId, marks_of}
use Rattle.formail_extra.specs.declared.reading.CacheRead.TheVariants.{Whole, Front, Missing, Folder, Failed as ReadFailed}
use Rattle.formail_extra.specs.Stepping.{cache_rule, end_of, given_back, Remembers, Uses, came, absent, too_long, folder, unread, UnderLock, Steps, busy, unlocked, locked}
use Rattle.formail_extra.specs.Tree.{marks_at, whole, LeftInPart, EndsRight, StaysBounded, LockedRight, let_go, kept_on, StepsRight, was_busy, was_unlocked, was_locked}
use Rattle.formail_extra.specs.declared.adding.Written.{Written}
use Rattle.formail_extra.specs.declared.adding.Written.TheVariants.{Done, IsFolder as WrittenFolder, Raced as WrittenRaced, Failed as NotDone}
use Rattle.formail_extra.specs.declared.stepping.Cache.{Cache}
use Rattle.formail_extra.specs.declared.stepping.CacheEnd.{CacheEnd}
use Rattle.formail_extra.specs.declared.stepping.CacheEnd.TheVariants.{Kept, Busy, IsFolder, Failed, Memory, Raced}
use Rattle.formail_extra.proofs.FrontMarks.{same_marks}
use Rattle.formail_extra.proofs.TreeFacts.{IsNoFolder, FoundWhole, reads_found, ChangedAt, Agree}
use Rattle.formail_extra.proofs.TreeMails.{AllHeld, HeldAfter, all_held}
use Rattle.formail_extra.proofs.TreeBounds.{part_bounded}

-- the marks are those that the whole cache gives
kept_same : (most : ℕ) (old : List ℕ) (ids : List (Option (List ℕ))) (there : Option Node) → most ≤ 2097152 → Agree old there
    → (marks_of most old ids).kept ≡ (marks_at most ids there).kept
kept_same most old ids there h agree =
    elim agree.1 [
      | inl e ↦ ap (λ o. (marks_of most o ids).kept) e
      | inr e ↦ ap (λ o. (marks_of most o ids).kept) e ∙ (same_marks most (bytes_at there) ids h).kept
    ]

no_folder : (there here : Option Node) → IsNoFolder there → there ≡ Some AFolder → here ≡ there
no_folder there here plain e = absurd (subst IsNoFolder e plain)

ends : (cache : Cache) (ids : List (Option (List ℕ))) (old : List ℕ) (how : Written) (there here : Option Node) → cache.most ≤ 2097152 → Agree old there
    → AllHeld cache.most ids how there here → EndsRight cache ids (end_of how (marks_of cache.most old ids).kept) there here
ends cache ids old Done there here h agree held = (kept_same cache.most old ids there h agree, held)
ends cache ids old NotDone there here h agree held = record { folder = no_folder there here agree.0; part = held }
ends cache ids old WrittenFolder there here h agree held = absurd held
ends cache ids old WrittenRaced there here h agree held = absurd held

-- the relation of the worlds before and after the use of a cache
abbrev UsedRight : Cache → List (Option (List ℕ)) → CacheEnd → World → World → Type 0
UsedRight cache ids end w v = ChangedAt cache.name (EndsRight cache ids end) w v

remembered : (cache : Cache) (old : List ℕ) (ids : List (Option (List ℕ))) (end : CacheEnd) (how : Written) (w v : World) → cache.most ≤ 2097152
    → Agree old (w.nodes cache.name) → end ≡ end_of how (marks_of cache.most old ids).kept → HeldAfter cache.name cache.most old ids how w v → UsedRight cache ids end w v
remembered cache old ids end how w v h agree is held =
    let changed = held agree in
    let there = w.nodes cache.name in
    (changed.0, changed.1, subst (λ e. EndsRight cache ids e there changed.0) (sym is) (ends cache ids old how there changed.0 h agree changed.2))

came_agrees : (bytes : List ℕ) (there : Option Node) (f : File) → there ≡ Some (AFile f) → bytes ≡ f.bytes → Agree bytes there
came_agrees bytes there f is all = subst (Agree bytes) (sym is) (tt, inl all)

long_agrees : (bytes : List ℕ) (there : Option Node) (f : File) → there ≡ Some (AFile f) → bytes ≡ take 2097152 f.bytes → Agree bytes there
long_agrees bytes there f is front = subst (Agree bytes) (sym is) (tt, inr front)

absent_agrees : (there : Option Node) → there ≡ None → Agree [] there
absent_agrees there is = subst (Agree []) (sym is) (tt, inl refl)

-- a reading, and then what was made of its bytes
joined : (cache : Cache) (ids : List (Option (List ℕ))) (end : CacheEnd) (old : List ℕ) (F : World → Type 0) → cache.most ≤ 2097152 → ((w : World) → F w → Agree old (w.nodes cache.name))
    → (a m b : HostView) → Tells (λ w v. (v ≡ w) × F w) a.world m.world → Remembers cache old ids end m b → Tells (UsedRight cache ids end) a.world b.world
joined cache ids end old F h agrees a m b reads remembers =
    let how = remembers.written in
    let R = HeldAfter cache.name cache.most old ids how in
    tells_then (λ w v. (v ≡ w) × F w) R (UsedRight cache ids end)
    (λ w m v r s. remembered cache old ids end how w v h (agrees w r.1) remembers.is (subst (λ x. R x v) r.0 s))
    a.world m.world b.world reads (all_held cache.name cache.most old ids how m b h remembers.holds)

stays : (cache : Cache) (ids : List (Option (List ℕ))) (end : CacheEnd) (w v : World) → v ≡ w → EndsRight cache ids end (w.nodes cache.name) (w.nodes cache.name) → UsedRight cache ids end w v
stays cache ids end w v e says = (w.nodes cache.name, e ∙ sym (put_same w cache.name (w.nodes cache.name) refl), says)

-- nothing was brought
nothing : (most : ℕ) (ids : List (Option (List ℕ))) (there : Option Node) → LeftInPart most ids there there
nothing most ids there = record { folder = λ e. refl; part = whole [] ids refl (record { bytes = refl; same = λ e. refl; folder = λ e. refl }) }

uses_right : (cache : Cache) (ids : List (Option (List ℕ))) (end : CacheEnd) (a b : HostView) → cache.most ≤ 2097152 → Uses cache ids end a b → Tells (UsedRight cache ids end) a.world b.world
uses_right cache ids end a b h (came bytes middle reads remembers) =
    joined cache ids end bytes (λ w. FoundWhole cache.name w (Whole bytes)) h (λ w found. came_agrees bytes (w.nodes cache.name) found.0 found.1 found.2)
    a middle b (reads_found cache.name (Whole bytes) a middle reads) remembers
uses_right cache ids end a b h (absent middle reads remembers) =
    joined cache ids end [] (λ w. FoundWhole cache.name w Missing) h (λ w found. absent_agrees (w.nodes cache.name) found)
    a middle b (reads_found cache.name Missing a middle reads) remembers
uses_right cache ids end a b h (too_long bytes middle reads remembers) =
    joined cache ids end bytes (λ w. FoundWhole cache.name w (Front bytes)) h (λ w found. long_agrees bytes (w.nodes cache.name) found.0 found.1 found.2)
    a middle b (reads_found cache.name (Front bytes) a middle reads) remembers
uses_right cache ids end a b h (folder is reads) =
    tells_map (λ w v. (v ≡ w) × FoundWhole cache.name w Folder) (UsedRight cache ids end)
    (λ w v r. stays cache ids end w v r.0 (subst (λ e. EndsRight cache ids e (w.nodes cache.name) (w.nodes cache.name)) (sym is) (r.1, refl)))
    a.world b.world (reads_found cache.name Folder a b reads)
uses_right cache ids end a b h (unread is reads) =
    tells_map (λ w v. (v ≡ w) × FoundWhole cache.name w ReadFailed) (UsedRight cache ids end)
    (λ w v r. stays cache ids end w v r.0 (subst (λ e. EndsRight cache ids e (w.nodes cache.name) (w.nodes cache.name)) (sym is) (nothing cache.most ids (w.nodes cache.name))))
    a.world b.world (reads_found cache.name ReadFailed a b reads)

-- whatever became of the cache, what stands there was brought there in part
in_part : (cache : Cache) (ids : List (Option (List ℕ))) (end : CacheEnd) (there here : Option Node) → EndsRight cache ids end there here → LeftInPart cache.most ids there here
in_part cache ids (Kept kept) there here says = record { folder = says.1.folder; part = whole ids [] (sym (append-nil ids)) says.1 }
in_part cache ids Busy there here says = absurd says
in_part cache ids IsFolder there here says =
    subst (λ h. LeftInPart cache.most ids there h) (sym says.1) (nothing cache.most ids there)
in_part cache ids Failed there here says = says
in_part cache ids Memory there here says = absurd says
in_part cache ids Raced there here says = absurd says

-- and it stays within its bound
bounded : (cache : Cache) (ids : List (Option (List ℕ))) (end : CacheEnd) (there here : Option Node) → All IsShortId ids → EndsRight cache ids end there here
    → StaysBounded cache.most there here
bounded cache ids end there here short says = part_bounded cache.most ids there here short (in_part cache ids end there here says).part

absent_same : (x : Option Node) → RemovesRight x Absent → x ≡ None
absent_same (Some n) right = absurd right
absent_same None right = refl

-- what was used, and then the removal of the lock file
removed_join : (cache : Cache) (ids : List (Option (List ℕ))) (used end : CacheEnd) (removed : Removed) (w m v : World) → All IsShortId ids → end ≡ given_back removed used
    → UsedRight cache ids used w m → Step (Remove cache.lock) (AnswerRemove removed) m v → LockedRight cache ids end w v
removed_join cache ids used end RemovedDone w m v short is changed step =
    let_go changed.0 (subst (λ e. EndsRight cache ids e (w.nodes cache.name) changed.0) (sym is) changed.2)
    (bounded cache ids used (w.nodes cache.name) changed.0 short changed.2)
    (step.made ∙ ap (λ x. world_with x cache.lock None) changed.1)
removed_join cache ids used end Absent w m v short is changed step =
    let_go changed.0 (subst (λ e. EndsRight cache ids e (w.nodes cache.name) changed.0) (sym is) changed.2)
    (bounded cache ids used (w.nodes cache.name) changed.0 short changed.2)
    (step.made ∙ sym (put_same m cache.lock None (absent_same (m.nodes cache.lock) step.right)) ∙ ap (λ x. world_with x cache.lock None) changed.1)
removed_join cache ids used end RemoveFailed w m v short is changed step =
    kept_on changed.0 is (in_part cache ids used (w.nodes cache.name) changed.0 changed.2)
    (bounded cache ids used (w.nodes cache.name) changed.0 short changed.2) (step.made ∙ changed.1)

under_right : (cache : Cache) (ids : List (Option (List ℕ))) (end : CacheEnd) (a b : HostView) → cache.most ≤ 2097152 → All IsShortId ids → UnderLock cache ids end a b
    → Tells (LockedRight cache ids end) a.world b.world
under_right cache ids end a b h short under =
    tells_then (UsedRight cache ids under.used) (Step (Remove cache.lock) (AnswerRemove under.removed)) (LockedRight cache ids end)
    (λ w m v used step. removed_join cache ids under.used end under.removed w m v short under.is used step)
    a.world under.middle.world b.world (uses_right cache ids under.used a under.middle h under.uses) under.gives.world

takes_right : (name : List ℕ) (end : LockEnd) (a b : HostView) → TakesLock cache_rule name end a b → Tells (TakesRight name (lock_reply end)) a.world b.world
takes_right name end a b takes =
    tells_map (RunSteps takes.calls) (TakesRight name (lock_reply end))
    (λ w v s. subst (TakesRight name (lock_reply end) w) (sym s.made)
    (lock_leaves cache_rule name (lock_reply end) takes.calls w (record { end = end; reply_is = refl; group = takes.group })))
    a.world b.world takes.ran.world

-- what a step with a cache makes of the tree
pub steps_right : (cache : Cache) (ids : List (Option (List ℕ))) (end : CacheEnd) (a b : HostView) → cache.most ≤ 2097152 → All IsShortId ids → Steps cache ids end a b → Tells (StepsRight cache ids end) a.world b.world
steps_right cache ids end a b h short (busy is takes) =
    tells_map (TakesRight cache.lock (lock_reply LockBusy)) (StepsRight cache ids end) (λ w v r. was_busy is r) a.world b.world (takes_right cache.lock LockBusy a b takes)
steps_right cache ids end a b h short (unlocked is takes) =
    tells_map (TakesRight cache.lock (lock_reply LockFailed)) (StepsRight cache ids end) (λ w v r. was_unlocked is r) a.world b.world (takes_right cache.lock LockFailed a b takes)
steps_right cache ids end a b h short (locked sleeps forced middle takes under) =
    tells_then (TakesRight cache.lock (lock_reply (Held sleeps forced))) (LockedRight cache ids end) (StepsRight cache ids end) (λ w m v r s. was_locked sleeps forced m r s)
    a.world middle.world b.world (takes_right cache.lock (Held sleeps forced) a middle takes) (under_right cache ids end middle b h short under)
