-- What the calls on a cache make of the tree: the bytes that are read are the file's, and the file then has the new ones.
use Rattle.std.proofs.Common.{◌≡◌, ◌≤◌, ◌<◌, ◌⊎◌, ℕ, ◌+◌, Bool, true, false, cond, ℤ, List, [], ◌∷◌, ◌++◌, length, take, drop, Option, Some, None, refl, sym, ap, ◌∙◌, subst, inl, inr, arith, nat_eq, take-add, take_all, length-append}
use Rattle.pm_host.specs.World.{World, LooksRight, MakesRight, ReadsRight, IsFile, IsRight, after_call, IsAnswerTo, Step, world_with, kept, longer}
use Rattle.pm_host.specs.Told.{HostView, Tells}
use Rattle.pm_host.specs.Runs.{AllRight, Steps, Transitions}
use Rattle.pm_host.proofs.Put.{get-put, put_same, put_put}
use Rattle.pm_host.proofs.RunsJoin.{tells_map, tells_then}
use Rattle.pm_host.specs.declared.nodes.File.{File}
use Rattle.pm_host.specs.declared.nodes.Node.{Node}
use Rattle.pm_host.specs.declared.nodes.Node.TheVariants.{File as AFile, Folder as AFolder}
use Rattle.pm_host.specs.declared.answers.Looked.TheVariants.{File as LookedFile, Folder as LookedFolder, Nothing, Failed as LookFailed}
use Rattle.pm_host.specs.declared.answers.Took.TheVariants.{Took as TookSome, Failed as TookFailed}
use Rattle.pm_host.specs.declared.answers.Made.TheVariants.{Made as MadeNew, Exists, Failed as MadeFailed}
use Rattle.pm_host.specs.declared.answers.Synced.TheVariants.{Synced as SyncedDone, Failed as SyncedFailed}
use Rattle.pm_host.specs.declared.answers.Cut.TheVariants.{Cut as CutDone, Failed as CutFailed}
use Rattle.pm_host.specs.declared.answers.Removed.TheVariants.{Removed as RemovedDone, Absent, Failed as RemoveFailed}
use Rattle.pm_host.specs.declared.calls.Call.{Call}
use Rattle.pm_host.specs.declared.calls.Call.TheVariants.{Look, Read, Create, Append, Sync, Cut as CutTo, Remove}
use Rattle.pm_host.specs.declared.calls.Answer.{Answer}
use Rattle.pm_host.specs.declared.calls.Answer.TheVariants.{Look as AnswerLook, Read as AnswerRead, Create as AnswerCreate, Append as AnswerAppend, Sync as AnswerSync, Cut as AnswerCut, Remove as AnswerRemove, Failed as AnswerFailed}
use Rattle.pm_host.specs.declared.calls.Logged.{Logged}
use Rattle.pm_journal.specs.Appending.{StepAsks, AppendAsks, taken_step, append_step, heard_look, heard_create, heard_append, heard_cut, heard_remove, to_undo, append_heard, AppendGroup, Appends}
use Rattle.pm_journal.specs.Deliveries.{bytes_at}
use Rattle.pm_journal.proofs.AppendEffect.{Stands, stands_step, append_effect}
use Rattle.pm_journal.specs.declared.appending.AppendEnd.{AppendEnd}
use Rattle.pm_journal.specs.declared.appending.AppendEnd.TheVariants.{Done as EndDone, Undone as EndUndone, Torn as EndTorn, IsFolder as EndFolder, Raced as EndRaced}
use Rattle.pm_journal.specs.declared.appending.AppendState.{AppendState}
use Rattle.pm_journal.specs.declared.appending.AppendState.TheVariants.{Looking, Creating, Writing, Cutting, Removing, Ended}
use Rattle.pm_journal.specs.declared.appending.AppendStep.TheVariants.{Append as StepAppend, Finish}
use Rattle.formail_extra.specs.Reading.{CacheState, CacheLooking, CacheOn, CacheEnded, CacheAsks, heard_first, heard_read, cache_heard, CacheDone, ReadsCache}
use Rattle.formail_extra.specs.declared.reading.CacheRead.{CacheRead}
use Rattle.formail_extra.specs.declared.reading.CacheRead.TheVariants.{Whole, Front, Missing, Folder, Failed as ReadFailed}
use Rattle.formail_extra.proofs.ReadLemmas.{reading_same}
use Rattle.formail_extra.specs.Adding.{written_of, Adds, uncut, cut, AddsId, at_end, again}
use Rattle.formail_extra.specs.declared.adding.Written.{Written}
use Rattle.formail_extra.specs.declared.adding.Written.TheVariants.{Done, IsFolder, Raced, Failed}
use Rattle.formail_extra.specs.Cache.{addition_to, next_of}
use Rattle.formail_extra.specs.Tree.{part_of}
use Rattle.formail_extra.proofs.FrontMarks.{left_none, left_all, front_whole, front_full}

-- what stands there has no folder
abbrev pub IsNoFolder : Option Node → Type 0
IsNoFolder (Some (AFile f)) = Unit {0}
IsNoFolder (Some AFolder) = ⊥
IsNoFolder None = Unit {0}

file_there : (x : Option Node) (len : ℕ) → LooksRight x (LookedFile len) → (f : File) × (x ≡ Some (AFile f))
file_there (Some (AFile f)) len right = (f, refl)
file_there (Some AFolder) len right = absurd right
file_there None len right = absurd right

folder_there : (x : Option Node) → LooksRight x LookedFolder → x ≡ Some AFolder
folder_there (Some (AFile f)) right = absurd right
folder_there (Some AFolder) right = refl
folder_there None right = absurd right

nothing_there : (x : Option Node) → LooksRight x Nothing → x ≡ None
nothing_there (Some n) right = absurd right
nothing_there None right = refl

-- what a whole reading has found in this world
abbrev pub FoundWhole : List ℕ → World → CacheRead → Type 0
FoundWhole name w (Whole bytes) = (f : File) × (w.nodes name ≡ Some (AFile f)) × (bytes ≡ f.bytes) × (length bytes ≤ 2097152)
FoundWhole name w (Front bytes) = (f : File) × (w.nodes name ≡ Some (AFile f)) × (bytes ≡ take 2097152 f.bytes)
FoundWhole name w Missing = w.nodes name ≡ None
FoundWhole name w Folder = w.nodes name ≡ Some AFolder
FoundWhole name w ReadFailed = Unit {0}

-- what a reading that stands so has found
abbrev Found : List ℕ → World → CacheState → Type 0
Found name w CacheLooking = Unit {0}
Found name w (CacheOn so_far) = (f : File) × (w.nodes name ≡ Some (AFile f)) × (so_far ≡ take (length so_far) f.bytes)
Found name w (CacheEnded end) = FoundWhole name w end

look_found : (name : List ℕ) (w : World) (answer : Answer) → IsAnswerTo (Look name) answer → IsRight (Look name) answer w → Found name w (heard_first answer)
look_found name w (AnswerLook (LookedFile len)) fits right = let there = file_there (w.nodes name) len right in (there.0, there.1, refl)
look_found name w (AnswerLook LookedFolder) fits right = folder_there (w.nodes name) right
look_found name w (AnswerLook Nothing) fits right = nothing_there (w.nodes name) right
look_found name w (AnswerLook LookFailed) fits right = tt
look_found name w other fits right = absurd fits

-- a part that comes after a front is the front's continuation
longer_front : (so_far part whole : List ℕ) → so_far ≡ take (length so_far) whole → part ≡ take (length part) (drop (length so_far) whole)
    → so_far ++ part ≡ take (length (so_far ++ part)) whole
longer_front so_far part whole front behind =
    ap (λ l. l ++ part) front
    ∙ ap (λ l. take (length so_far) whole ++ l) behind
    ∙ sym (take-add (length so_far) (length part) whole)
    ∙ ap (λ n. take n whole) (sym (length-append so_far part))

read_found : (name so_far : List ℕ) (room : ℕ) (w : World) (answer : Answer) → 1 ≤ room → length so_far + room ≤ 2097152 → IsAnswerTo (Read name (length so_far) room) answer
    → IsRight (Read name (length so_far) room) answer w → Found name w (CacheOn so_far) → Found name w (heard_read so_far answer)
read_found name so_far room w (AnswerRead []) some bounded fits right found =
    let ended : length found.0.bytes ≤ length so_far = (subst (λ x. ReadsRight x (length so_far) []) found.1 right).1 refl in
    (found.0, found.1, found.2 ∙ take_all (length so_far) found.0.bytes ended, omega arith)
read_found name so_far room w (AnswerRead (b ∷ more)) some bounded fits right found =
    (found.0, found.1, longer_front so_far (b ∷ more) found.0.bytes found.2 (subst (λ x. ReadsRight x (length so_far) (b ∷ more)) found.1 right).0)
read_found name so_far room w AnswerFailed some bounded fits right found = tt
read_found name so_far room w other some bounded fits right found = absurd fits

found_step : (name : List ℕ) (at : CacheState) (call : Call) (answer : Answer) (w : World) → CacheAsks name at call → IsAnswerTo call answer → IsRight call answer w → Found name w at
    → Found name w (cache_heard at answer)
found_step name CacheLooking call answer w asks fits right found =
    look_found name w answer (subst (λ c. IsAnswerTo c answer) asks fits) (subst (λ c. IsRight c answer w) asks right)
found_step name (CacheOn so_far) call answer w asks fits right found =
    read_found name so_far asks.room w answer asks.some asks.bounded (subst (λ c. IsAnswerTo c answer) asks.is fits) (subst (λ c. IsRight c answer w) asks.is right) found
found_step name (CacheEnded end) call answer w asks fits right found = absurd asks

found_all : (name : List ℕ) (calls : List Logged) (at last : CacheState) (w : World) → Transitions (CacheAsks name) cache_heard at calls last → AllRight calls w → Found name w at → Found name w last
found_all name [] at last w walk right found = subst (Found name w) (sym walk) found
found_all name (c ∷ cs) at last w walk right found =
    let same : after_call c.call c.answer w ≡ w = reading_same name (c ∷ []) at (cache_heard at c.answer) w (walk.0, walk.1, refl) in
    found_all name cs (cache_heard at c.answer) last w walk.2 (subst (AllRight cs) same right.1) (found_step name at c.call c.answer w walk.0 walk.1 right.0 found)

read_whole : (name : List ℕ) (w : World) (at : CacheState) (end : CacheRead) → CacheDone at end → Found name w at → FoundWhole name w end
read_whole name w CacheLooking end done found = absurd done
read_whole name w (CacheOn so_far) end done found =
    subst (FoundWhole name w) (sym done.1) (found.0, found.1, found.2 ∙ ap (λ n. take n found.0.bytes) done.0)
read_whole name w (CacheEnded e) end done found = subst (FoundWhole name w) (sym done) found

-- a whole reading changes nothing, and its bytes are the file's
pub reads_found : (name : List ℕ) (end : CacheRead) (a b : HostView) → ReadsCache name end a b → Tells (λ w v. (v ≡ w) × FoundWhole name w end) a.world b.world
reads_found name end a b file =
    let reads = file.reads in
    tells_map (Steps reads.calls) (λ w v. (v ≡ w) × FoundWhole name w end)
    (λ w v s. (
      s.made ∙ reading_same name reads.calls CacheLooking file.at w reads.walk,
      read_whole name w file.at end file.done (found_all name reads.calls CacheLooking file.at w reads.walk s.right tt),
    )) a.world b.world reads.ran.world

-- an append that ended at a folder found one, and none ended where others made the file
abbrev EndsSo : World → List ℕ → AppendState → Type 0
EndsSo w₀ name (Ended EndFolder) = w₀.nodes name ≡ Some AFolder
EndsSo w₀ name (Ended EndRaced) = ⊥
EndsSo w₀ name other = Unit {0}

look_so : (w₀ : World) (name : List ℕ) (answer : Answer) → IsAnswerTo (Look name) answer → IsRight (Look name) answer w₀ → EndsSo w₀ name (heard_look answer)
look_so w₀ name (AnswerLook (LookedFile len)) fits right = tt
look_so w₀ name (AnswerLook LookedFolder) fits right = folder_there (w₀.nodes name) right
look_so w₀ name (AnswerLook Nothing) fits right = tt
look_so w₀ name (AnswerLook LookFailed) fits right = tt
look_so w₀ name other fits right = absurd fits

create_so : (w₀ : World) (name : List ℕ) (answer : Answer) → IsAnswerTo (Create name) answer → IsRight (Create name) answer w₀ → w₀.nodes name ≡ None → EndsSo w₀ name (heard_create answer)
create_so w₀ name (AnswerCreate MadeNew) fits right none = tt
create_so w₀ name (AnswerCreate Exists) fits right none = subst (λ x. MakesRight x Exists) none right
create_so w₀ name (AnswerCreate MadeFailed) fits right none = tt
create_so w₀ name other fits right none = absurd fits

undo_so : (w₀ : World) (name : List ℕ) (made : Bool) (old taken : ℕ) → EndsSo w₀ name (to_undo made old taken)
undo_so w₀ name true old taken = tt
undo_so w₀ name false old taken = elim (nat_eq taken 0) as (λ b. EndsSo w₀ name (cond b (Ended EndUndone) (Cutting old taken))) [ true ↦ tt | false ↦ tt ]

append_so : (w₀ : World) (name part : List ℕ) (made : Bool) (old taken : ℕ) (answer : Answer) → IsAnswerTo (Append name part) answer → EndsSo w₀ name (heard_append made old taken answer)
append_so w₀ name part made old taken (AnswerAppend (TookSome n)) fits = tt
append_so w₀ name part made old taken (AnswerAppend TookFailed) fits = undo_so w₀ name made old taken
append_so w₀ name part made old taken other fits = absurd fits

sync_so : (w₀ : World) (name : List ℕ) (made : Bool) (old taken : ℕ) (answer : Answer) → IsAnswerTo (Sync name) answer → EndsSo w₀ name (heard_append made old taken answer)
sync_so w₀ name made old taken (AnswerSync SyncedDone) fits = tt
sync_so w₀ name made old taken (AnswerSync SyncedFailed) fits = undo_so w₀ name made old taken
sync_so w₀ name made old taken other fits = absurd fits

cut_so : (w₀ : World) (name : List ℕ) (old taken : ℕ) (answer : Answer) → IsAnswerTo (CutTo name old) answer → EndsSo w₀ name (heard_cut taken answer)
cut_so w₀ name old taken (AnswerCut CutDone) fits = tt
cut_so w₀ name old taken (AnswerCut CutFailed) fits = tt
cut_so w₀ name old taken other fits = absurd fits

remove_so : (w₀ : World) (name : List ℕ) (taken : ℕ) (answer : Answer) → IsAnswerTo (Remove name) answer → EndsSo w₀ name (heard_remove taken answer)
remove_so w₀ name taken (AnswerRemove RemovedDone) fits = tt
remove_so w₀ name taken (AnswerRemove Absent) fits = tt
remove_so w₀ name taken (AnswerRemove RemoveFailed) fits = tt
remove_so w₀ name taken other fits = absurd fits

step_so : (w₀ : World) (name piece : List ℕ) (at : AppendState) (call : Call) (answer : Answer) (w : World) → AppendAsks name piece true at call → IsAnswerTo call answer → IsRight call answer w
    → Stands w₀ name piece at w → EndsSo w₀ name (append_heard at answer)
step_so w₀ name piece Looking call answer w asks fits right s =
    look_so w₀ name answer (subst (λ c. IsAnswerTo c answer) asks fits) (subst (IsRight (Look name) answer) s (subst (λ c. IsRight c answer w) asks right))
step_so w₀ name piece Creating call answer w asks fits right s =
    create_so w₀ name answer (subst (λ c. IsAnswerTo c answer) asks fits) (subst (IsRight (Create name) answer) s.0 (subst (λ c. IsRight c answer w) asks right)) s.1
step_so w₀ name piece (Writing made old taken) call answer w asks fits right s =
    elim (nat_eq taken (length piece)) as (λ b. StepAsks name piece (cond b (taken_step true) (StepAppend taken)) call → EndsSo w₀ name (heard_append made old taken answer)) [
      | true ↦ λ a. sync_so w₀ name made old taken answer (subst (λ c. IsAnswerTo c answer) a fits)
      | false ↦ λ offer. append_so w₀ name offer.part made old taken answer (subst (λ c. IsAnswerTo c answer) offer.is fits)
    ] asks
step_so w₀ name piece (Cutting old taken) call answer w asks fits right s = cut_so w₀ name old taken answer (subst (λ c. IsAnswerTo c answer) asks fits)
step_so w₀ name piece (Removing taken) call answer w asks fits right s = remove_so w₀ name taken answer (subst (λ c. IsAnswerTo c answer) asks fits)
step_so w₀ name piece (Ended end) call answer w asks fits right s = absurd asks

all_so : (w₀ : World) (name piece : List ℕ) (calls : List Logged) (at last : AppendState) (w : World) → Stands w₀ name piece at w → EndsSo w₀ name at
    → Transitions (AppendAsks name piece true) append_heard at calls last → AllRight calls w → EndsSo w₀ name last
all_so w₀ name piece [] at last w s so walk right = subst (EndsSo w₀ name) (sym walk) so
all_so w₀ name piece (c ∷ cs) at last w s so walk right =
    all_so w₀ name piece cs (append_heard at c.answer) last (after_call c.call c.answer w) (stands_step w₀ name piece true at c.call c.answer w walk.0 walk.1 right.0 s)
    (step_so w₀ name piece at c.call c.answer w walk.0 walk.1 right.0 s) walk.2 right.1

end_so : (w₀ : World) (name piece : List ℕ) (at : AppendState) (end : AppendEnd) → append_step (length piece) true at ≡ Finish end → EndsSo w₀ name at → EndsSo w₀ name (Ended end)
end_so w₀ name piece Looking end e so = absurd (cc)
end_so w₀ name piece Creating end e so = absurd (cc)
end_so w₀ name piece (Writing made old taken) end e so =
    elim (nat_eq taken (length piece)) as (λ b. cond b (taken_step true) (StepAppend taken) ≡ Finish end → EndsSo w₀ name (Ended end)) [
      | true ↦ λ t. absurd (cc)
      | false ↦ λ t. absurd (cc)
    ] e
end_so w₀ name piece (Cutting old taken) end e so = absurd (cc)
end_so w₀ name piece (Removing taken) end e so = absurd (cc)
end_so w₀ name piece (Ended end') end e so = let f : end' ≡ end = cc in subst (λ x. EndsSo w₀ name (Ended x)) f so

-- what an append made of what stood there
abbrev pub AddedTo : List ℕ → Written → Option Node → Option Node → Type 0
AddedTo piece Done there here = IsNoFolder there → IsNoFolder here × (bytes_at here ≡ bytes_at there ++ piece)
AddedTo piece Failed there here = (here ≡ there) ⊎ (IsNoFolder there → (count : ℕ) × (bytes_at here ≡ bytes_at there ++ take count piece))
AddedTo piece IsFolder there here = (there ≡ Some AFolder) × (here ≡ there)
AddedTo piece Raced there here = ⊥

longer_bytes : (x : Option Node) (m : ℤ) (more : List ℕ) → IsNoFolder x → bytes_at (longer x m more) ≡ bytes_at x ++ more
longer_bytes (Some (AFile f)) m more k = refl
longer_bytes (Some AFolder) m more k = absurd k
longer_bytes None m more k = refl

longer_plain : (x : Option Node) (m : ℤ) (more : List ℕ) → IsNoFolder x → IsNoFolder (longer x m more)
longer_plain (Some (AFile f)) m more k = tt
longer_plain (Some AFolder) m more k = k
longer_plain None m more k = tt

-- at one name alone the world is another
abbrev pub ChangedAt : List ℕ → (Option Node → Option Node → Type 0) → World → World → Type 0
ChangedAt name R w v = (here : Option Node) × (v ≡ world_with w name here) × R (w.nodes name) here

pub unchanged : (name : List ℕ) (w v : World) → v ≡ w → v ≡ world_with w name (w.nodes name)
unchanged name w v e = e ∙ sym (put_same w name (w.nodes name) refl)

end_added : (name piece : List ℕ) (end : AppendEnd) (calls : List Logged) (w v : World) → AppendGroup name piece true end calls → Steps calls w v → EndsSo w name (Ended end)
    → ChangedAt name (AddedTo piece (written_of end)) w v
end_added name piece EndDone calls w v group steps so = (
  longer (w.nodes name) w.moment piece,
  append_effect name piece true EndDone calls w v group steps,
  λ k. (longer_plain (w.nodes name) w.moment piece k, longer_bytes (w.nodes name) w.moment piece k),
)
end_added name piece EndUndone calls w v group steps so =
    (w.nodes name, unchanged name w v (append_effect name piece true EndUndone calls w v group steps), inl refl)
end_added name piece (EndTorn n) calls w v group steps so = (
  longer (w.nodes name) w.moment (take n piece),
  append_effect name piece true (EndTorn n) calls w v group steps,
  inr (λ k. (n, longer_bytes (w.nodes name) w.moment (take n piece) k)),
)
end_added name piece EndFolder calls w v group steps so =
    (w.nodes name, unchanged name w v (append_effect name piece true EndFolder calls w v group steps), (so, refl))
end_added name piece EndRaced calls w v group steps so = absurd so

appends_added : (name piece : List ℕ) (end : AppendEnd) (a b : HostView) → Appends name piece true end a b → Tells (ChangedAt name (AddedTo piece (written_of end))) a.world b.world
appends_added name piece end a b appends =
    let group = appends.group in
    tells_map (Steps appends.calls) (ChangedAt name (AddedTo piece (written_of end)))
    (λ w v s. end_added name piece end appends.calls w v group s
    (end_so w name piece group.last end group.ends (all_so w name piece appends.calls Looking group.last w refl tt group.walk s.right))) a.world b.world appends.ran.world

adds_added : (name piece : List ℕ) (written : Written) (a b : HostView) → Adds name piece written a b → Tells (ChangedAt name (AddedTo piece written)) a.world b.world
adds_added name piece written a b adds =
    subst (λ x. Tells (ChangedAt name (AddedTo piece x)) a.world b.world) (sym adds.is) (appends_added name piece adds.end a b adds.appends)

-- the bytes that are looked through are those that stand there, or the first 2,097,152 of them
abbrev pub Agree : List ℕ → Option Node → Type 0
Agree old there = IsNoFolder there × ((old ≡ bytes_at there) ⊎ (old ≡ take 2097152 (bytes_at there)))

-- what the addition of an identifier made of what stood there
abbrev pub AddedBy : ℕ → List ℕ → Written → Option Node → Option Node → Type 0
AddedBy most id Done there here = IsNoFolder here × (bytes_at here ≡ next_of most (bytes_at there) id)
AddedBy most id Failed there here = (here ≡ there) ⊎ ((count : ℕ) × (bytes_at here ≡ part_of most (bytes_at there) id count))
AddedBy most id IsFolder there here = ⊥
AddedBy most id Raced there here = ⊥

short_is_whole : (most : ℕ) (old : List ℕ) (there : Option Node) → most ≤ 2097152 → length old < most → Agree old there → old ≡ bytes_at there
short_is_whole most old there h few agree =
    elim agree.1 [
      | inl e ↦ e
      | inr e ↦ e ∙ front_whole most (bytes_at there) h (subst (λ l. length l < most) e few)
    ]

full_is_full : (most : ℕ) (old : List ℕ) (there : Option Node) → most ≤ length old → Agree old there → most ≤ length (bytes_at there)
full_is_full most old there full agree =
    elim agree.1 [
      | inl e ↦ subst (λ l. most ≤ length l) e full
      | inr e ↦ front_full most (bytes_at there) (subst (λ l. most ≤ length l) e full)
    ]

-- what was appended at the end
ended_added : (most : ℕ) (id : List ℕ) (how : Written) (there here : Option Node) → IsNoFolder there → length (bytes_at there) < most
    → AddedTo (addition_to (bytes_at there) id) how there here → AddedBy most id how there here
ended_added most id Done there here plain few added =
    let all = added plain in (all.0, all.1 ∙ sym (ap (λ l. l ++ addition_to l id) (left_all most (bytes_at there) few)))
ended_added most id Failed there here plain few (inl same) = inl same
ended_added most id Failed there here plain few (inr some) =
    let part = some plain in inr (part.0, part.1 ∙ sym (ap (λ l. l ++ take part.0 (addition_to l id)) (left_all most (bytes_at there) few)))
ended_added most id IsFolder there here plain few added = subst IsNoFolder added.0 plain
ended_added most id Raced there here plain few added = added

-- an empty file got these bytes
emptied_added : (most : ℕ) (id : List ℕ) (how : Written) (f : File) (there here : Option Node) → most ≤ length (bytes_at there)
    → AddedTo (addition_to [] id) how (kept (Some (AFile f)) 0) here → AddedBy most id how there here
emptied_added most id Done f there here full added =
    let all = added tt in (all.0, all.1 ∙ sym (ap (λ l. l ++ addition_to l id) (left_none most (bytes_at there) full)))
emptied_added most id Failed f there here full (inl same) =
    inr (0, ap bytes_at same ∙ sym (ap (λ l. l ++ take 0 (addition_to l id)) (left_none most (bytes_at there) full)))
emptied_added most id Failed f there here full (inr some) =
    let part = some tt in inr (part.0, part.1 ∙ sym (ap (λ l. l ++ take part.0 (addition_to l id)) (left_none most (bytes_at there) full)))
emptied_added most id IsFolder f there here full added = let e = added.0 in absurd (cc)
emptied_added most id Raced f there here full added = added

file_is : (x : Option Node) → IsFile x → (f : File) × (x ≡ Some (AFile f))
file_is (Some (AFile f)) right = (f, refl)
file_is (Some AFolder) right = absurd right
file_is None right = absurd right

-- the addition, once it is known that the bytes that were looked through stand there
abbrev pub AddedAfter : List ℕ → ℕ → List ℕ → List ℕ → Written → World → World → Type 0
AddedAfter name most old id how w v = Agree old (w.nodes name) → ChangedAt name (AddedBy most id how) w v

-- the cut, and then the addition
begun_join : (name : List ℕ) (most : ℕ) (old id : List ℕ) (how : Written) (w m v : World) → most ≤ length old → Step (CutTo name 0) (AnswerCut CutDone) w m
    → ChangedAt name (AddedTo (addition_to [] id) how) m v → AddedAfter name most old id how w v
begun_join name most old id how w m v full step changed agree =
    let file = file_is (w.nodes name) step.right in
    let empty = kept (w.nodes name) 0 in
    let there : m.nodes name ≡ kept (Some (AFile file.0)) 0 = ap (λ x. x.nodes name) step.made ∙ get-put w name empty ∙ ap (λ x. kept x 0) file.1 in (
      changed.0,
      changed.1 ∙ ap (λ x. world_with x name changed.0) step.made ∙ put_put w name empty changed.0,
      emptied_added most id how file.0 (w.nodes name) changed.0 (full_is_full most old (w.nodes name) full agree)
          (subst (λ x. AddedTo (addition_to [] id) how x changed.0) there changed.2),
    )

at_end_join : (name : List ℕ) (most : ℕ) (old id : List ℕ) (how : Written) (w v : World) → most ≤ 2097152 → length old < most
    → ChangedAt name (AddedTo (addition_to old id) how) w v → AddedAfter name most old id how w v
at_end_join name most old id how w v h few changed agree =
    let whole = short_is_whole most old (w.nodes name) h few agree in (
      changed.0,
      changed.1,
      ended_added most id how (w.nodes name) changed.0 agree.0 (subst (λ l. length l < most) whole few)
          (subst (λ l. AddedTo (addition_to l id) how (w.nodes name) changed.0) whole changed.2),
    )

uncut_same : (name : List ℕ) (most : ℕ) (old id : List ℕ) (w v : World) → Step (CutTo name 0) (AnswerCut CutFailed) w v → AddedAfter name most old id Failed w v
uncut_same name most old id w v step agree = (w.nodes name, unchanged name w v step.made, inl refl)

-- what the addition of an identifier made of the tree
pub id_added : (name : List ℕ) (most : ℕ) (old id : List ℕ) (how : Written) (a b : HostView) → most ≤ 2097152 → AddsId name most old id how a b
    → Tells (AddedAfter name most old id how) a.world b.world
id_added name most old id how a b h (at_end few adds) =
    tells_map (ChangedAt name (AddedTo (addition_to old id) how)) (AddedAfter name most old id how)
    (λ w v s. at_end_join name most old id how w v h few s) a.world b.world (adds_added name (addition_to old id) how a b adds)
id_added name most old id how a b h (again full (uncut failed makes)) =
    subst (λ x. Tells (AddedAfter name most old id x) a.world b.world) (sym failed)
    (tells_map (Step (CutTo name 0) (AnswerCut CutFailed)) (AddedAfter name most old id Failed) (uncut_same name most old id) a.world b.world makes.world)
id_added name most old id how a b h (again full (cut middle makes adds)) =
    tells_then (Step (CutTo name 0) (AnswerCut CutDone)) (ChangedAt name (AddedTo (addition_to [] id) how)) (AddedAfter name most old id how)
    (λ w m v r s. begun_join name most old id how w m v full r s)
    a.world middle.world b.world makes.world (adds_added name (addition_to [] id) how middle b adds)
