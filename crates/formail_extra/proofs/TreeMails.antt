-- What the identifiers of some mails that are held against a cache make of the tree, one mail after the other.
use Rattle.std.proofs.Common.{◌≡◌, ◌≤◌, ◌⊎◌, ℕ, Bool, true, false, not, ◌||◌, List, [], ◌∷◌, take, Option, Some, None, refl, sym, ap, ◌∙◌, subst, inl, inr, if◌then◌else◌}
use Rattle.std.specs.List.{list_any}
use Rattle.pm_host.specs.World.{World, world_with}
use Rattle.pm_host.specs.Told.{HostView, Tells}
use Rattle.pm_host.proofs.Put.{get-put, put_put}
use Rattle.pm_host.proofs.RunsJoin.{tells_at, tells_map, tells_then}
use Rattle.pm_host.specs.declared.nodes.Node.{Node}
use Rattle.pm_journal.specs.Deliveries.{bytes_at}
use Rattle.formail_extra.specs.Cache.{is_seen, next_of, is_new, cache_after, marks_of}
use Rattle.formail_extra.specs.Adding.{AsksNothing, Holds, no_id, known_id, new_id, Onward, HoldsAll}
use Rattle.formail_extra.specs.Tree.{part_of, Brought, BroughtInPart, whole, partly}
use Rattle.formail_extra.specs.declared.adding.Written.{Written}
use Rattle.formail_extra.specs.declared.adding.Written.TheVariants.{Done, IsFolder, Raced, Failed}
use Rattle.formail_extra.proofs.FrontMarks.{seen_same, next_same}
use Rattle.formail_extra.proofs.TreeFacts.{IsNoFolder, ChangedAt, unchanged, Agree, AddedBy, AddedAfter, id_added}

or_left : (x y : Bool) → (x || y) ≡ false → x ≡ false
or_left true y e = absurd (cc)
or_left false y e = refl

or_right : (x y : Bool) → (x || y) ≡ false → y ≡ false
or_right true y e = absurd (cc)
or_right false y e = e

-- what one mail made of what stood there
abbrev OneHeld : ℕ → Option (List ℕ) → Written → Option Node → Option Node → Type 0
OneHeld most id Done there mid =
    IsNoFolder mid × (cache_after most (bytes_at there) id ≡ bytes_at mid) × (is_new (bytes_at there) id ≡ false → mid ≡ there)
OneHeld most id Failed there mid =
    (mid ≡ there) ⊎ ((line : List ℕ) × (count : ℕ) × (id ≡ Some line) × (bytes_at mid ≡ part_of most (bytes_at there) line count))
OneHeld most id IsFolder there mid = ⊥
OneHeld most id Raced there mid = ⊥

-- the same, once it is known that the bytes that were looked through stand there
abbrev OneAfter : List ℕ → ℕ → List ℕ → Option (List ℕ) → Written → World → World → Type 0
OneAfter name most old id how w v = Agree old (w.nodes name) → ChangedAt name (OneHeld most id how) w v

seen_agrees : (old line : List ℕ) (there : Option Node) → Agree old there → is_seen old line ≡ is_seen (bytes_at there) line
seen_agrees old line there agree =
    elim agree.1 [
      | inl e ↦ ap (λ o. is_seen o line) e
      | inr e ↦ ap (λ o. is_seen o line) e ∙ seen_same (bytes_at there) line
    ]

next_agrees : (most : ℕ) (old line : List ℕ) (there : Option Node) → most ≤ 2097152 → Agree old there → next_of most old line ≡ next_of most (bytes_at there) line
next_agrees most old line there h agree =
    elim agree.1 [
      | inl e ↦ ap (λ o. next_of most o line) e
      | inr e ↦ ap (λ o. next_of most o line) e ∙ next_same most (bytes_at there) line h
    ]

-- nothing was asked: what stood there stands there
asked_none : (name : List ℕ) (most : ℕ) (old : List ℕ) (id : Option (List ℕ)) (how : Written) (a b : HostView)
    → ((there : Option Node) → Agree old there → cache_after most (bytes_at there) id ≡ bytes_at there) → AsksNothing how a b → Tells (OneAfter name most old id how) a.world b.world
asked_none name most old id how a b behind asks =
    subst (λ h. Tells (OneAfter name most old id how) a.world h.world) (sym asks.1)
    (subst (λ x. Tells (OneAfter name most old id x) a.world a.world) (sym asks.0)
    (tells_at (OneAfter name most old id Done) (λ w. λ agree. (w.nodes name, unchanged name w w refl, (agree.0, behind (w.nodes name) agree, λ e. refl))) a.world))

known_after : (most : ℕ) (old line : List ℕ) → is_seen old line ≡ true → (there : Option Node) → Agree old there → cache_after most (bytes_at there) (Some line) ≡ bytes_at there
known_after most old line seen there agree =
    ap (λ s. if s then bytes_at there else next_of most (bytes_at there) line) (sym (seen_agrees old line there agree) ∙ seen)

-- an addition as what one mail made
added_held : (most : ℕ) (old line : List ℕ) (how : Written) (there mid : Option Node) → is_seen old line ≡ false → Agree old there → AddedBy most line how there mid
    → OneHeld most (Some line) how there mid
added_held most old line Done there mid unseen agree added =
    let fresh : is_seen (bytes_at there) line ≡ false = sym (seen_agrees old line there agree) ∙ unseen in (
      added.0,
      ap (λ s. if s then bytes_at there else next_of most (bytes_at there) line) fresh ∙ sym added.1,
      λ known. let e : true ≡ false = sym (ap not fresh) ∙ known in absurd (cc),
    )
added_held most old line Failed there mid unseen agree (inl same) = inl same
added_held most old line Failed there mid unseen agree (inr part) = inr (line, part.0, refl, part.1)
added_held most old line IsFolder there mid unseen agree added = added
added_held most old line Raced there mid unseen agree added = added

one_new : (name : List ℕ) (most : ℕ) (old line : List ℕ) (how : Written) (w v : World) → is_seen old line ≡ false → AddedAfter name most old line how w v
    → OneAfter name most old (Some line) how w v
one_new name most old line how w v unseen after agree =
    let changed = after agree in (changed.0, changed.1, added_held most old line how (w.nodes name) changed.0 unseen agree changed.2)

one_held : (name : List ℕ) (most : ℕ) (old : List ℕ) (id : Option (List ℕ)) (how : Written) (a b : HostView) → most ≤ 2097152 → Holds name most old id how a b
    → Tells (OneAfter name most old id how) a.world b.world
one_held name most old id how a b h (no_id is asks) =
    subst (λ i. Tells (OneAfter name most old i how) a.world b.world) (sym is) (asked_none name most old None how a b (λ there agree. refl) asks)
one_held name most old id how a b h (known_id line is seen asks) =
    subst (λ i. Tells (OneAfter name most old i how) a.world b.world) (sym is)
    (asked_none name most old (Some line) how a b (known_after most old line seen) asks)
one_held name most old id how a b h (new_id line is unseen adds) =
    subst (λ i. Tells (OneAfter name most old i how) a.world b.world) (sym is)
    (tells_map (AddedAfter name most old line how) (OneAfter name most old (Some line) how) (λ w v after. one_new name most old line how w v unseen after)
    a.world b.world (id_added name most old line how a b h adds))

-- what all mails made of what stood there
abbrev pub AllHeld : ℕ → List (Option (List ℕ)) → Written → Option Node → Option Node → Type 0
AllHeld most ids Done there here = Brought most ids there here
AllHeld most ids Failed there here = BroughtInPart most ids there here
AllHeld most ids IsFolder there here = ⊥
AllHeld most ids Raced there here = ⊥

-- the same, once it is known that the bytes that were looked through stand there
abbrev pub HeldAfter : List ℕ → ℕ → List ℕ → List (Option (List ℕ)) → Written → World → World → Type 0
HeldAfter name most old ids how w v = Agree old (w.nodes name) → ChangedAt name (AllHeld most ids how) w v

-- the mails after one
brought_then : (most : ℕ) (id : Option (List ℕ)) (ids : List (Option (List ℕ))) (there mid here : Option Node) → IsNoFolder there → OneHeld most id Done there mid
    → Brought most ids mid here → Brought most (id ∷ ids) there here
brought_then most id ids there mid here plain one brought = record {
  bytes = brought.bytes ∙ sym (ap (λ c. (marks_of most c ids).cache) one.1);
  same = λ known.
      let first = one.2 (or_left (is_new (bytes_at there) id) (list_any (is_new (bytes_at there)) ids) known) in
      let others = or_right (is_new (bytes_at there) id) (list_any (is_new (bytes_at there)) ids) known in
      brought.same (subst (λ x. list_any (is_new (bytes_at x)) ids ≡ false) (sym first) others) ∙ first;
  folder = λ e. absurd (subst IsNoFolder e plain);
}

part_then : (most : ℕ) (id : Option (List ℕ)) (ids : List (Option (List ℕ))) (there mid here : Option Node) → IsNoFolder there → OneHeld most id Done there mid
    → BroughtInPart most ids mid here → BroughtInPart most (id ∷ ids) there here
part_then most id ids there mid here plain one (whole first rest is brought) =
    whole (id ∷ first) rest (ap (λ l. id ∷ l) is) (brought_then most id first there mid here plain one brought)
part_then most id ids there mid here plain one (partly first line rest count is bytes) =
    partly (id ∷ first) line rest count (ap (λ l. id ∷ l) is) (bytes ∙ sym (ap (λ c. part_of most (marks_of most c first).cache line count) one.1))

all_then : (most : ℕ) (id : Option (List ℕ)) (ids : List (Option (List ℕ))) (how : Written) (there mid here : Option Node) → IsNoFolder there → OneHeld most id Done there mid
    → AllHeld most ids how mid here → AllHeld most (id ∷ ids) how there here
all_then most id ids Done there mid here plain one all = brought_then most id ids there mid here plain one all
all_then most id ids Failed there mid here plain one all = part_then most id ids there mid here plain one all
all_then most id ids IsFolder there mid here plain one all = all
all_then most id ids Raced there mid here plain one all = all

-- the bytes that are looked through for the next mail stand there too
abbrev Same : List ℕ → List ℕ → Type 0
Same old bytes = (old ≡ bytes) ⊎ (old ≡ take 2097152 bytes)

moved : (old bytes bytes' : List ℕ) → bytes ≡ bytes' → Same old bytes → Same old bytes'
moved old bytes bytes' e same = subst (Same old) e same

after_agrees : (most : ℕ) (old : List ℕ) (id : Option (List ℕ)) (there mid : Option Node) → most ≤ 2097152 → Agree old there → cache_after most (bytes_at there) id ≡ bytes_at mid
    → Same (cache_after most old id) (bytes_at mid)
after_agrees most old None there mid h agree behind = moved old (bytes_at there) (bytes_at mid) behind agree.1
after_agrees most old (Some line) there mid h agree behind =
    subst (λ s. Same (if s then old else next_of most old line) (bytes_at mid)) (sym (seen_agrees old line there agree))
    (elim (is_seen (bytes_at there) line) as (λ s. (if s then bytes_at there else next_of most (bytes_at there) line) ≡ bytes_at mid → Same (if s then old else next_of most old line) (bytes_at mid)) [
      | true ↦ λ e. moved old (bytes_at there) (bytes_at mid) e agree.1
      | false ↦ λ e. inl (next_agrees most old line there h agree ∙ e)
    ] behind)

-- one mail, and then the others
then_join : (name : List ℕ) (most : ℕ) (old : List ℕ) (id : Option (List ℕ)) (ids : List (Option (List ℕ))) (how : Written) (w m v : World) → most ≤ 2097152
    → OneAfter name most old id Done w m → HeldAfter name most (cache_after most old id) ids how m v → HeldAfter name most old (id ∷ ids) how w v
then_join name most old id ids how w m v h one others agree =
    let first = one agree in
    let there : m.nodes name ≡ first.0 = ap (λ x. x.nodes name) first.1 ∙ get-put w name first.0 in
    let agrees : Agree (cache_after most old id) (m.nodes name) =
    subst (Agree (cache_after most old id)) (sym there) (first.2.0, after_agrees most old id (w.nodes name) first.0 h agree first.2.1) in
    let rest = others agrees in (
      rest.0,
      rest.1 ∙ ap (λ x. world_with x name rest.0) first.1 ∙ put_put w name first.0 rest.0,
      all_then most id ids how (w.nodes name) first.0 rest.0 agree.0 first.2 (subst (λ x. AllHeld most ids how x rest.0) there rest.2),
    )

-- the mail at which it was broken off
stopped : (most : ℕ) (id : Option (List ℕ)) (ids : List (Option (List ℕ))) (there here : Option Node) → OneHeld most id Failed there here → BroughtInPart most (id ∷ ids) there here
stopped most id ids there here (inl same) = whole [] (id ∷ ids) refl (record { bytes = ap bytes_at same; same = λ e. same; folder = λ e. same })
stopped most id ids there here (inr part) = partly [] part.0 ids part.1 (ap (λ i. i ∷ ids) part.2) part.3

stopped_after : (name : List ℕ) (most : ℕ) (old : List ℕ) (id : Option (List ℕ)) (ids : List (Option (List ℕ))) (w v : World) → OneAfter name most old id Failed w v
    → HeldAfter name most old (id ∷ ids) Failed w v
stopped_after name most old id ids w v one agree =
    let first = one agree in (first.0, first.1, stopped most id ids (w.nodes name) first.0 first.2)

-- nothing comes after another end
stop_at : (name : List ℕ) (most : ℕ) (old : List ℕ) (ids : List (Option (List ℕ))) (stop how : Written) (a m b : HostView) → (how ≡ stop) × (b ≡ m)
    → Tells (HeldAfter name most old ids stop) a.world m.world → Tells (HeldAfter name most old ids how) a.world b.world
stop_at name most old ids stop how a m b onward held =
    subst (λ h. Tells (HeldAfter name most old ids how) a.world h.world) (sym onward.1)
    (subst (λ x. Tells (HeldAfter name most old ids x) a.world m.world) (sym onward.0) held)

onward_held : (name : List ℕ) (most : ℕ) (old : List ℕ) (id : Option (List ℕ)) (ids : List (Option (List ℕ))) (first how : Written) (others : Type 0) (a m b : HostView) → most ≤ 2097152
    → Tells (OneAfter name most old id first) a.world m.world → (others → Tells (HeldAfter name most (cache_after most old id) ids how) m.world b.world)
    → Onward first others how m b → Tells (HeldAfter name most old (id ∷ ids) how) a.world b.world
onward_held name most old id ids Done how others a m b h one rest onward =
    tells_then (OneAfter name most old id Done) (HeldAfter name most (cache_after most old id) ids how) (HeldAfter name most old (id ∷ ids) how)
    (λ w x v r s. then_join name most old id ids how w x v h r s) a.world m.world b.world one (rest onward)
onward_held name most old id ids Failed how others a m b h one rest onward =
    stop_at name most old (id ∷ ids) Failed how a m b onward
    (tells_map (OneAfter name most old id Failed) (HeldAfter name most old (id ∷ ids) Failed) (stopped_after name most old id ids) a.world m.world one)
onward_held name most old id ids IsFolder how others a m b h one rest onward =
    stop_at name most old (id ∷ ids) IsFolder how a m b onward
    (tells_map (OneAfter name most old id IsFolder) (HeldAfter name most old (id ∷ ids) IsFolder) (λ w v r. λ agree. r agree) a.world m.world one)
onward_held name most old id ids Raced how others a m b h one rest onward =
    stop_at name most old (id ∷ ids) Raced how a m b onward
    (tells_map (OneAfter name most old id Raced) (HeldAfter name most old (id ∷ ids) Raced) (λ w v r. λ agree. r agree) a.world m.world one)

-- what the identifiers of some mails make of the tree
pub all_held : (name : List ℕ) (most : ℕ) (old : List ℕ) (ids : List (Option (List ℕ))) (how : Written) (a b : HostView) → most ≤ 2097152 → HoldsAll name most old ids how a b
    → Tells (HeldAfter name most old ids how) a.world b.world
all_held name most old [] how a b h asks =
    stop_at name most old [] Done how a a b asks
    (tells_at (HeldAfter name most old [] Done) (λ w. λ agree. (w.nodes name, unchanged name w w refl, record { bytes = refl; same = λ e. refl; folder = λ e. refl })) a.world)
all_held name most old (id ∷ ids) how a b h all =
    let middle = all.1 in
    onward_held name most old id ids all.0 how (HoldsAll name most (cache_after most old id) ids how middle b) a middle b h
    (one_held name most old id all.0 a middle h all.2) (all_held name most (cache_after most old id) ids how middle b h) all.3
