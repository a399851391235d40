-- Each file ends as its opening bytes and what the entries added to it.
use Rattle.std.proofs.Common.{◌≡◌, ◌⊎◌, inl, inr, ℕ, Bool, true, false, cond, List, [], ◌∷◌, ◌++◌, take, Option, Some, None, refl, sym, ap, ◌∙◌, subst, append_assoc, append-nil, bytes_eq}
use Rattle.std.proofs.lemmas.Slice.Eq.{bytes_eq-Decides}
use Rattle.pm_host.specs.World.{World}
use Rattle.pm_host.specs.Told.{Tells}
use Rattle.pm_host.specs.Runs.{AllRight, Steps, after_calls}
use Rattle.pm_host.specs.declared.answers.Made.TheVariants.{Made as MadeNew}
use Rattle.pm_host.specs.declared.calls.Call.{Call}
use Rattle.pm_host.specs.declared.calls.Call.TheVariants.{MakeFolder}
use Rattle.pm_host.specs.declared.calls.Answer.{Answer}
use Rattle.pm_host.specs.declared.calls.Answer.TheVariants.{MakeFolder as AnswerMakeFolder}
use Rattle.pm_host.specs.declared.calls.Logged.{Logged}
use Rattle.pm_host.proofs.RunsJoin.{after_calls-append}
use Rattle.pm_host.specs.declared.nodes.Node.{Node}
use Rattle.pm_journal.specs.ChildLaws.{ChangesAsOthers}
use Rattle.pm_journal.specs.Filed.{folders_of, IsOneOf, SameOrMade, AddsFile, PlacesRight}
use Rattle.pm_journal.specs.Placing.{with_folders, folder_by, after_placed, after_place}
use Rattle.pm_journal.specs.Deliveries.{OthersLeave, bytes_at, AddsExactly, AddsAsReplied, DeliversRight, AllDelivered, added, filed_at, added_by, all_added, IsNoLock, files_at, writes_to, folders_by, all_folders, Grows, AllGrow}
use Rattle.pm_journal.specs.Entries.{View, Protocol, Honest, joined, append_end_of, after_act, after_unlock, Accounts}
use Rattle.pm_journal.specs.Effects.{after_append_end}
use Rattle.pm_journal.proofs.AccountsJoin.{AllRight-split, act_effect}
use Rattle.pm_journal.specs.declared.appending.AppendEnd.{AppendEnd}
use Rattle.pm_journal.specs.declared.appending.AppendEnd.TheVariants.{Done as EndDone, Undone as EndUndone, Torn as EndTorn, IsFolder as EndFolder, Raced as EndRaced}
use Rattle.pm_journal.specs.Held.{lock_name_is}
use Rattle.pm_journal.specs.Laws.{DeliveriesStand, FilesGrow}
use Rattle.pm_journal.proofs.DeliveriesHold.{accounts_deliver}
use Rattle.pm_journal.proofs.LockLeaves.{Untouched, batch_apart}
use Rattle.pm_journal.proofs.PlaceDelivers.{both_made}
use Rattle.pm_journal.specs.declared.acts.Act.{Act}
use Rattle.pm_journal.specs.declared.acts.Act.TheVariants.{Append as AppendTo, ReadFile, Probe, Place, Lock, Unlock, Run, SayFile, SayErr, WriteOut, Moment}
use Rattle.pm_journal.specs.declared.acts.Reply.{Reply}
use Rattle.pm_journal.specs.declared.acts.Reply.TheVariants.{Done, Torn, Placed, TornAt, NotStarted, Removed}
use Rattle.pm_journal.specs.declared.acts.Entry.{Entry}

-- others may act meanwhile
abbrev IsLong : Act → Type 0
IsLong (Lock name sleep limit suspend tries) = Unit {0}
IsLong (Run command input want) = Unit {0}
IsLong act = ⊥

tells_both : {T : Type 0} (R S U : T → T → Type 0) → ((a b : T) → R a b → S a b → U a b) → (x y : Option T) → Tells R x y → Tells S x y → Tells U x y
tells_both R S U both (Some a) (Some b) r s = both a b r s
tells_both R S U both (Some a) None r s = tt
tells_both R S U both None (Some b) r s = absurd r
tells_both R S U both None None r s = tt

-- what stands at a name after one act
record Leaves (act : Act) (reply : Reply) (name : List ℕ) (old new : World) : Type 0 where
  bytes : bytes_at (new.nodes name) ≡ bytes_at (old.nodes name) ++ added_by act reply name
  same : writes_to act reply name ≡ false → SameOrMade (folders_by act) name (old.nodes name) (new.nodes name)

stays : (act : Act) (reply : Reply) (name : List ℕ) (w v : World) → added_by act reply name ≡ [] → v.nodes name ≡ w.nodes name → Leaves act reply name w v
stays act reply name w v none e = record {
  bytes = ap bytes_at e ∙ sym (append-nil (bytes_at (w.nodes name))) ∙ ap (λ l. bytes_at (w.nodes name) ++ l) (sym none);
  same = λ apart. inl e;
}

-- a folder that was made has no bytes
pub made_bytes : (folders : List (List ℕ)) (name : List ℕ) (x y : Option Node) → SameOrMade folders name x y → bytes_at y ≡ bytes_at x ++ []
made_bytes folders name x y (inl e) = ap bytes_at e ∙ sym (append-nil (bytes_at x))
made_bytes folders name x y (inr e) = ap bytes_at e.2 ∙ ap (λ z. bytes_at z ++ []) (sym e.1)

filed_bytes : (folders : List (List ℕ)) (file bytes : List ℕ) (w v : World) (name : List ℕ) → AddsFile folders file bytes w v
    → bytes_at (v.nodes name) ≡ bytes_at (w.nodes name) ++ cond (bytes_eq file name) bytes []
filed_bytes folders file bytes w v name a =
    elim (bytes_eq file name) as (λ b. bytes_eq file name ≡ b → bytes_at (v.nodes name) ≡ bytes_at (w.nodes name) ++ cond b bytes []) [
      | true ↦ λ t. subst (λ q. bytes_at (v.nodes q) ≡ bytes_at (w.nodes q) ++ bytes) ((bytes_eq-Decides file name).0 t) (ap bytes_at a.file ∙ ap (λ z. bytes_at z ++ bytes) (sym a.was_free))
      | false ↦ λ t. made_bytes folders name (w.nodes name) (v.nodes name) (a.others name t)
    ] refl

placed_bytes : (folders : List (List ℕ)) (piece : List ℕ) (reply : Reply) (w v : World) (name : List ℕ) → PlacesRight folders piece reply w v
    → bytes_at (v.nodes name) ≡ bytes_at (w.nodes name) ++ filed_at reply piece name
placed_bytes folders piece (Placed file) w v name d = filed_bytes folders file piece w v name d
placed_bytes folders piece (TornAt file count) w v name d = filed_bytes folders file (take count piece) w v name d.adds
placed_bytes folders piece other w v name d = made_bytes folders name (w.nodes name) (v.nodes name) (d.each name)

placed_others : (folders : List (List ℕ)) (piece : List ℕ) (reply : Reply) (w v : World) (name : List ℕ) → PlacesRight folders piece reply w v → files_at reply name ≡ false
    → SameOrMade folders name (w.nodes name) (v.nodes name)
placed_others folders piece (Placed file) w v name d apart = d.others name apart
placed_others folders piece (TornAt file count) w v name d apart = d.adds.others name apart
placed_others folders piece other w v name d apart = d.each name

-- a program that was started leaves what others leave
run_apart : (reply : Reply) (w v : World) (name : List ℕ) → ChangesAsOthers reply w v → OthersLeave w.others name → Untouched name w v
run_apart NotStarted w v name d left = record { here = ap (λ u. u.nodes name) d; left = subst (λ u. OthersLeave u.others name) (sym d) left }
run_apart other w v name d left =
    let b = batch_apart w.others w name refl left in
    record { here = ap (λ n. n name) d.0 ∙ b.here; left = subst (λ l. OthersLeave l name) (sym d.2) b.left }

grown_at : (file more : List ℕ) (w v : World) (name : List ℕ) → AddsExactly file more w v → bytes_at (v.nodes name) ≡ bytes_at (w.nodes name) ++ cond (bytes_eq file name) more []
grown_at file more w v name a =
    elim (bytes_eq file name) as (λ b. bytes_eq file name ≡ b → bytes_at (v.nodes name) ≡ bytes_at (w.nodes name) ++ cond b more []) [
      | true ↦ λ t. subst (λ q. bytes_at (v.nodes q) ≡ bytes_at (w.nodes q) ++ more) ((bytes_eq-Decides file name).0 t) a.bytes
      | false ↦ λ t. ap bytes_at (a.others name t) ∙ sym (append-nil (bytes_at (w.nodes name)))
    ] refl

either_none : (b : Bool) → ◌≡◌ {A = List ℕ} (cond b [] []) []
either_none true = refl
either_none false = refl

append_bytes : (file piece : List ℕ) (reply : Reply) (w v : World) (name : List ℕ) → AddsAsReplied file piece reply w v
    → bytes_at (v.nodes name) ≡ bytes_at (w.nodes name) ++ cond (bytes_eq file name) (added reply piece) []
append_bytes file piece Done w v name d = grown_at file piece w v name d
append_bytes file piece (Torn count) w v name d = grown_at file (take count piece) w v name d.adds
append_bytes file piece other w v name d =
    ap (λ u. bytes_at (u.nodes name)) d ∙ sym (append-nil (bytes_at (w.nodes name))) ∙ ap (λ l. bytes_at (w.nodes name) ++ l) (sym (either_none (bytes_eq file name)))

append_others : (file piece : List ℕ) (reply : Reply) (w v : World) (name : List ℕ) → AddsAsReplied file piece reply w v → bytes_eq file name ≡ false → v.nodes name ≡ w.nodes name
append_others file piece Done w v name d apart = d.others name apart
append_others file piece (Torn count) w v name d apart = d.adds.others name apart
append_others file piece other w v name d apart = ap (λ u. u.nodes name) d

unlock_others : (file : List ℕ) (reply : Reply) (w : World) (name : List ℕ) → bytes_eq file name ≡ false → (after_unlock reply file w).nodes name ≡ w.nodes name
unlock_others file Removed w name apart = ap (λ b. cond b None (w.nodes name)) apart
unlock_others file other w name apart = refl

act_grows : (act : Act) (reply : Reply) (calls : List Logged) (w v : World) (name : List ℕ) → Protocol act reply calls → DeliversRight act reply w v → lock_name_is act name ≡ false → OthersLeave w.others name
    → Leaves act reply name w v
act_grows (AppendTo file piece) reply calls w v name g d apart left = record { bytes = append_bytes file piece reply w v name d; same = λ other. inl (append_others file piece reply w v name d other) }
act_grows (SayFile file text) reply calls w v name g d apart left = record { bytes = append_bytes file text reply w v name d; same = λ other. inl (append_others file text reply w v name d other) }
act_grows (Lock file sleep limit suspend tries) reply calls w v name g d apart left = stays (Lock file sleep limit suspend tries) reply name w v refl (d.apart name apart left)
act_grows (Place kind folder prefix piece stamp) reply calls w v name g d apart left =
    record { bytes = placed_bytes (folders_of kind folder) piece reply w v name d; same = placed_others (folders_of kind folder) piece reply w v name d }
act_grows (Run command input want) reply calls w v name g d apart left = stays (Run command input want) reply name w v refl (run_apart reply w v name d left).here
act_grows (Unlock file) reply calls w v name g d apart left = stays (Unlock file) reply name w v refl (ap (λ u. u.nodes name) d ∙ unlock_others file reply w name apart)
act_grows (ReadFile file) reply calls w v name g d apart left = stays (ReadFile file) reply name w v refl (ap (λ u. u.nodes name) d)
act_grows (Probe file) reply calls w v name g d apart left = stays (Probe file) reply name w v refl (ap (λ u. u.nodes name) d)
act_grows (SayErr text) reply calls w v name g d apart left = stays (SayErr text) reply name w v refl (ap (λ u. u.nodes name) d)
act_grows (WriteOut piece) reply calls w v name g d apart left = stays (WriteOut piece) reply name w v refl (ap (λ u. u.nodes name) d)
act_grows Moment reply calls w v name g d apart left = stays Moment reply name w v refl (ap (λ u. u.nodes name) d)

append_end_others : (end : AppendEnd) (file piece : List ℕ) (w : World) → (after_append_end end file piece w).others ≡ w.others
append_end_others EndDone file piece w = refl
append_end_others (EndTorn n) file piece w = refl
append_end_others EndUndone file piece w = refl
append_end_others EndFolder file piece w = refl
append_end_others EndRaced file piece w = refl

after_unlock_others : (reply : Reply) (file : List ℕ) (w : World) → (after_unlock reply file w).others ≡ w.others
after_unlock_others Removed file w = refl
after_unlock_others other file w = refl

folder_others : (call : Call) (answer : Answer) (w : World) → (folder_by call answer w).others ≡ w.others
folder_others (MakeFolder name) (AnswerMakeFolder MadeNew) w = refl
folder_others (MakeFolder name) other w = refl
folder_others other answer w = refl

pub folders_others : (calls : List Logged) (w : World) → (with_folders calls w).others ≡ w.others
folders_others [] w = refl
folders_others (c ∷ cs) w = folders_others cs (folder_by c.call c.answer w) ∙ folder_others c.call c.answer w

after_placed_others : (reply : Reply) (piece : List ℕ) (w : World) → (after_placed reply piece w).others ≡ w.others
after_placed_others (Placed name) piece w = refl
after_placed_others (TornAt name count) piece w = refl
after_placed_others other piece w = refl

after_place_others : (reply : Reply) (piece : List ℕ) (calls : List Logged) (w : World) → (after_place reply piece calls w).others ≡ w.others
after_place_others reply piece calls w = after_placed_others reply piece (with_folders calls w) ∙ folders_others calls w

-- what others still do after an act during which they do nothing
act_same_others : (act : Act) (reply : Reply) (calls : List Logged) (w : World) → (after_act act reply calls w).others ≡ w.others ⊎ IsLong act
act_same_others (AppendTo file piece) reply calls w = inl (append_end_others (append_end_of reply) file piece w)
act_same_others (SayFile file text) reply calls w = inl (append_end_others (append_end_of reply) file text w)
act_same_others (Lock file sleep limit suspend tries) reply calls w = inr tt
act_same_others (Run command input want) reply calls w = inr tt
act_same_others (Place kind folder prefix piece stamp) reply calls w = inl (after_place_others reply piece calls w)
act_same_others (Unlock file) reply calls w = inl (after_unlock_others reply file w)
act_same_others (ReadFile file) reply calls w = inl refl
act_same_others (Probe file) reply calls w = inl refl
act_same_others (SayErr text) reply calls w = inl refl
act_same_others (WriteOut piece) reply calls w = inl refl
act_same_others Moment reply calls w = inl refl

long_leaves : (act : Act) (reply : Reply) (w v : World) (name : List ℕ) → IsLong act → DeliversRight act reply w v → OthersLeave w.others name → OthersLeave v.others name
long_leaves (Lock file sleep limit suspend tries) reply w v name long d left = d.left name left
long_leaves (Run command input want) reply w v name long d left = (run_apart reply w v name d left).left
long_leaves other reply w v name long d left = absurd long

-- others leave alone what they left alone before
act_others : (act : Act) (reply : Reply) (calls : List Logged) (w : World) (name : List ℕ) → Protocol act reply calls → AllRight calls w → DeliversRight act reply w (after_calls calls w)
    → OthersLeave w.others name → OthersLeave (after_calls calls w).others name
act_others act reply calls w name g right d left =
    elim (act_same_others act reply calls w) [
      | inl same ↦ subst (λ l. OthersLeave l name) (sym (ap (λ v. v.others) (act_effect act reply calls w g right) ∙ same)) left
      | inr long ↦ long_leaves act reply w (after_calls calls w) name long d left
    ]

pub one_of_left : (name : List ℕ) (ms ns : List (List ℕ)) → IsOneOf name ms → IsOneOf name (ms ++ ns)
one_of_left name [] ns h = absurd h
one_of_left name (m ∷ ms) ns (inl e) = inl e
one_of_left name (m ∷ ms) ns (inr h) = inr (one_of_left name ms ns h)

pub one_of_right : (name : List ℕ) (ms ns : List (List ℕ)) → IsOneOf name ns → IsOneOf name (ms ++ ns)
one_of_right name [] ns h = h
one_of_right name (m ∷ ms) ns h = inr (one_of_right name ms ns h)

made_left : (ms ns : List (List ℕ)) (name : List ℕ) (x y : Option Node) → SameOrMade ms name x y → SameOrMade (ms ++ ns) name x y
made_left ms ns name x y (inl e) = inl e
made_left ms ns name x y (inr e) = inr (one_of_left name ms ns e.0, e.1, e.2)

made_right : (ms ns : List (List ℕ)) (name : List ℕ) (x y : Option Node) → SameOrMade ns name x y → SameOrMade (ms ++ ns) name x y
made_right ms ns name x y (inl e) = inl e
made_right ms ns name x y (inr e) = inr (one_of_right name ms ns e.0, e.1, e.2)

-- folders of the first, and then folders of the second
pub made_join : (ms ns : List (List ℕ)) (name : List ℕ) (x y z : Option Node) → SameOrMade ms name x y → SameOrMade ns name y z → SameOrMade (ms ++ ns) name x z
made_join ms ns name x y z h k = both_made (ms ++ ns) name x y z (made_left ms ns name x y h) (made_right ms ns name y z k)

grows_then : (e : Entry) (es : List Entry) (name : List ℕ) (u v w : World) → Leaves e.act e.reply name u v → Grows es (all_folders es) name v w → Grows (e ∷ es) (all_folders (e ∷ es)) name u w
grows_then e es name u v w one rest = record {
  bytes = rest.bytes ∙ ap (λ l. l ++ all_added es name) one.bytes ∙ append_assoc (bytes_at (u.nodes name)) (added_by e.act e.reply name) (all_added es name);
  same = λ unwritten. made_join (folders_by e.act) (all_folders es) name (u.nodes name) (v.nodes name) (w.nodes name) (one.same unwritten.0) (rest.same unwritten.1);
  left = rest.left;
}

entries_grow : (es : List Entry) (gs : List (List Logged)) (w : World) (name : List ℕ) → Honest es gs → AllRight (joined gs) w → AllDelivered es gs w → IsNoLock es name → OthersLeave w.others name
    → Grows es (all_folders es) name w (after_calls (joined gs) w)
entries_grow [] [] w name h right d n left = record { bytes = sym (append-nil (bytes_at (w.nodes name))); same = λ unwritten. inl refl; left = left }
entries_grow [] (g ∷ gs) w name h right d n left = absurd h
entries_grow (e ∷ es) [] w name h right d n left = absurd h
entries_grow (e ∷ es) (g ∷ gs) w name h right d n left =
    let parts = AllRight-split g (joined gs) w right in
    let one = act_grows e.act e.reply g w (after_calls g w) name h.0 d.0 n.0 left in
    let later = act_others e.act e.reply g w name h.0 parts.0 d.0 left in
    subst (Grows (e ∷ es) (all_folders (e ∷ es)) name w) (sym (after_calls-append g (joined gs) w))
    (grows_then e es name w (after_calls g w) (after_calls (joined gs) (after_calls g w)) one (entries_grow es gs (after_calls g w) name h.1 parts.1 d.1 n.1 later))

all_grow : (es : List Entry) (gs : List (List Logged)) (w v : World) → Honest es gs → AllDelivered es gs w → Steps (joined gs) w v → AllGrow es (all_folders es) w v
all_grow es gs w v h d s name n left = subst (Grows es (all_folders es) name w) (sym s.made) (entries_grow es gs w name h s.right d n left)

-- each file has its opening bytes and what the entries added, where their deliveries stand
pub files_grow : DeliveriesStand → FilesGrow
files_grow stand es a b accounts =
    tells_both (λ w v. AllDelivered es accounts.groups w) (Steps (joined accounts.groups)) (AllGrow es (all_folders es)) (λ w v d s. all_grow es accounts.groups w v accounts.honest d s)
    a.host.world b.host.world (stand es a b accounts) accounts.ran.world

pub accounts_grow : (es : List Entry) (a b : View) → Accounts es a b → Tells (AllGrow es (all_folders es)) a.host.world b.host.world
accounts_grow = files_grow accounts_deliver
