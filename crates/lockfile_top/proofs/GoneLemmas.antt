-- What stands after removals that were tried.
use Rattle.std.proofs.Common.{◌≡◌, true, false, cond, Some, None, Option, List, ℕ, [], ◌∷◌, ◌++◌, refl, sym, ap, subst, bytes_eq}
use Rattle.pm_host.specs.Told.{Tells}
use Rattle.pm_host.specs.World.{World, after_remove, RemovesRight}
use Rattle.pm_host.specs.Runs.{after_calls, AllRight, Steps, logged}
use Rattle.pm_host.specs.declared.nodes.Node.{Node}
use Rattle.pm_host.specs.declared.answers.Removed.{Removed}
use Rattle.pm_host.specs.declared.answers.Removed.TheVariants.{Removed as RemovedDone, Absent, Failed as RemoveFailed}
use Rattle.pm_host.specs.declared.calls.Call.TheVariants.{Remove}
use Rattle.pm_host.specs.declared.calls.Answer.TheVariants.{Remove as AnswerRemove}
use Rattle.pm_host.specs.declared.calls.Logged.{Logged}
use Rattle.pm_host.proofs.RunsJoin.{after_calls-append, tells_map}
use Rattle.pm_host.proofs.Put.{same_name}
use Rattle.pm_journal.specs.Entries.{View, Accounts, Protocol, Honest, joined, UnlockGroup, unlock_reply}
use Rattle.pm_journal.specs.Held.{AreUnlocks, IsRemoval}
use Rattle.pm_journal.specs.declared.acts.Act.TheVariants.{Unlock, SayErr}
use Rattle.pm_journal.specs.declared.acts.Entry.{Entry}
use Rattle.lockfile_top.specs.Ends.{IfRemoved, AllGone, StopsFrom}

-- the rest of the calls is right after the first ones
right_after : (cs ds : List Logged) (w : World) → AllRight (cs ++ ds) w → AllRight ds (after_calls cs w)
right_after [] ds w h = h
right_after (c ∷ cs) ds w h = right_after cs ds _ h.1

-- where nothing stands, nothing stands after a removal
none_stays : (removed : Removed) (name q : List ℕ) (w : World) → w.nodes q ≡ None → (after_remove (AnswerRemove removed) name w).nodes q ≡ None
none_stays RemovedDone name q w h = elim (bytes_eq name q) as (λ b. cond b None (w.nodes q) ≡ None) [ true ↦ refl | false ↦ h ]
none_stays Absent name q w h = h
none_stays RemoveFailed name q w h = h

none_there : (here : Option Node) → RemovesRight here Absent → here ≡ None
none_there (Some n) h = absurd h
none_there None h = refl

-- a removal that didn't fail leaves nothing there
none_left : (removed : Removed) (name : List ℕ) (w : World) → RemovesRight (w.nodes name) removed → IsRemoval (unlock_reply removed) → (after_remove (AnswerRemove removed) name w).nodes name ≡ None
none_left RemovedDone name w r k = ap (λ b. cond b None (w.nodes name)) (same_name name)
none_left Absent name w r k = none_there (w.nodes name) r
none_left RemoveFailed name w r k = absurd k

-- the tree after the first of these groups, where it is a removal
behind_first : (name : List ℕ) (answer : Removed) (g cs : List Logged) (w : World) → g ≡ logged (Remove name) (AnswerRemove answer) ∷ [] → after_calls (g ++ cs) w ≡ after_calls cs (after_remove (AnswerRemove answer) name w)
behind_first name answer g cs w e = ap (λ c. after_calls (c ++ cs) w) e

-- the removals and the line put nothing where nothing stands
none_put : (q : List ℕ) (names : List (List ℕ)) (given : List Entry) (line : Entry) (text : List ℕ) (gs : List (List Logged)) (w : World) → AreUnlocks names given → line.act ≡ SayErr text
    → Honest (given ++ line ∷ []) gs → w.nodes q ≡ None → (after_calls (joined gs) w).nodes q ≡ None
none_put q [] [] line text [] w u l h k = absurd h
none_put q [] [] line text (g ∷ []) w u l h k =
    let none = (subst (λ a. Protocol a line.reply g) l h.0).none in
    subst (λ c. (after_calls (c ++ []) w).nodes q ≡ None) (sym none) k
none_put q [] [] line text (g ∷ (f ∷ fs)) w u l h k = absurd h.1
none_put q [] (e ∷ es) line text gs w u l h k = absurd u
none_put q (n ∷ ns) [] line text gs w u l h k = absurd u
none_put q (n ∷ ns) (e ∷ es) line text [] w u l h k = absurd h
none_put q (n ∷ ns) (e ∷ es) line text (g ∷ gs) w u l h k =
    let one : UnlockGroup n e.reply g = subst (λ a. Protocol a e.reply g) u.0 h.0 in
    subst (λ v. v.nodes q ≡ None) (sym (behind_first n one.removed g (joined gs) w one.call))
    (none_put q ns es line text gs (after_remove (AnswerRemove one.removed) n w) u.1 l h.1 (none_stays one.removed n q w k))

-- nothing stands where a removal was tried and didn't fail
gone_after : (names : List (List ℕ)) (given : List Entry) (line : Entry) (text : List ℕ) (gs : List (List Logged)) (w : World) → AreUnlocks names given → line.act ≡ SayErr text
    → Honest (given ++ line ∷ []) gs → AllRight (joined gs) w → AllGone given (after_calls (joined gs) w)
gone_after [] [] line text gs w u l h r = tt
gone_after [] (e ∷ es) line text gs w u l h r = absurd u
gone_after (n ∷ ns) [] line text gs w u l h r = absurd u
gone_after (n ∷ ns) (e ∷ es) line text [] w u l h r = absurd h
gone_after (n ∷ ns) (e ∷ es) line text (g ∷ gs) w u l h r =
    let one : UnlockGroup n e.reply g = subst (λ a. Protocol a e.reply g) u.0 h.0 in
    let v : World = after_remove (AnswerRemove one.removed) n w in
    let right : AllRight (logged (Remove n) (AnswerRemove one.removed) ∷ joined gs) w = subst (λ c. AllRight (c ++ joined gs) w) one.call r in
    let here : IfRemoved (Unlock n) e.reply (after_calls (joined gs) v) = λ k. none_put n ns es line text gs v u.1 l h.1 (none_left one.removed n w right.0 (subst IsRemoval one.reply_is k)) in
    subst (AllGone (e ∷ es)) (sym (behind_first n one.removed g (joined gs) w one.call))
    (subst (λ a. IfRemoved a e.reply (after_calls (joined gs) v)) (sym u.0) here, gone_after ns es line text gs v u.1 l h.1 right.1)

-- what holds after the last entries holds after all
after_front : (front rest : List Entry) (P : World → Type 0) → ((gs : List (List Logged)) (w : World) → Honest rest gs → AllRight (joined gs) w → P (after_calls (joined gs) w))
    → (gs : List (List Logged)) (w : World) → Honest (front ++ rest) gs → AllRight (joined gs) w → P (after_calls (joined gs) w)
after_front [] rest P k gs w h r = k gs w h r
after_front (e ∷ es) rest P k [] w h r = absurd h
after_front (e ∷ es) rest P k (g ∷ gs) w h r =
    subst P (sym (after_calls-append g (joined gs) w)) (after_front es rest P k gs (after_calls g w) h.1 (right_after g (joined gs) w r))

-- where a run stopped, nothing stands where a removal was tried and didn't fail
pub stopped_gone : (made : List (List ℕ)) (es : List Entry) (a b : View) (s : StopsFrom made es) → Accounts es a b → Tells (λ old new. AllGone s.given new) a.host.world b.host.world
stopped_gone made es a b s h =
    let honest : Honest (s.front ++ (s.failed ∷ (s.given ++ s.line ∷ []))) h.groups = subst (λ l. Honest l h.groups) s.entries_are h.honest in
    tells_map (Steps (joined h.groups)) (λ old new. AllGone s.given new)
    (λ w v steps. subst (AllGone s.given) (sym steps.made)
    (after_front s.front (s.failed ∷ (s.given ++ s.line ∷ [])) (AllGone s.given)
    (λ gs u k r. after_front (s.failed ∷ []) (s.given ++ s.line ∷ []) (AllGone s.given) (λ fs x m q. gone_after _ s.given s.line _ fs x s.unlocks s.line_is m q) gs u k r)
    h.groups w honest steps.right))
    a.host.world b.host.world h.ran.world
