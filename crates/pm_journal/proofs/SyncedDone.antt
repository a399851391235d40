-- An append that is done was synced to disk by its last call.
use Rattle.std.proofs.Common.{◌≡◌, ◌⊎◌, ℕ, Bool, true, false, cond, List, [], ◌∷◌, length, nat_eq, refl, sym, ap, ◌∙◌, subst, inl, inr}
use Rattle.pm_host.specs.World.{IsAnswerTo}
use Rattle.pm_host.specs.Runs.{logged, Transitions}
use Rattle.pm_host.specs.declared.answers.Looked.TheVariants.{File as LookedFile, Folder as LookedFolder, Nothing, Failed as LookFailed}
use Rattle.pm_host.specs.declared.answers.Took.TheVariants.{Took as TookSome, Failed as TookFailed}
use Rattle.pm_host.specs.declared.answers.Made.TheVariants.{Made as MadeNew, Exists, Failed as MadeFailed}
use Rattle.pm_host.specs.declared.answers.Synced.TheVariants.{Synced as SyncedDone, Failed as SyncFailed}
use Rattle.pm_host.specs.declared.answers.Cut.TheVariants.{Cut as CutDone, Failed as CutFailed}
use Rattle.pm_host.specs.declared.answers.Removed.TheVariants.{Removed as RemovedDone, Absent, Failed as RemoveFailed}
use Rattle.pm_host.specs.declared.calls.Call.{Call}
use Rattle.pm_host.specs.declared.calls.Call.TheVariants.{Look, Create, Append, Sync, Cut as CutTo, Remove}
use Rattle.pm_host.specs.declared.calls.Answer.{Answer}
use Rattle.pm_host.specs.declared.calls.Answer.TheVariants.{Look as AnswerLook, Create as AnswerCreate, Append as AnswerAppend, Sync as AnswerSync, Cut as AnswerCut, Remove as AnswerRemove}
use Rattle.pm_host.specs.declared.calls.Logged.{Logged}
use Rattle.pm_journal.specs.Appending.{taken_step, append_step, StepAsks, AppendAsks, heard_look, heard_create, heard_append, heard_cut, heard_remove, to_undo, append_heard, append_reply}
use Rattle.pm_journal.specs.Laws.{EndsSynced, DoneIsSynced}
use Rattle.pm_journal.specs.declared.acts.Reply.TheVariants.{Done}
use Rattle.pm_journal.specs.declared.appending.AppendEnd.{AppendEnd}
use Rattle.pm_journal.specs.declared.appending.AppendEnd.TheVariants.{Done as EndDone, Undone as EndUndone, Torn as EndTorn, IsFolder as EndFolder, Raced as EndRaced}
use Rattle.pm_journal.specs.declared.appending.AppendStep.TheVariants.{Append as StepAppend, Finish}
use Rattle.pm_journal.specs.declared.appending.AppendState.{AppendState}
use Rattle.pm_journal.specs.declared.appending.AppendState.TheVariants.{Looking, Creating, Writing, Cutting, Removing, Ended}

-- the append ended as done
abbrev IsOver : AppendState → Type 0
IsOver (Ended EndDone) = Unit {0}
IsOver other = ⊥

-- the call brought the file to the store
record IsSync (name : List ℕ) (call : Call) (answer : Answer) : Type 0 where
  call_is : call ≡ Sync name
  answer_is : answer ≡ AnswerSync SyncedDone

over_look : (name : List ℕ) (answer : Answer) → IsAnswerTo (Look name) answer → IsOver (heard_look answer) → ⊥
over_look name (AnswerLook (LookedFile n)) fits h = h
over_look name (AnswerLook LookedFolder) fits h = h
over_look name (AnswerLook Nothing) fits h = h
over_look name (AnswerLook LookFailed) fits h = h
over_look name other fits h = fits

over_create : (name : List ℕ) (answer : Answer) → IsAnswerTo (Create name) answer → IsOver (heard_create answer) → ⊥
over_create name (AnswerCreate MadeNew) fits h = h
over_create name (AnswerCreate Exists) fits h = h
over_create name (AnswerCreate MadeFailed) fits h = h
over_create name other fits h = fits

over_undo : (made : Bool) (old taken : ℕ) → IsOver (to_undo made old taken) → ⊥
over_undo true old taken h = h
over_undo false old taken h =
    elim (nat_eq taken 0) as (λ b. IsOver (cond b (Ended EndUndone) (Cutting old taken)) → ⊥) [ true ↦ λ x. x | false ↦ λ x. x ] h

over_append : (name part : List ℕ) (made : Bool) (old taken : ℕ) (answer : Answer) → IsAnswerTo (Append name part) answer → IsOver (heard_append made old taken answer) → ⊥
over_append name part made old taken (AnswerAppend (TookSome n)) fits h = h
over_append name part made old taken (AnswerAppend TookFailed) fits h = over_undo made old taken h
over_append name part made old taken other fits h = fits

over_cut : (name : List ℕ) (old taken : ℕ) (answer : Answer) → IsAnswerTo (CutTo name old) answer → IsOver (heard_cut taken answer) → ⊥
over_cut name old taken (AnswerCut CutDone) fits h = h
over_cut name old taken (AnswerCut CutFailed) fits h = h
over_cut name old taken other fits h = fits

over_remove : (name : List ℕ) (taken : ℕ) (answer : Answer) → IsAnswerTo (Remove name) answer → IsOver (heard_remove taken answer) → ⊥
over_remove name taken (AnswerRemove RemovedDone) fits h = h
over_remove name taken (AnswerRemove Absent) fits h = h
over_remove name taken (AnswerRemove RemoveFailed) fits h = h
over_remove name taken other fits h = fits

over_sync : (name : List ℕ) (made : Bool) (old taken : ℕ) (call : Call) (answer : Answer) → call ≡ Sync name → IsAnswerTo (Sync name) answer → IsOver (heard_append made old taken answer) → IsSync name call answer
over_sync name made old taken call (AnswerSync SyncedDone) asks fits h = record { call_is = asks; answer_is = refl }
over_sync name made old taken call (AnswerSync SyncFailed) asks fits h = absurd (over_undo made old taken h)
over_sync name made old taken call other asks fits h = absurd fits

-- the call by which an append came to be done
last_call : (name piece : List ℕ) (at : AppendState) (call : Call) (answer : Answer) → AppendAsks name piece true at call → IsAnswerTo call answer → IsOver (append_heard at answer) → IsSync name call answer
last_call name piece Looking call answer asks fits h = absurd (over_look name answer (subst (λ c. IsAnswerTo c answer) asks fits) h)
last_call name piece Creating call answer asks fits h = absurd (over_create name answer (subst (λ c. IsAnswerTo c answer) asks fits) h)
last_call name piece (Writing made old taken) call answer asks fits h =
    elim (nat_eq taken (length piece)) as (λ b. StepAsks name piece (cond b (taken_step true) (StepAppend taken)) call → IsSync name call answer) [
      | true ↦ λ a. over_sync name made old taken call answer a (subst (λ c. IsAnswerTo c answer) a fits) h
      | false ↦ λ offer. absurd (over_append name offer.part made old taken answer (subst (λ c. IsAnswerTo c answer) offer.is fits) h)
    ] asks
last_call name piece (Cutting old taken) call answer asks fits h = absurd (over_cut name old taken answer (subst (λ c. IsAnswerTo c answer) asks fits) h)
last_call name piece (Removing taken) call answer asks fits h = absurd (over_remove name taken answer (subst (λ c. IsAnswerTo c answer) asks fits) h)
last_call name piece (Ended end) call answer asks fits h = absurd asks

over_asks : (name piece : List ℕ) (at : AppendState) (call : Call) → IsOver at → AppendAsks name piece true at call → ⊥
over_asks name piece (Ended EndDone) call h asks = asks
over_asks name piece other call h asks = absurd h

-- nothing is asked after an end
over_walk : (name piece : List ℕ) (calls : List Logged) (at last : AppendState) → IsOver at → Transitions (AppendAsks name piece true) append_heard at calls last → calls ≡ []
over_walk name piece [] at last h walk = refl
over_walk name piece (c ∷ cs) at last h walk = absurd (over_asks name piece at c.call h walk.0)

one_sync : (name : List ℕ) (c : Logged) → IsSync name c.call c.answer → c ≡ logged (Sync name) (AnswerSync SyncedDone)
one_sync name c s = λ i. record { call = s.call_is i; answer = s.answer_is i }

walk_syncs : (name piece : List ℕ) (calls : List Logged) (at last : AppendState) → Transitions (AppendAsks name piece true) append_heard at calls last → IsOver last → IsOver at ⊎ EndsSynced name calls
walk_syncs name piece [] at last walk h = inl (subst IsOver walk h)
walk_syncs name piece (c ∷ cs) at last walk h =
    elim (walk_syncs name piece cs (append_heard at c.answer) last walk.2 h) [
      | inl over ↦
          let none = over_walk name piece cs (append_heard at c.answer) last over walk.2 in
          let sync = one_sync name c (last_call name piece at c.call c.answer walk.0 walk.1 over) in
          inr (record { front = []; is = ap (λ l. c ∷ l) none ∙ ap (λ k. k ∷ []) sync })
      | inr ends ↦ inr (record { front = c ∷ ends.front; is = ap (λ l. c ∷ l) ends.is })
    ]

done_end : (end : AppendEnd) → Done ≡ append_reply end → end ≡ EndDone
done_end EndDone e = refl
done_end EndUndone e = absurd (cc)
done_end (EndTorn n) e = absurd (cc)
done_end EndFolder e = absurd (cc)
done_end EndRaced e = absurd (cc)

over_last : (piece : List ℕ) (at : AppendState) → append_step (length piece) true at ≡ Finish EndDone → IsOver at
over_last piece Looking e = absurd (cc)
over_last piece Creating e = absurd (cc)
over_last piece (Writing made old taken) e =
    elim (nat_eq taken (length piece)) as (λ b. cond b (taken_step true) (StepAppend taken) ≡ Finish EndDone → ⊥) [ true ↦ λ t. absurd (cc) | false ↦ λ t. absurd (cc) ] e
over_last piece (Cutting old taken) e = absurd (cc)
over_last piece (Removing taken) e = absurd (cc)
over_last piece (Ended end) e = let f : end ≡ EndDone = cc in subst (λ x. IsOver (Ended x)) (sym f) tt

-- the last call of a done append
pub done_is_synced : DoneIsSynced
done_is_synced name piece calls g =
    let ends : append_step (length piece) true g.group.last ≡ Finish EndDone = g.group.ends ∙ ap Finish (done_end g.end g.reply_is) in
    elim (walk_syncs name piece calls Looking g.group.last g.group.walk (over_last piece g.group.last ends)) [ inl h ↦ absurd h | inr ends ↦ ends ]
