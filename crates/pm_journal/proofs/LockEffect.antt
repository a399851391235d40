-- What the calls of a lock make of a world, and which of them failed.
use Rattle.std.proofs.Common.{◌≡◌, ℕ, ◌+◌, Bool, true, false, cond, List, [], ◌∷◌, refl, sym, ap, ◌∙◌, subst, inl, inr, nat_eq, nat_le, nat_lt}
use Rattle.pm_host.specs.World.{World, after_call, IsAnswerTo, IsFailed}
use Rattle.pm_host.specs.Runs.{after_calls, Transitions, SomeFailed}
use Rattle.pm_journal.specs.Locking.{lock_step, LockAsks, lose, heard_try, heard_age, heard_size, heard_forced, lock_heard, no_tally, lock_reply, LockGroup, after_move, after_moves, with_lock, after_lock}
use Rattle.pm_host.specs.declared.answers.Looked.TheVariants.{File as LookedFile, Folder as LookedFolder, Nothing, Failed as LookFailed}
use Rattle.pm_host.specs.declared.answers.Made.TheVariants.{Made as MadeNew, Exists, Failed as MadeFailed}
use Rattle.pm_host.specs.declared.answers.Aged.TheVariants.{Age as AgeIs, Absent as AgeAbsent, Failed as AgeFailed}
use Rattle.pm_host.specs.declared.answers.Removed.TheVariants.{Removed as RemovedDone, Absent, Failed as RemoveFailed}
use Rattle.pm_host.specs.declared.calls.Call.{Call}
use Rattle.pm_host.specs.declared.calls.Call.TheVariants.{Look, Create, Remove, Age, Sleep}
use Rattle.pm_host.specs.declared.calls.Answer.{Answer}
use Rattle.pm_host.specs.declared.calls.Answer.TheVariants.{Look as AnswerLook, Create as AnswerCreate, Remove as AnswerRemove, Age as AnswerAge}
use Rattle.pm_host.specs.declared.calls.Logged.{Logged}
use Rattle.pm_journal.specs.declared.locking.LockRule.{LockRule}
use Rattle.pm_journal.specs.declared.locking.Tally.{Tally}
use Rattle.pm_journal.specs.declared.locking.LockEnd.{LockEnd}
use Rattle.pm_journal.specs.declared.locking.LockEnd.TheVariants.{Held, Busy, Failed}
use Rattle.pm_journal.specs.declared.locking.LockState.{LockState}
use Rattle.pm_journal.specs.declared.locking.LockState.TheVariants.{Trying, Aging, Looking, Removing, Pausing, Ended}
use Rattle.pm_journal.specs.declared.locking.LockStep.TheVariants.{Finish}

-- the lock isn't got yet, and no call has failed yet
abbrev pub IsOpenLock : LockState → Type 0
IsOpenLock (Ended (Held sleeps forced)) = ⊥
IsOpenLock (Ended Failed) = ⊥
IsOpenLock other = Unit {0}

lose_open : (r : LockRule) (pausing : Bool) (t : Tally) → IsOpenLock (lose r pausing t)
lose_open r pausing t = elim (nat_le r.tries (t.lost + 1)) as (λ b. IsOpenLock (cond b (Ended Busy) (cond pausing (Pausing r.sleep (record { lost = t.lost + 1; sleeps = t.sleeps; forced = t.forced })) (Trying (record { lost = t.lost + 1; sleeps = t.sleeps; forced = t.forced }))))) [
  | true ↦ tt
  | false ↦ elim pausing as (λ b. IsOpenLock (cond b (Pausing r.sleep (record { lost = t.lost + 1; sleeps = t.sleeps; forced = t.forced })) (Trying (record { lost = t.lost + 1; sleeps = t.sleeps; forced = t.forced })))) [ true ↦ tt | false ↦ tt ]
]

choice_open : (b : Bool) (x y : LockState) → IsOpenLock x → IsOpenLock y → IsOpenLock (cond b x y)
choice_open true x y p q = p
choice_open false x y p q = q

-- one call either leads on, and moves the world alone; or gets the lock; or failed
pub data LockGoes (name : List ℕ) (call : Call) (answer : Answer) (next : LockState) : Type 0 where
  goes_on : IsOpenLock next → ((w : World) → after_call call answer w ≡ after_move call answer w) → LockGoes name call answer next
  gets : (sleeps forced : ℕ) → call ≡ Create name → answer ≡ AnswerCreate MadeNew → next ≡ Ended (Held sleeps forced) → LockGoes name call answer next
  fails : IsFailed answer → next ≡ Ended Failed → ((w : World) → after_call call answer w ≡ after_move call answer w) → LockGoes name call answer next

try_goes : (r : LockRule) (t : Tally) (name : List ℕ) (answer : Answer) → IsAnswerTo (Create name) answer → LockGoes name (Create name) answer (heard_try r t answer)
try_goes r t name (AnswerCreate MadeNew) fits = gets t.sleeps t.forced refl refl refl
try_goes r t name (AnswerCreate Exists) fits =
    goes_on (choice_open (nat_eq r.limit 0) (lose r true t) (cond (nat_le 16 t.forced) (lose r true t) (Aging t)) (lose_open r true t) (choice_open (nat_le 16 t.forced) (lose r true t) (Aging t) (lose_open r true t) tt)) (λ w. refl)
try_goes r t name (AnswerCreate MadeFailed) fits = fails tt refl (λ w. refl)
try_goes r t name other fits = absurd fits

age_goes : (r : LockRule) (t : Tally) (name : List ℕ) (answer : Answer) → IsAnswerTo (Age name) answer → LockGoes name (Age name) answer (heard_age r t answer)
age_goes r t name (AnswerAge (AgeIs n)) fits = goes_on (choice_open (nat_lt r.limit n) (Looking t) (lose r true t) tt (lose_open r true t)) (λ w. refl)
age_goes r t name (AnswerAge AgeAbsent) fits = goes_on (lose_open r false t) (λ w. refl)
age_goes r t name (AnswerAge AgeFailed) fits = fails tt refl (λ w. refl)
age_goes r t name other fits = absurd fits

size_goes : (r : LockRule) (t : Tally) (name : List ℕ) (answer : Answer) → IsAnswerTo (Look name) answer → LockGoes name (Look name) answer (heard_size r t answer)
size_goes r t name (AnswerLook (LookedFile n)) fits = goes_on (choice_open (nat_le n 16) (Removing t) (lose r true t) tt (lose_open r true t)) (λ w. refl)
size_goes r t name (AnswerLook LookedFolder) fits = goes_on (lose_open r true t) (λ w. refl)
size_goes r t name (AnswerLook Nothing) fits = goes_on (lose_open r false t) (λ w. refl)
size_goes r t name (AnswerLook LookFailed) fits = fails tt refl (λ w. refl)
size_goes r t name other fits = absurd fits

forced_goes : (r : LockRule) (t : Tally) (name : List ℕ) (answer : Answer) → IsAnswerTo (Remove name) answer → LockGoes name (Remove name) answer (heard_forced r t answer)
forced_goes r t name (AnswerRemove RemovedDone) fits = goes_on tt (λ w. refl)
forced_goes r t name (AnswerRemove Absent) fits = goes_on tt (λ w. refl)
forced_goes r t name (AnswerRemove RemoveFailed) fits = fails tt refl (λ w. refl)
forced_goes r t name other fits = absurd fits

at_call : (P : Call → Type 0) (call asked : Call) → call ≡ asked → P asked → P call
at_call P call asked e p = subst P (sym e) p

lock_goes : (r : LockRule) (name : List ℕ) (at : LockState) (call : Call) (answer : Answer) → LockAsks name at call → IsAnswerTo call answer → LockGoes name call answer (lock_heard r at answer)
lock_goes r name (Trying t) call answer asks = at_call (λ c. IsAnswerTo c answer → LockGoes name c answer (heard_try r t answer)) call (Create name) asks (try_goes r t name answer)
lock_goes r name (Aging t) call answer asks = at_call (λ c. IsAnswerTo c answer → LockGoes name c answer (heard_age r t answer)) call (Age name) asks (age_goes r t name answer)
lock_goes r name (Looking t) call answer asks = at_call (λ c. IsAnswerTo c answer → LockGoes name c answer (heard_size r t answer)) call (Look name) asks (size_goes r t name answer)
lock_goes r name (Removing t) call answer asks = at_call (λ c. IsAnswerTo c answer → LockGoes name c answer (heard_forced r t answer)) call (Remove name) asks (forced_goes r t name answer)
lock_goes r name (Pausing seconds t) call answer asks =
    at_call (λ c. IsAnswerTo c answer → LockGoes name c answer (lock_heard r (Pausing seconds t) answer)) call (Sleep seconds) asks (λ fits. goes_on tt (λ w. refl))
lock_goes r name (Ended end) call answer asks = absurd asks

-- an end is the end
ended_walk : (r : LockRule) (name : List ℕ) (end : LockEnd) (calls : List Logged) (last : LockState) → Transitions (LockAsks name) (lock_heard r) (Ended end) calls last → (calls ≡ []) × (last ≡ Ended end)
ended_walk r name end [] last walk = (refl, walk)
ended_walk r name end (c ∷ cs) last walk = absurd walk.0

abbrev after_held : LockState → List ℕ → World → World
after_held (Ended (Held sleeps forced)) name w = with_lock name w
after_held other name w = w

open_held : (at : LockState) (name : List ℕ) (w : World) → IsOpenLock at → w ≡ after_held at name w
open_held (Ended (Held sleeps forced)) name w fresh = absurd fresh
open_held (Ended Failed) name w fresh = absurd fresh
open_held other name w fresh = refl

lock_walk : (r : LockRule) (name : List ℕ) (calls : List Logged) (at last : LockState) (w : World) → IsOpenLock at → Transitions (LockAsks name) (lock_heard r) at calls last
    → after_calls calls w ≡ after_held last name (after_moves calls w)
lock_walk r name [] at last w fresh walk = open_held at name w fresh ∙ ap (λ a. after_held a name w) (sym walk)
lock_walk r name (c ∷ cs) at last w fresh walk =
    elim (lock_goes r name at c.call c.answer walk.0 walk.1) [
      | goes_on next same ↦ lock_walk r name cs (lock_heard r at c.answer) last (after_call c.call c.answer w) next walk.2 ∙ ap (λ v. after_held last name (after_moves cs v)) (same w)
      | gets sleeps forced call answer next ↦
          let over = ended_walk r name (Held sleeps forced) cs last (subst (λ a. Transitions (LockAsks name) (lock_heard r) a cs last) next walk.2) in
          ap (λ l. after_calls l (after_call c.call c.answer w)) over.0
          ∙ ap (λ k. after_call k c.answer w) call
          ∙ ap (λ k. after_call (Create name) k w) answer
          ∙ ap (λ k. with_lock name (after_move k c.answer w)) (sym call)
          ∙ ap (λ l. with_lock name (after_moves l (after_move c.call c.answer w))) (sym over.0)
          ∙ ap (λ a. after_held a name (after_moves cs (after_move c.call c.answer w))) (sym over.1)
      | fails failed next same ↦
          let over = ended_walk r name Failed cs last (subst (λ a. Transitions (LockAsks name) (lock_heard r) a cs last) next walk.2) in
          ap (λ l. after_calls l (after_call c.call c.answer w)) over.0
          ∙ same w
          ∙ ap (λ l. after_moves l (after_move c.call c.answer w)) (sym over.0)
          ∙ ap (λ a. after_held a name (after_moves cs (after_move c.call c.answer w))) (sym over.1)
    ]

lock_ended : (last : LockState) (end : LockEnd) → lock_step last ≡ Finish end → last ≡ Ended end
lock_ended (Ended e) end h = let f : e ≡ end = cc in ap Ended f
lock_ended other end h = absurd (cc)

reply_held : (end : LockEnd) (name : List ℕ) (calls : List Logged) (w : World) → after_held (Ended end) name (after_moves calls w) ≡ after_lock (lock_reply end) name calls w
reply_held (Held sleeps forced) name calls w = refl
reply_held Busy name calls w = refl
reply_held Failed name calls w = refl

-- the calls of a lock make of the world what its reply says
pub lock_effect : (r : LockRule) (name : List ℕ) (end : LockEnd) (calls : List Logged) (w : World) → LockGroup r name end calls → after_calls calls w ≡ after_lock (lock_reply end) name calls w
lock_effect r name end calls w group =
    lock_walk r name calls (Trying no_tally) group.last w tt group.walk ∙ ap (λ a. after_held a name (after_moves calls w)) (lock_ended group.last end group.ends) ∙ reply_held end name calls w

failed_walk : (r : LockRule) (name : List ℕ) (calls : List Logged) (at last : LockState) → IsOpenLock at → Transitions (LockAsks name) (lock_heard r) at calls last → last ≡ Ended Failed → SomeFailed calls
failed_walk r name [] at last fresh walk e = absurd (subst IsOpenLock (sym walk ∙ e) fresh)
failed_walk r name (c ∷ cs) at last fresh walk e =
    elim (lock_goes r name at c.call c.answer walk.0 walk.1) [
      | goes_on next same ↦ inr (failed_walk r name cs (lock_heard r at c.answer) last next walk.2 e)
      | gets sleeps forced call answer next ↦
          let over = ended_walk r name (Held sleeps forced) cs last (subst (λ a. Transitions (LockAsks name) (lock_heard r) a cs last) next walk.2) in
          let bad : Ended (Held sleeps forced) ≡ Ended Failed = sym over.1 ∙ e in absurd (cc)
      | fails failed next same ↦ inl failed
    ]

-- a lock that failed has a failed call
pub lock_cause : (r : LockRule) (name : List ℕ) (calls : List Logged) → LockGroup r name Failed calls → SomeFailed calls
lock_cause r name calls group = failed_walk r name calls (Trying no_tally) group.last tt group.walk (lock_ended group.last Failed group.ends)
