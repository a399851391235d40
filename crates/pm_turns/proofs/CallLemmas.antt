-- The calls of each writer are those of a delivery.
use Rattle.std.proofs.Common.{◌≡◌, ◌≤◌, ◌<◌, ℕ, ◌-◌, Bool, true, false, cond, List, [], ◌∷◌, ◌++◌, length, map, drop, Option, Some, None, refl, sym, ap, ◌∙◌, subst, inl, inr, arith, length-drop, append_assoc, append-nil, nat_eq, take_all, slice_get, zero, suc}
use Rattle.std.proofs.lemmas.Bool.{cases_eq}
use Rattle.std.proofs.lemmas.Bool.Decides.{Decides-eqb}
use Rattle.pm_host.specs.Runs.{Transitions}
use Rattle.pm_host.proofs.RunsJoin.{transitions_then}
use Rattle.pm_host.specs.declared.answers.Looked.TheVariants.{File as LookedFile, Nothing, Failed as LookFailed}
use Rattle.pm_host.specs.declared.answers.Took.TheVariants.{Took as TookSome, Failed as TookFailed}
use Rattle.pm_host.specs.declared.answers.Made.TheVariants.{Made as MadeNew, Exists, Failed as MadeFailed}
use Rattle.pm_host.specs.declared.answers.Cut.TheVariants.{Cut as CutDone, Failed as CutFailed}
use Rattle.pm_host.specs.declared.answers.Removed.TheVariants.{Removed as RemovedDone, Absent, Failed as RemoveFailed}
use Rattle.pm_host.specs.declared.answers.Aged.TheVariants.{Age as AgeIs, Absent as AgeAbsent, Failed as AgeFailed}
use Rattle.pm_host.specs.declared.answers.Synced.TheVariants.{Synced, Failed as SyncFailed}
use Rattle.pm_host.specs.declared.calls.Call.TheVariants.{Look as CallLook, Create as CallCreate, Append as CallAppend, Sync as CallSync, Cut as CallCut, Remove as CallRemove, Age as CallAge, Sleep as CallSleep}
use Rattle.pm_host.specs.declared.calls.Answer.{Answer}
use Rattle.pm_host.specs.declared.calls.Answer.TheVariants.{Look as AnswerLook, Create as AnswerCreate, Append as AnswerAppend, Cut as AnswerCut, Remove as AnswerRemove, Age as AnswerAge, Sync as AnswerSync, Slept}
use Rattle.pm_host.specs.declared.calls.Logged.{Logged}
use Rattle.pm_journal.specs.Appending.{AppendAsks, StepAsks, IsOffer, append_heard, append_step, to_undo}
use Rattle.pm_journal.specs.Locking.{LockAsks, lock_heard, lock_step, no_tally}
use Rattle.pm_journal.specs.declared.appending.AppendEnd.TheVariants.{Undone as EndUndone}
use Rattle.pm_journal.specs.declared.appending.AppendState.{AppendState}
use Rattle.pm_journal.specs.declared.appending.AppendState.TheVariants.{Looking as AtLook, Creating as AtCreate, Writing as AtWrite, Cutting as AtCut, Removing as AtRemove, Ended as AtEnd}
use Rattle.pm_journal.specs.declared.appending.AppendStep.{AppendStep}
use Rattle.pm_journal.specs.declared.appending.AppendStep.TheVariants.{Append as AskAppend, Sync as AskSync}
use Rattle.pm_journal.specs.declared.locking.LockEnd.TheVariants.{Held, Busy, Failed as LockFailed}
use Rattle.pm_journal.specs.declared.locking.LockRule.{LockRule}
use Rattle.pm_journal.specs.declared.locking.LockState.{LockState}
use Rattle.pm_journal.specs.declared.locking.LockState.TheVariants.{Trying, Aging, Looking, Removing, Pausing, Ended}
use Rattle.pm_append.specs.Machine.{Machine as Append, appending_heard}
use Rattle.pm_locks.specs.Machine.{Machine as Taking, taking_heard}
use Rattle.pm_turns.specs.declared.writers.Delivery.{Delivery}
use Rattle.pm_turns.specs.declared.writers.Place.{Place}
use Rattle.pm_turns.specs.declared.writers.Place.TheVariants.{Locking, Appending, Giving, Gone, Away}
use Rattle.pm_turns.specs.declared.writers.Will.{Will}
use Rattle.pm_turns.specs.declared.writers.Will.TheVariants.{Serve, Fail}
use Rattle.pm_turns.specs.declared.writers.Writer.{Writer}
use Rattle.pm_turns.specs.Turning.{Turning, Event, lock_answer, append_answer, part_of, lock_place, append_place, delivery, place_by, mailbox_by, outcome_by, is_over, put, place_turn, turn, happens, run, begun, rule_of}
use Rattle.pm_turns.specs.Calls.{lock_call, append_call, call_by, call_of, made, calls_of, Appended, BringTo}
use Rattle.pm_turns.specs.Laws.{Opening, opened}
use Rattle.pm_turns.proofs.Deliveries.{get_set_same, get_set_other}
use Rattle.pm_turns.proofs.Delivers.{still}
use Rattle.pm_turns.proofs.Fits.{part_within}
use Rattle.pm_turns.proofs.Keeps.{IsOpenState}
use Rattle.pm_turns.proofs.Listed.{nat_other}

-- The lock

abbrev LockWalk : List ℕ → LockRule → List Logged → LockState → Type 0
LockWalk lock rule calls at = Transitions (LockAsks lock) (lock_heard rule) (Trying no_tally) calls at

locks_on : (lock : List ℕ) (rule : LockRule) (calls : List Logged) (at : LockState) (locked : Bool) (will : Will) → IsOpenState at → LockWalk lock rule calls at
    → LockWalk lock rule (calls ++ lock_call lock (lock_step at) (lock_answer (lock_step at) locked will)) (lock_heard rule at (lock_answer (lock_step at) locked will))
locks_on lock rule calls (Trying t) locked (Serve n) o w = transitions_then (LockAsks lock) (lock_heard rule) (Trying no_tally) calls (Trying t) (CallCreate lock) (AnswerCreate (cond locked Exists MadeNew)) w refl tt
locks_on lock rule calls (Trying t) locked Fail o w = transitions_then (LockAsks lock) (lock_heard rule) (Trying no_tally) calls (Trying t) (CallCreate lock) (AnswerCreate MadeFailed) w refl tt
locks_on lock rule calls (Aging t) locked (Serve n) o w = transitions_then (LockAsks lock) (lock_heard rule) (Trying no_tally) calls (Aging t) (CallAge lock) (AnswerAge (cond locked (AgeIs n) AgeAbsent)) w refl tt
locks_on lock rule calls (Aging t) locked Fail o w = transitions_then (LockAsks lock) (lock_heard rule) (Trying no_tally) calls (Aging t) (CallAge lock) (AnswerAge AgeFailed) w refl tt
locks_on lock rule calls (Looking t) locked (Serve n) o w = transitions_then (LockAsks lock) (lock_heard rule) (Trying no_tally) calls (Looking t) (CallLook lock) (AnswerLook (cond locked (LookedFile 0) Nothing)) w refl tt
locks_on lock rule calls (Looking t) locked Fail o w = transitions_then (LockAsks lock) (lock_heard rule) (Trying no_tally) calls (Looking t) (CallLook lock) (AnswerLook LookFailed) w refl tt
locks_on lock rule calls (Removing t) locked (Serve n) o w = transitions_then (LockAsks lock) (lock_heard rule) (Trying no_tally) calls (Removing t) (CallRemove lock) (AnswerRemove (cond locked RemovedDone Absent)) w refl tt
locks_on lock rule calls (Removing t) locked Fail o w = transitions_then (LockAsks lock) (lock_heard rule) (Trying no_tally) calls (Removing t) (CallRemove lock) (AnswerRemove RemoveFailed) w refl tt
locks_on lock rule calls (Pausing seconds t) locked will o w = transitions_then (LockAsks lock) (lock_heard rule) (Trying no_tally) calls (Pausing seconds t) (CallSleep seconds) Slept w refl tt
locks_on lock rule calls (Ended end) locked will o w = absurd o

-- The append

abbrev AppendWalk : List ℕ → List ℕ → List Logged → AppendState → Type 0
AppendWalk name piece calls at = Transitions (AppendAsks name piece true) append_heard AtLook calls at

-- no more bytes were taken than there are
abbrev IsWithin : ℕ → AppendState → Type 0
IsWithin len (AtWrite made old taken) = taken ≤ len
IsWithin len other = Unit {0}

abbrev IsOpenAppend : AppendState → Type 0
IsOpenAppend (AtEnd end) = ⊥
IsOpenAppend other = Unit {0}

undo_within : (len : ℕ) (made : Bool) (old taken : ℕ) → IsWithin len (to_undo made old taken)
undo_within len true old taken = tt
undo_within len false old taken = elim (nat_eq taken 0) as (λ b. IsWithin len (cond b (AtEnd EndUndone) (AtCut old taken))) [ true ↦ tt | false ↦ tt ]

record AppendsOn (name piece : List ℕ) (calls : List Logged) (at : AppendState) (answer : Answer) : Type 0 where
  walk : AppendWalk name piece (calls ++ append_call name piece (append_step (length piece) true at) answer) (append_heard at answer)
  within : IsWithin (length piece) (append_heard at answer)

abbrev step_on : (name piece : List ℕ) (calls : List Logged) (at : AppendState) (mailbox : Option (List ℕ)) (will : Will) → Type 0
step_on name piece calls at mailbox will = AppendsOn name piece calls at (append_answer (append_step (length piece) true at) (length piece) mailbox will)

looks_on : (name piece : List ℕ) (calls : List Logged) (mailbox : Option (List ℕ)) (will : Will) → AppendWalk name piece calls AtLook → step_on name piece calls AtLook mailbox will
looks_on name piece calls None (Serve n) w = record { walk = transitions_then (AppendAsks name piece true) append_heard AtLook calls AtLook (CallLook name) (AnswerLook Nothing) w refl tt; within = tt }
looks_on name piece calls (Some bytes) (Serve n) w = record { walk = transitions_then (AppendAsks name piece true) append_heard AtLook calls AtLook (CallLook name) (AnswerLook (LookedFile (length bytes))) w refl tt; within = omega arith }
looks_on name piece calls mailbox Fail w = record { walk = transitions_then (AppendAsks name piece true) append_heard AtLook calls AtLook (CallLook name) (AnswerLook LookFailed) w refl tt; within = tt }

creates_on : (name piece : List ℕ) (calls : List Logged) (mailbox : Option (List ℕ)) (will : Will) → AppendWalk name piece calls AtCreate → step_on name piece calls AtCreate mailbox will
creates_on name piece calls None (Serve n) w = record { walk = transitions_then (AppendAsks name piece true) append_heard AtLook calls AtCreate (CallCreate name) (AnswerCreate MadeNew) w refl tt; within = omega arith }
creates_on name piece calls (Some bytes) (Serve n) w = record { walk = transitions_then (AppendAsks name piece true) append_heard AtLook calls AtCreate (CallCreate name) (AnswerCreate Exists) w refl tt; within = tt }
creates_on name piece calls mailbox Fail w = record { walk = transitions_then (AppendAsks name piece true) append_heard AtLook calls AtCreate (CallCreate name) (AnswerCreate MadeFailed) w refl tt; within = tt }

cuts_on : (name piece : List ℕ) (calls : List Logged) (old taken : ℕ) (mailbox : Option (List ℕ)) (will : Will) → AppendWalk name piece calls (AtCut old taken) → step_on name piece calls (AtCut old taken) mailbox will
cuts_on name piece calls old taken None (Serve n) w = record { walk = transitions_then (AppendAsks name piece true) append_heard AtLook calls (AtCut old taken) (CallCut name old) (AnswerCut CutFailed) w refl tt; within = tt }
cuts_on name piece calls old taken (Some bytes) (Serve n) w = record { walk = transitions_then (AppendAsks name piece true) append_heard AtLook calls (AtCut old taken) (CallCut name old) (AnswerCut CutDone) w refl tt; within = tt }
cuts_on name piece calls old taken mailbox Fail w = record { walk = transitions_then (AppendAsks name piece true) append_heard AtLook calls (AtCut old taken) (CallCut name old) (AnswerCut CutFailed) w refl tt; within = tt }

removes_on : (name piece : List ℕ) (calls : List Logged) (taken : ℕ) (mailbox : Option (List ℕ)) (will : Will) → AppendWalk name piece calls (AtRemove taken) → step_on name piece calls (AtRemove taken) mailbox will
removes_on name piece calls taken None (Serve n) w = record { walk = transitions_then (AppendAsks name piece true) append_heard AtLook calls (AtRemove taken) (CallRemove name) (AnswerRemove Absent) w refl tt; within = tt }
removes_on name piece calls taken (Some bytes) (Serve n) w = record { walk = transitions_then (AppendAsks name piece true) append_heard AtLook calls (AtRemove taken) (CallRemove name) (AnswerRemove RemovedDone) w refl tt; within = tt }
removes_on name piece calls taken mailbox Fail w = record { walk = transitions_then (AppendAsks name piece true) append_heard AtLook calls (AtRemove taken) (CallRemove name) (AnswerRemove RemoveFailed) w refl tt; within = tt }

left_of_piece : (piece : List ℕ) (taken : ℕ) → length (drop taken piece) ≡ length piece - taken
left_of_piece piece taken = length-drop taken piece

offered : (name piece : List ℕ) (taken : ℕ) → taken < length piece → IsOffer name (drop taken piece) (CallAppend name (drop taken piece))
offered name piece taken h = let e = left_of_piece piece taken in record {
  part = drop taken piece;
  is = refl;
  front = sym (take_all (length (drop taken piece)) (drop taken piece) (omega arith));
  some = omega (arith, e, h);
}

-- what is said of a writing, by the step that it comes to
abbrev writes_by : (name piece : List ℕ) (calls : List Logged) (made : Bool) (old taken : ℕ) (mailbox : Option (List ℕ)) (will : Will) → AppendStep → Type 0
writes_by name piece calls made old taken mailbox will step =
    AppendWalk name piece (calls ++ append_call name piece step (append_answer step (length piece) mailbox will)) (append_heard (AtWrite made old taken) (append_answer step (length piece) mailbox will))
    × IsWithin (length piece) (append_heard (AtWrite made old taken) (append_answer step (length piece) mailbox will))

syncs_on : (name piece : List ℕ) (calls : List Logged) (made : Bool) (old taken : ℕ) (mailbox : Option (List ℕ)) (will : Will) → nat_eq taken (length piece) ≡ true
    → AppendWalk name piece calls (AtWrite made old taken) → writes_by name piece calls made old taken mailbox will AskSync
syncs_on name piece calls made old taken None (Serve n) e w =
    (transitions_then (AppendAsks name piece true) append_heard AtLook calls (AtWrite made old taken) (CallSync name) (AnswerSync SyncFailed) w (subst (λ b. StepAsks name piece (cond b AskSync (AskAppend taken)) (CallSync name)) (sym e) refl) tt, undo_within (length piece) made old taken)
syncs_on name piece calls made old taken (Some bytes) (Serve n) e w =
    (transitions_then (AppendAsks name piece true) append_heard AtLook calls (AtWrite made old taken) (CallSync name) (AnswerSync Synced) w (subst (λ b. StepAsks name piece (cond b AskSync (AskAppend taken)) (CallSync name)) (sym e) refl) tt, tt)
syncs_on name piece calls made old taken mailbox Fail e w =
    (transitions_then (AppendAsks name piece true) append_heard AtLook calls (AtWrite made old taken) (CallSync name) (AnswerSync SyncFailed) w (subst (λ b. StepAsks name piece (cond b AskSync (AskAppend taken)) (CallSync name)) (sym e) refl) tt, undo_within (length piece) made old taken)

part_some : (left n : ℕ) → 1 ≤ part_of left n
part_some left n = omega arith

part_most : (left n : ℕ) → 1 ≤ left → part_of left n ≤ left
part_most left n h = omega arith

offers_on : (name piece : List ℕ) (calls : List Logged) (made : Bool) (old taken : ℕ) (mailbox : Option (List ℕ)) (will : Will) → nat_eq taken (length piece) ≡ false → taken < length piece
    → AppendWalk name piece calls (AtWrite made old taken) → writes_by name piece calls made old taken mailbox will (AskAppend taken)
offers_on name piece calls made old taken None (Serve n) e h w = (
  transitions_then (AppendAsks name piece true) append_heard AtLook calls (AtWrite made old taken) (CallAppend name (drop taken piece)) (AnswerAppend TookFailed) w
      (subst (λ b. StepAsks name piece (cond b AskSync (AskAppend taken)) (CallAppend name (drop taken piece))) (sym e) (offered name piece taken h)) tt,
  undo_within (length piece) made old taken,
)
offers_on name piece calls made old taken (Some bytes) (Serve n) e h w =
    let l = left_of_piece piece taken in (
      transitions_then (AppendAsks name piece true) append_heard AtLook calls (AtWrite made old taken) (CallAppend name (drop taken piece)) (AnswerAppend (TookSome (part_of (length piece - taken) n))) w
          (subst (λ b. StepAsks name piece (cond b AskSync (AskAppend taken)) (CallAppend name (drop taken piece))) (sym e) (offered name piece taken h))
          (part_some (length piece - taken) n, subst (λ k. part_of (length piece - taken) n ≤ k) (sym l) (part_most (length piece - taken) n (omega (arith, h)))),
      part_within taken (length piece) n (omega (arith, h)) (λ f. absurd (omega (arith, h, f))),
    )
offers_on name piece calls made old taken mailbox Fail e h w = (
  transitions_then (AppendAsks name piece true) append_heard AtLook calls (AtWrite made old taken) (CallAppend name (drop taken piece)) (AnswerAppend TookFailed) w
      (subst (λ b. StepAsks name piece (cond b AskSync (AskAppend taken)) (CallAppend name (drop taken piece))) (sym e) (offered name piece taken h)) tt,
  undo_within (length piece) made old taken,
)

less : (taken len : ℕ) → taken ≤ len → nat_eq taken len ≡ false → taken < len
less taken len h e =
    let ne : taken ≡ len → ⊥ = λ f. let bad : true ≡ false = sym ((Decides-eqb taken len).1 f) ∙ e in absurd (cc) in omega (arith, h, ne)

writes_on : (name piece : List ℕ) (calls : List Logged) (made : Bool) (old taken : ℕ) (mailbox : Option (List ℕ)) (will : Will) → taken ≤ length piece
    → AppendWalk name piece calls (AtWrite made old taken) → step_on name piece calls (AtWrite made old taken) mailbox will
writes_on name piece calls made old taken mailbox will h w =
    let both = elim (nat_eq taken (length piece)) as (λ b. nat_eq taken (length piece) ≡ b → writes_by name piece calls made old taken mailbox will (cond b AskSync (AskAppend taken))) [
      | true ↦ λ e. syncs_on name piece calls made old taken mailbox will e w
      | false ↦ λ e. offers_on name piece calls made old taken mailbox will e (less taken (length piece) h e) w
    ] refl in record { walk = both.0; within = both.1 }

appends_on : (name piece : List ℕ) (calls : List Logged) (at : AppendState) (mailbox : Option (List ℕ)) (will : Will) → IsOpenAppend at → IsWithin (length piece) at → AppendWalk name piece calls at
    → step_on name piece calls at mailbox will
appends_on name piece calls AtLook mailbox will o h w = looks_on name piece calls mailbox will w
appends_on name piece calls AtCreate mailbox will o h w = creates_on name piece calls mailbox will w
appends_on name piece calls (AtWrite made old taken) mailbox will o h w = writes_on name piece calls made old taken mailbox will h w
appends_on name piece calls (AtCut old taken) mailbox will o h w = cuts_on name piece calls old taken mailbox will w
appends_on name piece calls (AtRemove taken) mailbox will o h w = removes_on name piece calls taken mailbox will w
appends_on name piece calls (AtEnd end) mailbox will o h w = absurd o

-- A writer

record LockingSo (lock : List ℕ) (rule : LockRule) (t : Taking) (calls : List Logged) : Type 0 where
  ruled : t.rule ≡ rule
  begins : IsOpenState t.at
  walk : LockWalk lock rule calls t.at

record AppendingSo (lock name : List ℕ) (rule : LockRule) (piece : List ℕ) (a : Append) (calls : List Logged) : Type 0 where
  long : a.len ≡ length piece
  synced : a.sync ≡ true
  begins : IsOpenAppend a.at
  within : IsWithin (length piece) a.at
  appended : Appended lock name rule piece a.at calls

abbrev So : List ℕ → List ℕ → LockRule → List ℕ → Place → List Logged → Type 0
So lock name rule piece (Locking t) calls = LockingSo lock rule t calls
So lock name rule piece (Appending a) calls = AppendingSo lock name rule piece a calls
So lock name rule piece (Giving end) calls = BringTo lock name rule piece (Giving end) calls
So lock name rule piece (Gone end answer) calls = BringTo lock name rule piece (Gone end answer) calls
So lock name rule piece (Away end) calls = BringTo lock name rule piece (Away end) calls

brings : (lock name : List ℕ) (rule : LockRule) (piece : List ℕ) (place : Place) (calls : List Logged) → So lock name rule piece place calls → BringTo lock name rule piece place calls
brings lock name rule piece (Locking t) calls h = h.walk
brings lock name rule piece (Appending a) calls h = h.appended
brings lock name rule piece (Giving end) calls h = h
brings lock name rule piece (Gone end answer) calls h = h
brings lock name rule piece (Away end) calls h = h

lock_to : (lock name : List ℕ) (rule : LockRule) (piece : List ℕ) (at : LockState) (calls : List Logged) → LockWalk lock rule calls at
    → So lock name rule piece (lock_place (length piece) (record { rule = rule; at = at })) calls
lock_to lock name rule piece (Trying t) calls w = record { ruled = refl; begins = tt; walk = w }
lock_to lock name rule piece (Aging t) calls w = record { ruled = refl; begins = tt; walk = w }
lock_to lock name rule piece (Looking t) calls w = record { ruled = refl; begins = tt; walk = w }
lock_to lock name rule piece (Removing t) calls w = record { ruled = refl; begins = tt; walk = w }
lock_to lock name rule piece (Pausing seconds t) calls w = record { ruled = refl; begins = tt; walk = w }
lock_to lock name rule piece (Ended (Held sleeps forced)) calls w = record {
  long = refl;
  synced = refl;
  begins = tt;
  within = tt;
  appended = record {
    taken = calls;
    added = [];
    both = sym (append-nil calls);
    sleeps = sleeps;
    forced = forced;
    held = record { last = Ended (Held sleeps forced); walk = w; ends = refl };
    walk = refl;
  };
}
lock_to lock name rule piece (Ended Busy) calls w = record { last = Ended Busy; walk = w; ends = refl }
lock_to lock name rule piece (Ended LockFailed) calls w = record { last = Ended LockFailed; walk = w; ends = refl }

append_to : (lock name : List ℕ) (rule : LockRule) (piece : List ℕ) (at : AppendState) (calls : List Logged) → IsWithin (length piece) at → Appended lock name rule piece at calls
    → So lock name rule piece (append_place (record { len = length piece; sync = true; at = at })) calls
append_to lock name rule piece AtLook calls h a = record { long = refl; synced = refl; begins = tt; within = tt; appended = a }
append_to lock name rule piece AtCreate calls h a = record { long = refl; synced = refl; begins = tt; within = tt; appended = a }
append_to lock name rule piece (AtWrite made old taken) calls h a =
    subst (λ p. So lock name rule piece p calls) (sym (still (length piece) made old taken)) (record { long = refl; synced = refl; begins = tt; within = h; appended = a })
append_to lock name rule piece (AtCut old taken) calls h a = record { long = refl; synced = refl; begins = tt; within = tt; appended = a }
append_to lock name rule piece (AtRemove taken) calls h a = record { long = refl; synced = refl; begins = tt; within = tt; appended = a }
append_to lock name rule piece (AtEnd end) calls h a = record {
  taken = a.taken;
  added = a.added;
  both = a.both;
  sleeps = a.sleeps;
  forced = a.forced;
  held = a.held;
  group = record { last = AtEnd end; walk = a.walk; ends = refl };
}

locking_goes : (lock name : List ℕ) (rule : LockRule) (piece : List ℕ) (t : Taking) (calls : List Logged) (locked : Bool) (will : Will) → LockingSo lock rule t calls
    → So lock name rule piece (lock_place (length piece) (taking_heard t (lock_answer (lock_step t.at) locked will))) (calls ++ lock_call lock (lock_step t.at) (lock_answer (lock_step t.at) locked will))
locking_goes lock name rule piece t calls locked will h =
    let answer = lock_answer (lock_step t.at) locked will in
    subst (λ r. So lock name rule piece (lock_place (length piece) (record { rule = r; at = lock_heard r t.at answer })) (calls ++ lock_call lock (lock_step t.at) answer)) (sym h.ruled)
    (lock_to lock name rule piece (lock_heard rule t.at answer) (calls ++ lock_call lock (lock_step t.at) answer) (locks_on lock rule calls t.at locked will h.begins h.walk))

more_appended : (lock name : List ℕ) (rule : LockRule) (piece : List ℕ) (at : AppendState) (calls : List Logged) (answer : Answer) → (a : Appended lock name rule piece at calls) → AppendsOn name piece a.added at answer
    → Appended lock name rule piece (append_heard at answer) (calls ++ append_call name piece (append_step (length piece) true at) answer)
more_appended lock name rule piece at calls answer a on = record {
  taken = a.taken;
  added = a.added ++ append_call name piece (append_step (length piece) true at) answer;
  both = ap (λ c. c ++ append_call name piece (append_step (length piece) true at) answer) a.both ∙ append_assoc a.taken a.added (append_call name piece (append_step (length piece) true at) answer);
  sleeps = a.sleeps;
  forced = a.forced;
  held = a.held;
  walk = on.walk;
}

appending_goes : (lock name : List ℕ) (rule : LockRule) (piece : List ℕ) (a : Append) (calls : List Logged) (mailbox : Option (List ℕ)) (will : Will) → AppendingSo lock name rule piece a calls
    → So lock name rule piece (append_place (appending_heard a (append_answer (append_step a.len a.sync a.at) (length piece) mailbox will)))
    (calls ++ append_call name piece (append_step a.len a.sync a.at) (append_answer (append_step a.len a.sync a.at) (length piece) mailbox will))
appending_goes lock name rule piece a calls mailbox will h =
    let on = appends_on name piece h.appended.added a.at mailbox will h.begins h.within h.appended.walk in
    let answer = append_answer (append_step (length piece) true a.at) (length piece) mailbox will in
    subst (λ k. So lock name rule piece (append_place (appending_heard (record { len = k; sync = a.sync; at = a.at }) (append_answer (append_step k a.sync a.at) (length piece) mailbox will)))
    (calls ++ append_call name piece (append_step k a.sync a.at) (append_answer (append_step k a.sync a.at) (length piece) mailbox will))) (sym h.long)
    (subst (λ b. So lock name rule piece (append_place (appending_heard (record { len = length piece; sync = b; at = a.at }) (append_answer (append_step (length piece) b a.at) (length piece) mailbox will)))
    (calls ++ append_call name piece (append_step (length piece) b a.at) (append_answer (append_step (length piece) b a.at) (length piece) mailbox will))) (sym h.synced)
    (append_to lock name rule piece (append_heard a.at answer) (calls ++ append_call name piece (append_step (length piece) true a.at) answer) on.within
    (more_appended lock name rule piece a.at calls answer h.appended on)))

goes : (lock name : List ℕ) (rule : LockRule) (piece : List ℕ) (place : Place) (calls : List Logged) (mailbox : Option (List ℕ)) (locked : Bool) (will : Will) → So lock name rule piece place calls
    → So lock name rule piece (place_by piece place mailbox locked will) (calls ++ call_by lock name piece place mailbox locked will)
goes lock name rule piece (Locking t) calls mailbox locked will h = locking_goes lock name rule piece t calls locked will h
goes lock name rule piece (Appending a) calls mailbox locked will h = appending_goes lock name rule piece a calls mailbox will h
goes lock name rule piece (Giving end) calls mailbox locked will h = record { before = calls; finished = h; is = refl }
goes lock name rule piece (Gone end answer) calls mailbox locked will h = subst (λ c. So lock name rule piece (Gone end answer) c) (sym (append-nil calls)) h
goes lock name rule piece (Away end) calls mailbox locked will h = subst (λ c. So lock name rule piece (Away end) c) (sym (append-nil calls)) h

-- A writer in a schedule

-- so stands this writer
record StandsSo (lock name : List ℕ) (rule : LockRule) (piece : List ℕ) (calls : List Logged) (d : Delivery) : Type 0 where
  same : d.piece ≡ piece
  so : So lock name rule piece d.place calls

abbrev Stands : List ℕ → List ℕ → LockRule → List ℕ → ℕ → List Logged → Turning → Type 0
Stands lock name rule piece w calls s = (d : Delivery) → slice_get s.writers w ≡ Some d → StandsSo lock name rule piece calls d

nothing_more : (lock name : List ℕ) (rule : LockRule) (piece : List ℕ) (w : ℕ) (calls : List Logged) (s : Turning) → Stands lock name rule piece w calls s → Stands lock name rule piece w (calls ++ []) s
nothing_more lock name rule piece w calls s h = subst (λ c. Stands lock name rule piece w c s) (sym (append-nil calls)) h

own_place : (lock name : List ℕ) (rule : LockRule) (w : ℕ) (calls : List Logged) (s : Turning) (will : Will) (piece : List ℕ) (place : Place) → slice_get s.writers w ≡ Some (delivery piece place)
    → So lock name rule piece place calls → Stands lock name rule piece w (calls ++ call_by lock name piece place s.mailbox s.locked will) (place_turn s w piece place will)
own_place lock name rule w calls s will piece place here so =
    elim (is_over place) as (λ b. is_over place ≡ b → Stands lock name rule piece w (calls ++ call_by lock name piece place s.mailbox s.locked will)
    (cond b s (put s w piece (place_by piece place s.mailbox s.locked will) (mailbox_by piece place s.mailbox will) (outcome_by place s.locked will)))) [
      | true ↦ λ over d e. let f : delivery piece place ≡ d = (let g : Some (delivery piece place) ≡ Some d = sym here ∙ e in cc) in
          subst (λ x. StandsSo lock name rule piece (calls ++ call_by lock name piece place s.mailbox s.locked will) x) f (record { same = refl; so = over_stays place over so })
      | false ↦ λ open_ d e. let new = delivery piece (place_by piece place s.mailbox s.locked will) in
          let f : new ≡ d = (let g : Some new ≡ Some d = sym (get_set_same s.writers w (delivery piece place) new here) ∙ e in cc) in
          subst (λ x. StandsSo lock name rule piece (calls ++ call_by lock name piece place s.mailbox s.locked will) x) f (record { same = refl; so = goes lock name rule piece place calls s.mailbox s.locked will so })
    ] refl where
      over_stays : (p : Place) → is_over p ≡ true → So lock name rule piece p calls → So lock name rule piece p (calls ++ call_by lock name piece p s.mailbox s.locked will)
      over_stays (Locking t) o h = absurd (cc)
      over_stays (Appending a) o h = absurd (cc)
      over_stays (Giving end) o h = absurd (cc)
      over_stays (Gone end answer) o h = goes lock name rule piece (Gone end answer) calls s.mailbox s.locked will h
      over_stays (Away end) o h = goes lock name rule piece (Away end) calls s.mailbox s.locked will h

own_turn : (lock name : List ℕ) (rule : LockRule) (piece : List ℕ) (w : ℕ) (calls : List Logged) (s : Turning) (will : Will) (o : Option Delivery) → slice_get s.writers w ≡ o
    → Stands lock name rule piece w calls s → Stands lock name rule piece w (calls ++ call_of lock name s o will) (turn s w o will)
own_turn lock name rule piece w calls s will None here h = nothing_more lock name rule piece w calls s h
own_turn lock name rule piece w calls s will (Some d) here h =
    let stands = h d here in
    subst (λ q. Stands lock name rule q w (calls ++ call_by lock name d.piece d.place s.mailbox s.locked will) (place_turn s w d.piece d.place will)) stands.same
    (own_place lock name rule w calls s will d.piece d.place here (subst (λ q. So lock name rule q d.place calls) (sym stands.same) stands.so))

-- one more event of this writer
own_event : (lock name : List ℕ) (rule : LockRule) (piece : List ℕ) (w : ℕ) (calls : List Logged) (s : Turning) (will : Will) → Stands lock name rule piece w calls s
    → Stands lock name rule piece w (calls ++ cond s.forced [] (call_of lock name s (slice_get s.writers w) will)) (cond s.forced s (turn s w (slice_get s.writers w) will))
own_event lock name rule piece w calls s will h =
    elim s.forced as (λ b. Stands lock name rule piece w (calls ++ cond b [] (call_of lock name s (slice_get s.writers w) will)) (cond b s (turn s w (slice_get s.writers w) will))) [
      | true ↦ nothing_more lock name rule piece w calls s h
      | false ↦ own_turn lock name rule piece w calls s will (slice_get s.writers w) refl h
    ]

other_turn : (s : Turning) (v w : ℕ) (will : Will) (o : Option Delivery) → (w ≡ v → ⊥) → slice_get (turn s v o will).writers w ≡ slice_get s.writers w
other_turn s v w will None ne = refl
other_turn s v w will (Some d) ne =
    elim (is_over d.place) as (λ b. slice_get (cond b s (put s v d.piece (place_by d.piece d.place s.mailbox s.locked will) (mailbox_by d.piece d.place s.mailbox will) (outcome_by d.place s.locked will))).writers w ≡ slice_get s.writers w) [
      | true ↦ refl
      | false ↦ get_set_other s.writers v w (delivery d.piece (place_by d.piece d.place s.mailbox s.locked will)) ne
    ]

-- an event of another
other_event : (s : Turning) (e : Event) (w : ℕ) → (w ≡ e.writer → ⊥) → slice_get (happens s e).writers w ≡ slice_get s.writers w
other_event s e w ne =
    elim s.forced as (λ b. slice_get (cond b s (turn s e.writer (slice_get s.writers e.writer) e.will)).writers w ≡ slice_get s.writers w) [
      | true ↦ refl
      | false ↦ other_turn s e.writer w e.will (slice_get s.writers e.writer) ne
    ]

event_goes : (lock name : List ℕ) (rule : LockRule) (piece : List ℕ) (w : ℕ) (calls : List Logged) (s : Turning) (e : Event) → Stands lock name rule piece w calls s
    → Stands lock name rule piece w (calls ++ cond (nat_eq e.writer w) (made lock name s e) []) (happens s e)
event_goes lock name rule piece w calls s e h = elim (cases_eq e.writer w) [
  | inl same ↦ subst (λ b. Stands lock name rule piece w (calls ++ cond b (made lock name s e) []) (happens s e)) (sym ((Decides-eqb e.writer w).1 same))
      (subst (λ v. Stands lock name rule piece v (calls ++ made lock name s e) (happens s e)) same
      (own_event lock name rule piece e.writer calls s e.will (subst (λ v. Stands lock name rule piece v calls s) (sym same) h)))
  | inr other ↦ subst (λ b. Stands lock name rule piece w (calls ++ cond b (made lock name s e) []) (happens s e)) (sym (nat_other e.writer w other))
      (nothing_more lock name rule piece w calls (happens s e) (λ d f. h d (sym (other_event s e w (λ x. other (sym x))) ∙ f)))
]

run_goes : (lock name : List ℕ) (rule : LockRule) (piece : List ℕ) (w : ℕ) (es : List Event) (calls : List Logged) (s : Turning) → Stands lock name rule piece w calls s
    → Stands lock name rule piece w (calls ++ calls_of lock name w es s) (run es s)
run_goes lock name rule piece w [] calls s h = nothing_more lock name rule piece w calls s h
run_goes lock name rule piece w (e ∷ es) calls s h =
    subst (λ c. Stands lock name rule piece w c (run (e ∷ es) s)) (append_assoc calls (cond (nat_eq e.writer w) (made lock name s e) []) (calls_of lock name w es (happens s e)))
    (run_goes lock name rule piece w es (calls ++ cond (nat_eq e.writer w) (made lock name s e) []) (happens s e) (event_goes lock name rule piece w calls s e h))

begins_so : (lock name : List ℕ) (ws : List Writer) (w : ℕ) (writer : Writer) (d : Delivery) → slice_get ws w ≡ Some writer → slice_get (map begun ws) w ≡ Some d → StandsSo lock name (rule_of writer) writer.piece [] d
begins_so lock name [] w writer d e f = absurd (cc)
begins_so lock name (x ∷ ws) zero writer d e f =
    let same : x ≡ writer = cc in let g : begun x ≡ d = cc in
    subst (λ y. StandsSo lock name (rule_of writer) writer.piece [] y) (ap begun (sym same) ∙ g) (record { same = refl; so = record { ruled = refl; begins = tt; walk = refl } })
begins_so lock name (x ∷ ws) (suc w) writer d e f = begins_so lock name ws w writer d e f

pub each_delivers : (lock name : List ℕ) (o : Opening) (events : List Event) (w : ℕ) (writer : Writer) (d : Delivery) → slice_get o.writers w ≡ Some writer → slice_get (run events (opened o)).writers w ≡ Some d
    → BringTo lock name (rule_of writer) writer.piece d.place (calls_of lock name w events (opened o))
each_delivers lock name o events w writer d e f =
    let s = run_goes lock name (rule_of writer) writer.piece w events [] (opened o) (λ x g. begins_so lock name o.writers w writer x e g) d f in
    brings lock name (rule_of writer) writer.piece d.place (calls_of lock name w events (opened o)) s.so
