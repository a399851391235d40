-- A process that was out of memory, and what came before.
use Rattle.std.proofs.Common.{◌≡◌, ◌⊎◌, ◌∙◌, ℕ, zero, suc, List, [], ◌∷◌, ◌++◌, Some, inl, inr, refl, sym, ap, subst, append_assoc, append-nil}
use Rattle.pm_host.specs.declared.calls.Logged.{Logged}
use Rattle.pm_journal.specs.JournalState.{JournalState}
use Rattle.pm_journal.specs.Entries.{View}
use Rattle.pm_journal.specs.Held.{Keeps, Keeping}
use Rattle.pm_journal.specs.Plan.{Plan, Ends, Plays}
use Rattle.pm_journal.specs.Executed.{Executes, OutOfMemory, WantsAct, HasEnded, GivesEach}
use Rattle.pm_journal.specs.Walking.{Next, Stop, Go, reach, IsUnfinished, ArrivesAt, Reaches}
use Rattle.pm_journal.specs.declared.acts.Entry.{Entry}
use Rattle.pm_journal.proofs.PlanJoin.{plays_then}
use Rattle.pm_journal.proofs.WalkJoin.{parts_of, on_to, never_some, arrives_go, arrives_here, arrives_on, reaches_once, unfinished_here}
use Rattle.pm_journal.proofs.WalkLift.{unfinished_on}
use Rattle.pm_journal.proofs.AccountsJoin.{accounts_join}
use Rattle.pm_journal.proofs.KeepingActs.{keeps_rest}
use Rattle.pm_journal.proofs.WantsMemory.{wants_front, ended_front}
use Rattle.pm_meaning.specs.Courses.{Others, Course, now_at, onward, advance}
use Rattle.pm_meaning.specs.Running.{State, Event, step}
use Rattle.pm_meaning.specs.declared.ending.Ending.{Ending}
use Rattle.pm_run.specs.RunningOut.{MayRunOut, RunMayRunOut, RanOutAt, RunsOut, GaveUp, OfNew}

-- in its first step
stopped_here : {S X : Type 0} (step : S → Plan (Next S X)) (may : S → List Entry → Type 0) (s : S) (es : List Entry) (calls : List Logged) → WantsAct (step s) es calls ⊎ HasEnded (step s) es calls → may s es
    → RanOutAt {X = X} step may s es calls
stopped_here {S} {X} step may s es calls off h = record { at = s; before = []; begun = es; parts = refl; arrives = arrives_here {X = X} step s; off = off; allowed = h }

-- after some steps
pub stopped_on : {S X : Type 0} (step : S → Plan (Next S X)) (may : S → List Entry → Type 0) (s t : S) (es fs : List Entry) (calls : List Logged) → ArrivesAt {X = X} step s es t → RanOutAt {X = X} step may t fs calls
    → RanOutAt {X = X} step may s (es ++ fs) calls
stopped_on {S} {X} step may s t es fs calls h k = record {
  at = k.at;
  before = es ++ k.before;
  begun = k.begun;
  parts = ap (λ l. es ++ l) k.parts ∙ sym (append_assoc es k.before k.begun);
  arrives = arrives_on step h.steps s t k.at es k.before h.plays k.arrives;
  off = k.off;
  allowed = k.allowed;
}

-- there the process is unfinished
stopped_unfinished : {S X : Type 0} (step : S → Plan (Next S X)) (may : S → List Entry → Type 0) (s : S) (es : List Entry) (calls : List Logged) → RanOutAt {X = X} step may s es calls → IsUnfinished step s es calls
stopped_unfinished step may s es calls k =
    subst (λ l. IsUnfinished step s l calls) (sym k.parts)
    (unfinished_on step k.arrives.steps s k.at k.before k.begun calls k.arrives.plays (unfinished_here step k.at k.begun calls k.off))

-- memory was wanting in the first step
pub ran_out_at_once : {S X : Type 0} (step : S → Plan (Next S X)) (may : S → List Entry → Type 0) (s : S) (x y : JournalState) (a b : View) → OutOfMemory (step s) x y a b → OfNew (may s) x y → RunsOut {X = X} step may s x y a b
ran_out_at_once step may s x y a b k new = record {
  interrupted = record {
    more = k.more;
    entries = k.entries;
    middle = k.middle;
    accounts = k.accounts;
    left_off = k.left_off;
    unfinished = unfinished_here step s k.more k.left_off k.where_off;
    took = k.took;
  };
  place = stopped_here step may s k.more k.left_off k.where_off (new k.more k.entries);
}

-- after some steps
pub ran_out_reached : {S X : Type 0} (step : S → Plan (Next S X)) (may : S → List Entry → Type 0) (s t : S) (x y z : JournalState) (a b c : View) → Reaches {X = X} step s t x y a b → RunsOut {X = X} step may t y z b c
    → RunsOut {X = X} step may s x z a c
ran_out_reached step may s t x y z a b c h k = let i = k.interrupted in record {
  interrupted = record {
    more = h.more ++ i.more;
    entries = i.entries ∙ ap (λ l. l ++ i.more) h.entries ∙ append_assoc x.entries h.more i.more;
    middle = i.middle;
    accounts = accounts_join h.more i.more a b i.middle h.accounts i.accounts;
    left_off = i.left_off;
    unfinished = h.unfinished i.more i.left_off i.unfinished;
    took = i.took;
  };
  place = stopped_on step may s t h.more i.more i.left_off h.arrives k.place;
}

-- in the step after some steps
pub ran_out_then : {S X : Type 0} (step : S → Plan (Next S X)) (may : S → List Entry → Type 0) (s t : S) (x y z : JournalState) (a b c : View) → Reaches {X = X} step s t x y a b → OutOfMemory (step t) y z b c → OfNew (may t) y z
    → RunsOut {X = X} step may s x z a c
ran_out_then step may s t x y z a b c h k new = ran_out_reached step may s t x y z a b c h (ran_out_at_once step may t y z b c k new)

-- after one step
pub ran_out_after : {S X : Type 0} (step : S → Plan (Next S X)) (may : S → List Entry → Type 0) (s t : S) (x y z : JournalState) (a b c : View) → Executes {R = Next S X} (step s) (Go t) x y a b → RunsOut {X = X} step may t y z b c
    → RunsOut {X = X} step may s x z a c
ran_out_after step may s t x y z a b c h k = ran_out_reached step may s t x y z a b c (reaches_once step s t x y a b h) k

-- the steps of a process are steps of the run
module _ (o : Others) where
  goes_in_run : (s t : State) (es : List Entry) → Plays (step s) es (Go t) → Plays (advance (now_at o s)) es (Go (now_at o t))
  goes_in_run s t es h =
      let next : Next Course Ending = Go (now_at o t) in
      subst (λ l. Plays (advance (now_at o s)) l next) (append-nil es) (plays_then (step s) (λ n. Ends (onward o n)) es [] (Go t) next h refl)

  arrives_in_run : (n : ℕ) (s t : State) (es : List Entry) → Plays (reach {X = Event} step n s) es (Some t) → ArrivesAt {X = Ending} advance (now_at o s) es (now_at o t)
  arrives_in_run zero s t [] h = let e : Some t ≡ Some s = h in let same : s ≡ t = cc in subst (λ v. ArrivesAt {X = Ending} advance (now_at o s) [] (now_at o v)) same (arrives_here {X = Ending} advance (now_at o s))
  arrives_in_run zero s t (e ∷ es) h = absurd h
  arrives_in_run (suc n) s t es h =
      let parts = parts_of (step s) (on_to {X = Event} step n) es (Some t) h in
      elim parts.middle as (λ m. Plays (step s) parts.front m → Plays (on_to {X = Event} step n m) parts.rest (Some t) → ArrivesAt {X = Ending} advance (now_at o s) es (now_at o t)) [
        | Stop x ↦ λ a b. absurd (never_some parts.rest t b)
        | Go v ↦ λ a b.
            subst (λ l. ArrivesAt {X = Ending} advance (now_at o s) l (now_at o t)) (sym parts.whole)
            (arrives_go advance (now_at o s) (now_at o v) (now_at o t) parts.front parts.rest (goes_in_run s v parts.front a) (arrives_in_run n v t parts.rest b))
      ] parts.plays_front parts.plays_rest

  stopped_in_run : (s : State) (es : List Entry) (calls : List Logged) → RanOutAt {X = Event} step MayRunOut s es calls → RanOutAt {X = Ending} advance RunMayRunOut (now_at o s) es calls
  stopped_in_run s es calls k =
      let go : Next State Event → Plan (Next Course Ending) = λ n. Ends (onward o n) in
      record {
        at = now_at o k.at;
        before = k.before;
        begun = k.begun;
        parts = k.parts;
        arrives = arrives_in_run k.arrives.steps s k.at k.before k.arrives.plays;
        off = elim k.off [
          | inl w ↦ inl (record { wanted = w.wanted; wants = wants_front (step k.at) go k.begun w.wanted w.wants; leaves = w.leaves })
          | inr e ↦ ended_front (step k.at) go k.begun calls e
        ];
        allowed = k.allowed;
      }

  pub ran_out_in_run : (s : State) (x y : JournalState) (a b : View) → RunsOut {X = Event} step MayRunOut s x y a b → RunsOut {X = Ending} advance RunMayRunOut (now_at o s) x y a b
  ran_out_in_run s x y a b h =
      let i = h.interrupted in
      let stopped = stopped_in_run s i.more i.left_off h.place in
      record {
        interrupted = record {
          more = i.more;
          entries = i.entries;
          middle = i.middle;
          accounts = i.accounts;
          left_off = i.left_off;
          unfinished = stopped_unfinished advance RunMayRunOut (now_at o s) i.more i.left_off stopped;
          took = i.took;
        };
        place = stopped;
      }

-- the locks were given back
pub gave_up_by : (c : Course) (held : List (List ℕ)) (x y z : JournalState) (a b d : View) → RunsOut {X = Ending} advance RunMayRunOut c x y a b → GivesEach held y z b d → Keeping x [] → Keeping y held → GaveUp c x z a d
gave_up_by c held x y z a b d h k start now = let i = h.interrupted in record {
  abandoned = record {
    done = i.more;
    given = k.given;
    entries = k.entries ∙ ap (λ l. l ++ k.given) i.entries;
    middle = i.middle;
    accounts = i.accounts;
    left_off = i.left_off;
    unfinished = i.unfinished;
    later = b;
    took = i.took;
    held = held;
    kept = keeps_rest x.entries i.more [] [] held start.keeps (subst (λ l. Keeps [] l held) i.entries now.keeps);
    unlocks = k.unlocks;
    back = k.accounts;
  };
  place = h.place;
}
