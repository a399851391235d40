-- Each call of a writer is one that a host may answer so.
use Rattle.std.proofs.Common.{◌≡◌, ℕ, ℤ, ◌-◌, Bool, true, false, cond, List, [], ◌∷◌, ◌++◌, length, take, drop, Option, Some, None, refl, sym, ap, subst, bytes_eq, slice_get}
use Rattle.std.proofs.lemmas.Slice.Eq.{bytes_eq-Decides}
use Rattle.pm_host.specs.World.{World, world_with, grown, kept, LooksRight, MakesRight, AppendsRight, SyncsRight, CutsRight, RemovesRight, AgesRight, IsFile, after_call, later_moment, batch_of}
use Rattle.pm_host.specs.Runs.{logged, after_calls}
use Rattle.pm_host.proofs.Put.{get-put}
use Rattle.pm_host.proofs.RunsJoin.{after_calls-append}
use Rattle.pm_host.specs.declared.answers.Looked.TheVariants.{File as LookedFile, Nothing, Failed as LookFailed}
use Rattle.pm_host.specs.declared.answers.Took.TheVariants.{Failed as TookFailed}
use Rattle.pm_host.specs.declared.answers.Made.TheVariants.{Made as MadeNew, Exists, Failed as MadeFailed}
use Rattle.pm_host.specs.declared.answers.Cut.TheVariants.{Failed as CutFailed}
use Rattle.pm_host.specs.declared.answers.Removed.TheVariants.{Removed as RemovedDone, Absent, Failed as RemoveFailed}
use Rattle.pm_host.specs.declared.answers.Aged.TheVariants.{Absent as AgeAbsent, Failed as AgeFailed}
use Rattle.pm_host.specs.declared.answers.Synced.TheVariants.{Failed as SyncFailed}
use Rattle.pm_host.specs.declared.calls.Call.TheVariants.{Remove as CallRemove}
use Rattle.pm_host.specs.declared.calls.Answer.TheVariants.{Remove as AnswerRemove}
use Rattle.pm_host.specs.declared.calls.Logged.{Logged}
use Rattle.pm_host.specs.declared.nodes.Node.{Node}
use Rattle.pm_host.specs.declared.nodes.Node.TheVariants.{File as AFile, Folder as AFolder}
use Rattle.pm_journal.specs.Appending.{append_step}
use Rattle.pm_journal.specs.Locking.{lock_step}
use Rattle.pm_journal.specs.declared.appending.AppendStep.{AppendStep}
use Rattle.pm_journal.specs.declared.appending.AppendStep.TheVariants.{Look as AskLook, Create as AskCreate, Append as AskAppend, Sync as AskSync, Cut as AskCut, Remove as AskRemove, Finish as AppendFinish}
use Rattle.pm_journal.specs.declared.locking.LockStep.{LockStep}
use Rattle.pm_journal.specs.declared.locking.LockStep.TheVariants.{Create, Age, Look, Remove, Sleep, Finish}
use Rattle.pm_turns.specs.declared.writers.Delivery.{Delivery}
use Rattle.pm_turns.specs.declared.writers.Place.{Place}
use Rattle.pm_turns.specs.declared.writers.Place.TheVariants.{Locking, Appending, Giving, Gone, Away}
use Rattle.pm_turns.specs.declared.writers.Will.{Will}
use Rattle.pm_turns.specs.declared.writers.Will.TheVariants.{Serve, Fail}
use Rattle.pm_turns.specs.Turning.{Turning, Event, lock_answer, give_answer, lock_outcome, give_outcome, append_answer, part_of, mailbox_after, mailbox_by, outcome_by, place_turn, turn, happens, run}
use Rattle.pm_turns.specs.Calls.{lock_call, append_call, call_by, call_of, made}
use Rattle.pm_turns.specs.Trees.{Holds, lock_file, Has, AllMayAnswer, all_calls}

-- What stands there

file_looks : (node : Option Node) (bytes : List ℕ) → Holds node (Some bytes) → LooksRight node (LookedFile (length bytes))
file_looks (Some (AFile f)) bytes h = sym (ap length h)
file_looks (Some AFolder) bytes h = absurd h
file_looks None bytes h = absurd h

none_looks : (node : Option Node) → Holds node None → LooksRight node Nothing
none_looks (Some (AFile f)) h = absurd h
none_looks (Some AFolder) h = absurd h
none_looks None h = tt

fails_look : (node : Option Node) → LooksRight node LookFailed
fails_look (Some (AFile f)) = tt
fails_look (Some AFolder) = tt
fails_look None = tt

none_makes : (node : Option Node) → Holds node None → MakesRight node MadeNew
none_makes (Some (AFile f)) h = absurd h
none_makes (Some AFolder) h = absurd h
none_makes None h = tt

file_exists : (node : Option Node) (bytes : List ℕ) → Holds node (Some bytes) → MakesRight node Exists
file_exists (Some (AFile f)) bytes h = tt
file_exists (Some AFolder) bytes h = absurd h
file_exists None bytes h = absurd h

fails_make : (node : Option Node) → MakesRight node MadeFailed
fails_make (Some (AFile f)) = tt
fails_make (Some AFolder) = tt
fails_make None = tt

is_file : (node : Option Node) (bytes : List ℕ) → Holds node (Some bytes) → IsFile node
is_file (Some (AFile f)) bytes h = tt
is_file (Some AFolder) bytes h = absurd h
is_file None bytes h = absurd h

fails_append : (node : Option Node) → AppendsRight node TookFailed
fails_append (Some (AFile f)) = tt
fails_append (Some AFolder) = tt
fails_append None = tt

fails_sync : (node : Option Node) → SyncsRight node SyncFailed
fails_sync (Some (AFile f)) = tt
fails_sync (Some AFolder) = tt
fails_sync None = tt

fails_cut : (node : Option Node) → CutsRight node CutFailed
fails_cut (Some (AFile f)) = tt
fails_cut (Some AFolder) = tt
fails_cut None = tt

file_removes : (node : Option Node) (bytes : List ℕ) → Holds node (Some bytes) → RemovesRight node RemovedDone
file_removes (Some (AFile f)) bytes h = tt
file_removes (Some AFolder) bytes h = absurd h
file_removes None bytes h = absurd h

none_removes : (node : Option Node) → Holds node None → RemovesRight node Absent
none_removes (Some (AFile f)) h = absurd h
none_removes (Some AFolder) h = absurd h
none_removes None h = tt

fails_remove : (node : Option Node) → RemovesRight node RemoveFailed
fails_remove (Some (AFile f)) = tt
fails_remove (Some AFolder) = tt
fails_remove None = tt

none_ages : (w : World) (node : Option Node) → Holds node None → AgesRight node w.moment AgeAbsent
none_ages w (Some (AFile f)) h = absurd h
none_ages w (Some AFolder) h = absurd h
none_ages w None h = tt

fails_age : (w : World) (node : Option Node) → AgesRight node w.moment AgeFailed
fails_age w (Some (AFile f)) = tt
fails_age w (Some AFolder) = tt
fails_age w None = tt

grown_holds : (node : Option Node) (bytes more : List ℕ) → Holds node (Some bytes) → Holds (grown node more) (Some (bytes ++ more))
grown_holds (Some (AFile f)) bytes more h = ap (λ b. b ++ more) h
grown_holds (Some AFolder) bytes more h = absurd h
grown_holds None bytes more h = absurd h

kept_holds : (node : Option Node) (bytes : List ℕ) (len : ℕ) → Holds node (Some bytes) → Holds (kept node len) (Some (take len bytes))
kept_holds (Some (AFile f)) bytes len h = ap (take len) h
kept_holds (Some AFolder) bytes len h = absurd h
kept_holds None bytes len h = absurd h

get_other : (w : World) (name other : List ℕ) (x : Option Node) → (name ≡ other → ⊥) → (world_with w name x).nodes other ≡ w.nodes other
get_other w name other x ne =
    elim (bytes_eq name other) as (λ b. bytes_eq name other ≡ b → cond b x (w.nodes other) ≡ w.nodes other) [
      | true ↦ λ e. absurd (ne ((bytes_eq-Decides name other).0 e))
      | false ↦ λ e. refl
    ] refl

put_box : (lock name : List ℕ) (mailbox new : Option (List ℕ)) (locked : Bool) (w : World) (x : Option Node) → (lock ≡ name → ⊥) → Has lock name mailbox locked w → Holds x new → Has lock name new locked (world_with w name x)
put_box lock name mailbox new locked w x ne h holds = record {
  box = subst (λ n. Holds n new) (sym (get-put w name x)) holds;
  file = subst (λ n. Holds n (lock_file locked)) (sym (get_other w name lock x (λ e. ne (sym e)))) h.file;
  alone = h.alone;
}

put_lock : (lock name : List ℕ) (mailbox : Option (List ℕ)) (locked new : Bool) (w : World) (x : Option Node) → (lock ≡ name → ⊥) → Has lock name mailbox locked w → Holds x (lock_file new) → Has lock name mailbox new (world_with w lock x)
put_lock lock name mailbox locked new w x ne h holds = record {
  box = subst (λ n. Holds n mailbox) (sym (get_other w lock name x ne)) h.box;
  file = subst (λ n. Holds n (lock_file new)) (sym (get-put w lock x)) holds;
  alone = h.alone;
}

-- One call

abbrev Fine : List ℕ → List ℕ → List Logged → World → Option (List ℕ) → Bool → Type 0
Fine lock name calls w mailbox locked = AllMayAnswer calls w × Has lock name mailbox locked (after_calls calls w)

sleeps : (lock name : List ℕ) (mailbox : Option (List ℕ)) (locked : Bool) (w : World) (moment : ℤ) → Has lock name mailbox locked w
    → Has lock name mailbox locked (batch_of w.others (record { nodes = w.nodes; moment = moment; others = w.others; children = w.children; inputs = w.inputs }))
sleeps lock name mailbox locked w moment h =
    subst (λ os. Has lock name mailbox locked (batch_of os (record { nodes = w.nodes; moment = moment; others = os; children = w.children; inputs = w.inputs }))) (sym h.alone)
    (record { box = h.box; file = h.file; alone = refl })

lock_fine : (lock name : List ℕ) (mailbox : Option (List ℕ)) (locked : Bool) (w : World) (step : LockStep) (will : Will) → (lock ≡ name → ⊥) → Has lock name mailbox locked w
    → Fine lock name (lock_call lock step (lock_answer step locked will)) w mailbox (lock_outcome (lock_answer step locked will) locked).locked
lock_fine lock name mailbox true w Create (Serve n) ne h = ((file_exists (w.nodes lock) [] h.file, tt), h)
lock_fine lock name mailbox false w Create (Serve n) ne h =
    ((none_makes (w.nodes lock) h.file, tt), put_lock lock name mailbox false true w (Some (AFile (record { bytes = []; made = w.moment }))) ne h refl)
lock_fine lock name mailbox locked w Create Fail ne h = ((fails_make (w.nodes lock), tt), h)
lock_fine lock name mailbox true w Age (Serve n) ne h = ((is_file (w.nodes lock) [] h.file, tt), h)
lock_fine lock name mailbox false w Age (Serve n) ne h = ((none_ages w (w.nodes lock) h.file, tt), h)
lock_fine lock name mailbox locked w Age Fail ne h = ((fails_age w (w.nodes lock), tt), h)
lock_fine lock name mailbox true w Look (Serve n) ne h = ((file_looks (w.nodes lock) [] h.file, tt), h)
lock_fine lock name mailbox false w Look (Serve n) ne h = ((none_looks (w.nodes lock) h.file, tt), h)
lock_fine lock name mailbox locked w Look Fail ne h = ((fails_look (w.nodes lock), tt), h)
lock_fine lock name mailbox true w Remove (Serve n) ne h = ((file_removes (w.nodes lock) [] h.file, tt), put_lock lock name mailbox true false w None ne h tt)
lock_fine lock name mailbox false w Remove (Serve n) ne h = ((none_removes (w.nodes lock) h.file, tt), h)
lock_fine lock name mailbox locked w Remove Fail ne h = ((fails_remove (w.nodes lock), tt), h)
lock_fine lock name mailbox locked w (Sleep seconds) will ne h = ((tt, tt), sleeps lock name mailbox locked w (later_moment w.moment seconds) h)
lock_fine lock name mailbox locked w (Finish end) will ne h = (tt, h)

append_fine : (lock name piece : List ℕ) (mailbox : Option (List ℕ)) (locked : Bool) (w : World) (step : AppendStep) (will : Will) → (lock ≡ name → ⊥) → Has lock name mailbox locked w
    → Fine lock name (append_call name piece step (append_answer step (length piece) mailbox will)) w (mailbox_after step (append_answer step (length piece) mailbox will) piece mailbox) locked
append_fine lock name piece (Some bytes) locked w AskLook (Serve n) ne h = ((file_looks (w.nodes name) bytes h.box, tt), h)
append_fine lock name piece None locked w AskLook (Serve n) ne h = ((none_looks (w.nodes name) h.box, tt), h)
append_fine lock name piece mailbox locked w AskLook Fail ne h = ((fails_look (w.nodes name), tt), h)
append_fine lock name piece (Some bytes) locked w AskCreate (Serve n) ne h = ((file_exists (w.nodes name) bytes h.box, tt), h)
append_fine lock name piece None locked w AskCreate (Serve n) ne h =
    ((none_makes (w.nodes name) h.box, tt), put_box lock name None (Some []) locked w (Some (AFile (record { bytes = []; made = w.moment }))) ne h refl)
append_fine lock name piece mailbox locked w AskCreate Fail ne h = ((fails_make (w.nodes name), tt), h)
append_fine lock name piece (Some bytes) locked w (AskAppend from) (Serve n) ne h =
    let more = take (part_of (length piece - from) n) (drop from piece) in
    ((is_file (w.nodes name) bytes h.box, tt), put_box lock name (Some bytes) (Some (bytes ++ more)) locked w (grown (w.nodes name) more) ne h (grown_holds (w.nodes name) bytes more h.box))
append_fine lock name piece None locked w (AskAppend from) (Serve n) ne h = ((fails_append (w.nodes name), tt), h)
append_fine lock name piece mailbox locked w (AskAppend from) Fail ne h = ((fails_append (w.nodes name), tt), h)
append_fine lock name piece (Some bytes) locked w AskSync (Serve n) ne h = ((is_file (w.nodes name) bytes h.box, tt), h)
append_fine lock name piece None locked w AskSync (Serve n) ne h = ((fails_sync (w.nodes name), tt), h)
append_fine lock name piece mailbox locked w AskSync Fail ne h = ((fails_sync (w.nodes name), tt), h)
append_fine lock name piece (Some bytes) locked w (AskCut old) (Serve n) ne h =
    ((is_file (w.nodes name) bytes h.box, tt), put_box lock name (Some bytes) (Some (take old bytes)) locked w (kept (w.nodes name) old) ne h (kept_holds (w.nodes name) bytes old h.box))
append_fine lock name piece None locked w (AskCut old) (Serve n) ne h = ((fails_cut (w.nodes name), tt), h)
append_fine lock name piece mailbox locked w (AskCut old) Fail ne h = ((fails_cut (w.nodes name), tt), h)
append_fine lock name piece (Some bytes) locked w AskRemove (Serve n) ne h = ((file_removes (w.nodes name) bytes h.box, tt), put_box lock name (Some bytes) None locked w None ne h tt)
append_fine lock name piece None locked w AskRemove (Serve n) ne h = ((none_removes (w.nodes name) h.box, tt), h)
append_fine lock name piece mailbox locked w AskRemove Fail ne h = ((fails_remove (w.nodes name), tt), h)
append_fine lock name piece mailbox locked w (AppendFinish end) will ne h = (tt, h)

give_fine : (lock name piece : List ℕ) (mailbox : Option (List ℕ)) (locked : Bool) (w : World) (will : Will) → (lock ≡ name → ⊥) → Has lock name mailbox locked w
    → Fine lock name (logged (CallRemove lock) (AnswerRemove (give_answer locked will)) ∷ []) w mailbox (give_outcome (give_answer locked will) locked).locked
give_fine lock name piece mailbox true w (Serve n) ne h = ((file_removes (w.nodes lock) [] h.file, tt), put_lock lock name mailbox true false w None ne h tt)
give_fine lock name piece mailbox false w (Serve n) ne h = ((none_removes (w.nodes lock) h.file, tt), h)
give_fine lock name piece mailbox locked w Fail ne h = ((fails_remove (w.nodes lock), tt), h)

call_fine : (lock name piece : List ℕ) (place : Place) (mailbox : Option (List ℕ)) (locked : Bool) (w : World) (will : Will) → (lock ≡ name → ⊥) → Has lock name mailbox locked w
    → Fine lock name (call_by lock name piece place mailbox locked will) w (mailbox_by piece place mailbox will) (outcome_by place locked will).locked
call_fine lock name piece (Locking t) mailbox locked w will ne h = lock_fine lock name mailbox locked w (lock_step t.at) will ne h
call_fine lock name piece (Appending a) mailbox locked w will ne h = append_fine lock name piece mailbox locked w (append_step a.len a.sync a.at) will ne h
call_fine lock name piece (Giving end) mailbox locked w will ne h = give_fine lock name piece mailbox locked w will ne h
call_fine lock name piece (Gone end answer) mailbox locked w will ne h = (tt, h)
call_fine lock name piece (Away end) mailbox locked w will ne h = (tt, h)

-- A schedule

abbrev Goes : List ℕ → List ℕ → List Logged → World → Turning → Type 0
Goes lock name calls w s = Fine lock name calls w s.mailbox s.locked

place_fine : (lock name piece : List ℕ) (s : Turning) (v : ℕ) (place : Place) (w : World) (will : Will) → (lock ≡ name → ⊥) → Has lock name s.mailbox s.locked w
    → Goes lock name (call_by lock name piece place s.mailbox s.locked will) w (place_turn s v piece place will)
place_fine lock name piece s v (Locking t) w will ne h = call_fine lock name piece (Locking t) s.mailbox s.locked w will ne h
place_fine lock name piece s v (Appending a) w will ne h = call_fine lock name piece (Appending a) s.mailbox s.locked w will ne h
place_fine lock name piece s v (Giving end) w will ne h = call_fine lock name piece (Giving end) s.mailbox s.locked w will ne h
place_fine lock name piece s v (Gone end answer) w will ne h = (tt, h)
place_fine lock name piece s v (Away end) w will ne h = (tt, h)

turn_fine : (lock name : List ℕ) (s : Turning) (v : ℕ) (d : Option Delivery) (w : World) (will : Will) → (lock ≡ name → ⊥) → Has lock name s.mailbox s.locked w
    → Goes lock name (call_of lock name s d will) w (turn s v d will)
turn_fine lock name s v None w will ne h = (tt, h)
turn_fine lock name s v (Some d) w will ne h = place_fine lock name d.piece s v d.place w will ne h

event_fine : (lock name : List ℕ) (s : Turning) (e : Event) (w : World) → (lock ≡ name → ⊥) → Has lock name s.mailbox s.locked w → Goes lock name (made lock name s e) w (happens s e)
event_fine lock name s e w ne h =
    elim s.forced as (λ b. Goes lock name (cond b [] (call_of lock name s (slice_get s.writers e.writer) e.will)) w (cond b s (turn s e.writer (slice_get s.writers e.writer) e.will))) [
      | true ↦ (tt, h)
      | false ↦ turn_fine lock name s e.writer (slice_get s.writers e.writer) w e.will ne h
    ]

both_answer : (cs ds : List Logged) (w : World) → AllMayAnswer cs w → AllMayAnswer ds (after_calls cs w) → AllMayAnswer (cs ++ ds) w
both_answer [] ds w h k = k
both_answer (c ∷ cs) ds w h k = (h.0, both_answer cs ds (after_call c.call c.answer w) h.1 k)

pub stands_in_tree : (lock name : List ℕ) → (lock ≡ name → ⊥) → (s : Turning) (events : List Event) (w : World) → Has lock name s.mailbox s.locked w
    → AllMayAnswer (all_calls lock name events s) w × Has lock name (run events s).mailbox (run events s).locked (after_calls (all_calls lock name events s) w)
stands_in_tree lock name ne s [] w h = (tt, h)
stands_in_tree lock name ne s (e ∷ es) w h =
    let one = event_fine lock name s e w ne h in
    let more = stands_in_tree lock name ne (happens s e) es (after_calls (made lock name s e) w) one.1 in (
      both_answer (made lock name s e) (all_calls lock name es (happens s e)) w one.0 more.0,
      subst (λ v. Has lock name (run (e ∷ es) s).mailbox (run (e ∷ es) s).locked v) (sym (after_calls-append (made lock name s e) (all_calls lock name es (happens s e)) w)) more.1,
    )
