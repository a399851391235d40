-- Two writers, and one that removes a lock by force.
use Rattle.std.proofs.Common.{◌≡◌, true, false, ℕ, List, [], ◌∷◌, ◌++◌, Option, Some, None, codes, refl, slice_get}
use Rattle.pm_host.specs.declared.answers.Removed.TheVariants.{Removed as RemovedDone}
use Rattle.pm_journal.specs.Appending.{append_step}
use Rattle.pm_journal.specs.declared.appending.AppendEnd.TheVariants.{Done, Undone}
use Rattle.pm_journal.specs.declared.appending.AppendStep.{AppendStep}
use Rattle.pm_journal.specs.declared.appending.AppendStep.TheVariants.{Cut}
use Rattle.pm_turns.specs.declared.writers.Delivery.{Delivery}
use Rattle.pm_turns.specs.declared.writers.Place.{Place}
use Rattle.pm_turns.specs.declared.writers.Place.TheVariants.{Appending, Gone}
use Rattle.pm_turns.specs.declared.writers.Stepped.{Stepped}
use Rattle.pm_turns.specs.declared.writers.Stepped.TheVariants.{Went, Over, Forced}
use Rattle.pm_turns.specs.declared.writers.Will.TheVariants.{Serve, Fail}
use Rattle.pm_turns.specs.declared.writers.Writer.{Writer}
use Rattle.pm_turns.specs.Turning.{Turning, Event, event, opens, happens, run, stepped, has_ended}

abbrev writer : List ℕ → ℕ → Writer
writer piece limit = record { piece = piece; sleep = 1; limit = limit; suspend = 1; tries = 3 }

abbrev two : Turning
two = opens (Some (codes "x")) false (writer (codes "aa") 0 ∷ writer (codes "b") 0 ∷ [])

-- what each event of a schedule answers
abbrev answers : List Event → Turning → List Stepped
answers [] s = []
answers (e ∷ es) s = stepped (happens s e).forced (has_ended (slice_get s.writers e.writer)) ∷ answers es (happens s e)

abbrev step_at : Place → Option AppendStep
step_at (Appending a) = Some (append_step a.len a.sync a.at)
step_at other = None

abbrev next_step : Option Delivery → Option AppendStep
next_step None = None
next_step (Some d) = step_at d.place

abbrev place_of : Option Delivery → Option Place
place_of None = None
place_of (Some d) = Some d.place

-- the first has appended one byte of two, and then a call of it fails; the second has waited
abbrev some_taken : List Event
some_taken = event 0 (Serve 0) ∷ event 1 (Serve 0) ∷ event 0 (Serve 0) ∷ event 0 (Serve 1) ∷ event 1 (Serve 0) ∷ event 1 (Serve 0) ∷ event 0 Fail ∷ []

a_mailbox : (run some_taken two).mailbox ≡ Some (codes "xa")
a_mailbox = refl

a_locked : (run some_taken two).locked ≡ true
a_locked = refl

a_cuts : next_step (slice_get (run some_taken two).writers 0) ≡ Some (Cut 1)
a_cuts = refl

-- the first is cut back, and gives the lock back
abbrev undone : Turning
undone = run (event 0 (Serve 0) ∷ event 0 (Serve 0) ∷ []) (run some_taken two)

b_mailbox : undone.mailbox ≡ Some (codes "x")
b_mailbox = refl

b_free : undone.locked ≡ false
b_free = refl

b_undone : place_of (slice_get undone.writers 0) ≡ Some (Gone Undone RemovedDone)
b_undone = refl

-- the second sleeps, gets the lock, looks, appends, syncs and gives the lock back
abbrev others : List Event
others = event 1 (Serve 0) ∷ event 1 (Serve 0) ∷ event 1 (Serve 0) ∷ event 1 (Serve 9) ∷ event 1 (Serve 0) ∷ event 1 (Serve 0) ∷ []

c_mailbox : (run others undone).mailbox ≡ Some (codes "xb")
c_mailbox = refl

c_done : place_of (slice_get (run others undone).writers 1) ≡ Some (Gone Done RemovedDone)
c_done = refl

c_order : (run others undone).order ≡ 0 ∷ 1 ∷ []
c_order = refl

c_answers : answers (others ++ event 1 (Serve 0) ∷ []) undone ≡ Went ∷ Went ∷ Went ∷ Went ∷ Went ∷ Went ∷ Over ∷ []
c_answers = refl

-- one that may remove a lock by force after 5 seconds, and finds one of 6 seconds
d_answers : answers (event 0 (Serve 0) ∷ event 0 (Serve 6) ∷ event 0 (Serve 0) ∷ event 0 (Serve 0) ∷ event 0 (Serve 0) ∷ []) (opens None true (writer (codes "aa") 5 ∷ []))
    ≡ Went ∷ Went ∷ Went ∷ Forced ∷ Forced ∷ []
d_answers = refl
