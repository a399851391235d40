-- A process's steps are steps of the run, with the others as they are.
use Rattle.std.proofs.Common.{◌≡◌, refl}
use Rattle.pm_journal.specs.JournalState.{JournalState}
use Rattle.pm_journal.specs.Entries.{View}
use Rattle.pm_journal.specs.Plan.{Ends, and_then}
use Rattle.pm_journal.specs.Walking.{Go, Reaches}
use Rattle.pm_journal.proofs.WalkLift.{reaches_within}
use Rattle.pm_meaning.specs.Courses.{Others, now_at, onward, advance}
use Rattle.pm_meaning.specs.Running.{State, Event, step}
use Rattle.pm_meaning.specs.declared.ending.Ending.{Ending}

goes : (o : Others) (s : State) → onward o (Go s) ≡ Go (now_at o s)
goes o s = refl

carries : (o : Others) (s : State) → advance (now_at o s) ≡ and_then (step s) (λ next. Ends (onward o next))
carries o s = refl

pub reaches_in_run : (o : Others) (s t : State) (x y : JournalState) (a b : View) → Reaches {X = Event} step s t x y a b → Reaches {X = Ending} advance (now_at o s) (now_at o t) x y a b
reaches_in_run o s t x y a b h = reaches_within step advance (now_at o) (onward o) (goes o) (carries o) s t x y a b h
