-- Stretches of a run, one after the other.
use Rattle.std.proofs.Common.{◌≡◌, List, [], ◌++◌, Option, Result, ◌∙◌, sym, ap, subst, append_assoc}
use Rattle.pm_bytes.specs.declared.error.Memory.{Memory}
use Rattle.pm_journal.specs.JournalState.{JournalState}
use Rattle.pm_journal.specs.Entries.{View}
use Rattle.pm_journal.specs.Held.{Keeps, Keeping}
use Rattle.pm_journal.specs.Plan.{Plan}
use Rattle.pm_journal.specs.Walking.{Next, Means, IsUnfinished, Reaches, Abandoned}
use Rattle.pm_journal.proofs.AccountsJoin.{accounts_join}
use Rattle.pm_journal.proofs.KeepingActs.{keeps_rest}
use Rattle.pm_journal.proofs.KeepsJoin.{keeps_join}
use Rattle.pm_journal.proofs.WalkJoin.{arrives_on, reaches_itself}
use Rattle.pm_meaning.specs.Courses.{Course, now_at, advance}
use Rattle.pm_meaning.specs.Minds.{Mind}
use Rattle.pm_meaning.specs.Running.{State, Item, Event, Running, step}
use Rattle.pm_meaning.specs.declared.ending.Ending.{Ending}
use Rattle.pm_meaning.proofs.Choices.{ok_map, err_map}
use Rattle.pm_meaning.proofs.Lifting.{reaches_in_run}
use Rattle.pm_run.specs.Copies.{others_of}
use Rattle.pm_run.specs.RunningOut.{MayRunOut, RunMayRunOut, RunsOut, GaveUp}
use Rattle.pm_run.specs.Stretches.{Walks, Proceeds}
use Rattle.pm_run.specs.declared.queue.Queue.{Queue}
use Rattle.pm_run.proofs.RunOutLemmas.{stopped_on, ran_out_reached, ran_out_in_run}

-- from one state to another, and on to a third
pub reaches_on : {S X : Type 0} (step : S → Plan (Next S X)) (s t u : S) (x y z : JournalState) (a b c : View) → Reaches {X = X} step s t x y a b → Reaches {X = X} step t u y z b c → Reaches {X = X} step s u x z a c
reaches_on {S} {X} step s t u x y z a b c h k = record {
  more = h.more ++ k.more;
  entries = k.entries ∙ ap (λ l. l ++ k.more) h.entries ∙ append_assoc x.entries h.more k.more;
  arrives = arrives_on step h.arrives.steps s t u h.more k.more h.arrives.plays k.arrives;
  means = λ later end m. subst (λ l. Means step s l end) (sym (append_assoc h.more k.more later)) (h.means (k.more ++ later) end (k.means later end m));
  unfinished = λ later calls m. subst (λ l. IsUnfinished step s l calls) (sym (append_assoc h.more k.more later)) (h.unfinished (k.more ++ later) calls (k.unfinished later calls m));
  accounts = accounts_join h.more k.more a b c h.accounts k.accounts;
}

-- a process that went on to where no lock is held, wanted memory later, and gave its locks back
pub abandoned_on : {S X : Type 0} (step : S → Plan (Next S X)) (s t : S) (x y z : JournalState) (a b c : View) → Reaches {X = X} step s t x y a b → Keeping x [] → Keeping y [] → Abandoned {X = X} step t y z b c → Abandoned {X = X} step s x z a c
abandoned_on step s t x y z a b c h start now k = record {
  done = h.more ++ k.done;
  given = k.given;
  entries = k.entries ∙ ap (λ l. l ++ k.done ++ k.given) h.entries ∙ ap (λ l. l ++ k.given) (append_assoc x.entries h.more k.done);
  middle = k.middle;
  accounts = accounts_join h.more k.done a b k.middle h.accounts k.accounts;
  left_off = k.left_off;
  unfinished = h.unfinished k.done k.left_off k.unfinished;
  later = k.later;
  took = k.took;
  held = k.held;
  kept = keeps_join h.more k.done [] [] k.held (keeps_rest x.entries h.more [] [] [] start.keeps (subst (λ l. Keeps [] l []) h.entries now.keeps)) k.kept;
  unlocks = k.unlocks;
  back = k.back;
}

-- the same, where memory may be wanting there
pub gave_up_on : (c d : Course) (x y z : JournalState) (a b e : View) → Reaches {X = Ending} advance c d x y a b → Keeping x [] → Keeping y [] → GaveUp d y z b e → GaveUp c x z a e
unfolding abandoned_on
gave_up_on c d x y z a b e h start now k = record {
  abandoned = abandoned_on advance c d x y z a b e h start now k.abandoned;
  place = stopped_on advance RunMayRunOut c d h.more k.abandoned.done k.abandoned.left_off h.arrives k.place;
}

-- the run went on, or memory was wanting in it, whatever came of its first process
abbrev pub RunsOn : Queue → Queue → State → State → JournalState → JournalState → View → View → Type 0
RunsOn queue later s t x y a b = (first : Option Ending) → Reaches {X = Ending} advance (now_at (others_of queue first) s) (now_at (others_of later first) t) x y a b

abbrev pub Breaks : Queue → State → JournalState → JournalState → View → View → Type 0
Breaks queue s x y a b = (first : Option Ending) → RunsOut {X = Ending} advance RunMayRunOut (now_at (others_of queue first) s) x y a b

pub runs_itself : (queue : Queue) (s : State) (x : JournalState) (a : View) → RunsOn queue queue s s x x a a
runs_itself queue s x a = λ first. reaches_itself advance (now_at (others_of queue first) s) x a

pub runs_same : (queue : Queue) (items more : List Item) (p q : Mind) (x : JournalState) (a : View) → items ≡ more → p ≡ q → RunsOn queue queue (Running items p) (Running more q) x x a a
runs_same queue items more p q x a e k =
    subst (λ l. RunsOn queue queue (Running items p) (Running l q) x x a a) e
    (subst (λ m. RunsOn queue queue (Running items p) (Running items m) x x a a) k (runs_itself queue (Running items p) x a))

-- a process's stretch is one of the run
pub lifted : (queue : Queue) (s t : State) (x y : JournalState) (a b : View) → Reaches {X = Event} step s t x y a b → RunsOn queue queue s t x y a b
lifted queue s t x y a b h = λ first. reaches_in_run (others_of queue first) s t x y a b h

pub lifted_out : (queue : Queue) (s : State) (x y : JournalState) (a b : View) → RunsOut {X = Event} step MayRunOut s x y a b → Breaks queue s x y a b
lifted_out queue s x y a b h = λ first. ran_out_in_run (others_of queue first) s x y a b h

-- after a stretch of the run comes another one
pub runs_run : (queue middle later : Queue) (s t u : State) (x y z : JournalState) (a b c : View) → RunsOn queue middle s t x y a b → RunsOn middle later t u y z b c → RunsOn queue later s u x z a c
runs_run queue middle later s t u x y z a b c h k = λ first.
    reaches_on advance (now_at (others_of queue first) s) (now_at (others_of middle first) t) (now_at (others_of later first) u) x y z a b c (h first) (k first)

pub runs_break : (queue middle : Queue) (s t : State) (x y z : JournalState) (a b c : View) → RunsOn queue middle s t x y a b → Breaks middle t y z b c → Breaks queue s x z a c
runs_break queue middle s t x y z a b c h k = λ first.
    ran_out_reached advance RunMayRunOut (now_at (others_of queue first) s) (now_at (others_of middle first) t) x y z a b c (h first) (k first)

-- or one of its process
pub runs_walk : (queue middle : Queue) (s t u : State) (x y z : JournalState) (a b c : View) → RunsOn queue middle s t x y a b → Reaches {X = Event} step t u y z b c → RunsOn queue middle s u x z a c
runs_walk queue middle s t u x y z a b c h k = runs_run queue middle middle s t u x y z a b c h (lifted middle t u y z b c k)

pub runs_out : (queue middle : Queue) (s t : State) (x y z : JournalState) (a b c : View) → RunsOn queue middle s t x y a b → RunsOut {X = Event} step MayRunOut t y z b c → Breaks queue s x z a c
runs_out queue middle s t x y z a b c h k = runs_break queue middle s t x y z a b c h (lifted_out middle t y z b c k)

-- after a stretch, whatever came of the first process, comes one of which that is known
pub runs_here : (queue later : Queue) (s t u : State) (x y z : JournalState) (a b c : View) → RunsOn queue queue s t x y a b → (first : Option Ending)
    → Reaches {X = Ending} advance (now_at (others_of queue first) t) (now_at (others_of later first) u) y z b c → Reaches {X = Ending} advance (now_at (others_of queue first) s) (now_at (others_of later first) u) x z a c
runs_here queue later s t u x y z a b c h first k =
    reaches_on advance (now_at (others_of queue first) s) (now_at (others_of queue first) t) (now_at (others_of later first) u) x y z a b c (h first) k

pub breaks_here : (queue : Queue) (s t : State) (x y z : JournalState) (a b c : View) → RunsOn queue queue s t x y a b → (first : Option Ending)
    → RunsOut {X = Ending} advance RunMayRunOut (now_at (others_of queue first) t) y z b c → RunsOut {X = Ending} advance RunMayRunOut (now_at (others_of queue first) s) x z a c
breaks_here queue s t x y z a b c h first k =
    ran_out_reached advance RunMayRunOut (now_at (others_of queue first) s) (now_at (others_of queue first) t) x y z a b c (h first) k

-- after some steps a process went on, whatever its answer stands for
pub walks_on : {A : Type 0} (s t : State) (to : A → State) (answer : Result A Memory) (x y z : JournalState) (a b c : View) → Reaches {X = Event} step s t x y a b → Walks t to answer y z b c → Walks s to answer x z a c
walks_on s t to answer x y z a b c h k = (
  ok_map answer _ _ (λ n m. reaches_on step s t (to n) x y z a b c h m) k.0,
  err_map answer _ _ (λ m. ran_out_reached step MayRunOut s t x y z a b c h m) k.1,
)

-- so did the run
pub walks_run : {A : Type 0} (queue : Queue) (s : State) (to : A → State) (answer : Result A Memory) (x y : JournalState) (a b : View) → Walks s to answer x y a b → Proceeds queue queue s to answer x y a b
walks_run queue s to answer x y a b h = λ first. (
  ok_map answer _ _ (λ n m. lifted queue s (to n) x y a b m first) h.0,
  err_map answer _ _ (λ m. lifted_out queue s x y a b m first) h.1,
)

pub proceeds_on : {A : Type 0} (queue later : Queue) (s t : State) (to : A → State) (answer : Result A Memory) (x y z : JournalState) (a b c : View) → Reaches {X = Event} step s t x y a b → Proceeds queue later t to answer y z b c
    → Proceeds queue later s to answer x z a c
proceeds_on queue later s t to answer x y z a b c h k = λ first. (
  ok_map answer _ _ (λ n m. runs_here queue later s t (to n) x y z a b c (lifted queue s t x y a b h) first m) (k first).0,
  err_map answer _ _ (λ m. breaks_here queue s t x y z a b c (lifted queue s t x y a b h) first m) (k first).1,
)
