-- One process after another.
use Rattle.std.proofs.Common.{◌≡◌, ℕ, List, [], ◌∷◌, Option, Some, None, ◌∙◌, map, refl, sym, ap, subst, arith}
use Rattle.pm_journal.specs.JournalState.{JournalState}
use Rattle.pm_journal.specs.Entries.{View}
use Rattle.pm_journal.specs.Held.{Keeps, Keeping}
use Rattle.pm_journal.specs.Plan.{Ends}
use Rattle.pm_journal.specs.Executed.{Executes, GivesEach}
use Rattle.pm_journal.specs.Walking.{Next, Stop, Go, Reaches, Completes}
use Rattle.pm_journal.proofs.ActPlans.{executes_then}
use Rattle.pm_journal.proofs.WalkJoin.{reaches_itself, reaches_once, reaches_then, completes_then, completes_reached}
use Rattle.pm_journal.proofs.WantsMemory.{executes_nothing}
use Rattle.pm_meaning.specs.Minds.{Mind, mind_of}
use Rattle.pm_meaning.specs.Courses.{Others, Course, now_at, resumed, next_process, first_end, onward, advance, alone}
use Rattle.pm_meaning.specs.Running.{State, Event, Ended, Running, Closing, unlock_each, step}
use Rattle.pm_meaning.specs.declared.ending.Ending.{Ending}
use Rattle.pm_meaning.proofs.Unlocks.{unlocks_played}
use Rattle.pm_run.specs.Nested.{frame_of, items_in}
use Rattle.pm_run.specs.Copies.{task_of, others_of}
use Rattle.pm_run.specs.declared.task.Copy.{Copy}
use Rattle.pm_run.specs.declared.queue.Queue.{Queue}
use Rattle.pm_run.specs.Others.{next_in, GoesOn, GivesUp}
use Rattle.pm_run.specs.RunningOut.{RunMayRunOut, RunsOut, GaveUp}
use Rattle.pm_run.specs.declared.process.Counts.{Counts}
use Rattle.pm_run.proofs.RunOutLemmas.{ran_out_reached, gave_up_by}
use Rattle.pm_run.proofs.RunLemmas.{RunsOn, Breaks, lifted, runs_run, runs_break, reaches_on, gave_up_on}

abbrev After : Type 0
After = Next Course Ending

-- between processes no lock is held
pub keeping_none : (x : JournalState) → Keeps [] x.entries [] → Keeping x []
keeping_none x k = record { keeps = k; room = omega (arith) }

-- all locks were given back, and the run comes to what stands after its process
pub closes : (o : Others) (ending : Ending) (p : Mind) (x y : JournalState) (a b : View) → GivesEach p.locks x y a b
    → Executes {R = After} (advance (now_at o (Closing ending p))) (next_process o.queue o.made (first_end o.first ending) p.placed p.openings) x y a b
closes o ending p x y a b k =
    let event : Next State Event = Stop (Ended ending p) in
    let next : After = next_process o.queue o.made (first_end o.first ending) p.placed p.openings in
    executes_then (unlock_each p.locks event) (λ n. Ends (onward o n)) event next x y y a b b
    (record { more = k.given; entries = k.entries; plays = unlocks_played p.locks event k.given k.accounts.groups k.unlocks k.accounts.honest; accounts = k.accounts })
    (executes_nothing next y y b refl)

-- a process went on to its last state, and then this comes
pub goes_to : (c d : Course) (n : After) (x y z : JournalState) (a b e : View) → Reaches {X = Ending} advance c d x y a b → Executes (advance d) n y z b e → GoesOn (Go c) n x z a e
goes_to c d (Go m) x y z a b e h k = reaches_then advance c d m x y z a b e h k
goes_to c d (Stop end) x y z a b e h k = completes_then advance c d end x y z a b e h k

-- a process came next, and went on to its last state
pub goes_further : (n m : After) (c d : Course) (x y z w : JournalState) (a b e f : View) → GoesOn n (Go c) x y a b → Reaches {X = Ending} advance c d y z b e → Executes (advance d) m z w e f → GoesOn n m x w a f
goes_further (Go s) m c d x y z w a b e f h k l = goes_to s d m x z w a e f (reaches_on advance s c d x y z a b e h k) l
goes_further (Stop end) m c d x y z w a b e f h k l = let is : Go c ≡ Stop end = h.0 in absurd (cc)

-- or memory was wanting in it
pub gives_up : (n : After) (c : Course) (held : List (List ℕ)) (x y z w : JournalState) (a b e f : View) → GoesOn n (Go c) x y a b → RunsOut {X = Ending} advance RunMayRunOut c y z b e → GivesEach held z w e f → Keeping x [] → Keeping z held
    → GivesUp n x w a f
gives_up (Go s) c held x y z w a b e f h k g start now = gave_up_by s held x z w a e f (ran_out_reached advance RunMayRunOut s c x y z a b e h k) g start now
gives_up (Stop end) c held x y z w a b e f h k g start now = let is : Go c ≡ Stop end = h.0 in absurd (cc)

-- the run is over once no copy is left
pub all_done : (n m : After) (first : Ending) (x y : JournalState) (a b : View) → m ≡ Stop first → GoesOn n m x y a b → GoesOn n (Stop first) x y a b
all_done n m first x y a b e h = subst (λ k. GoesOn n k x y a b) e h

-- the first process, and then the others
pub first_then : (c d : Course) (n : After) (ending : Ending) (x y z w : JournalState) (a b e f : View) → Reaches {X = Ending} advance c d x y a b → Executes (advance d) n y z b e → GoesOn n (Stop ending) z w e f → Completes advance c ending x w a f
first_then c d (Go m) ending x y z w a b e f h k l = completes_reached advance c m ending x z w a e f (reaches_then advance c d m x y z a b e h k) l
first_then c d (Stop end) ending x y z w a b e f h k l =
    let is : Stop ending ≡ Stop end = l.0 in
    let same : end ≡ ending = cc in
    subst (λ v. Completes advance c ending x w a v) (sym l.2)
    (subst (λ j. Completes advance c ending x j a e) (sym l.1) (subst (λ v. Completes advance c v x z a e) same (completes_then advance c d end x y z a b e h k)))

pub first_then_wants : (c d : Course) (n : After) (x y z w : JournalState) (a b e f : View) → Reaches {X = Ending} advance c d x y a b → Executes (advance d) n y z b e → Keeping x [] → Keeping z [] → GivesUp n z w e f → GaveUp c x w a f
first_then_wants c d (Go m) x y z w a b e f h k start now l = gave_up_on c m x z w a e f (reaches_then advance c d m x y z a b e h k) start now l
first_then_wants c d (Stop end) x y z w a b e f h k start now l = absurd l

-- no copy waits, and none was made
pub none_others : (queue : Queue) → queue.copies.items ≡ [] → queue.made ≡ 0 → others_of queue None ≡ alone
none_others queue empty none = ap (λ l. record { queue = map task_of l; made = queue.made; first = None }) empty ∙ ap (λ n. record { queue = []; made = n; first = None }) none

-- nothing was done yet
pub goes_itself : (n : After) (x : JournalState) (a : View) → GoesOn n n x x a a
goes_itself (Go c) x a = reaches_itself advance c x a
goes_itself (Stop end) x a = (refl, refl, refl)

-- the first of the copies comes next
pub next_is : (queue popped : Queue) (copy : Copy) (first : Ending) (counts : Counts) → queue.copies.items ≡ copy ∷ popped.copies.items → popped.made ≡ queue.made
    → next_in queue first counts ≡ Go (now_at (others_of popped (Some first)) (Running (items_in (map frame_of copy.frames.items)) (resumed (mind_of copy.process) counts.placed counts.openings)))
next_is queue popped copy first counts e same =
    ap (λ l. next_process (map task_of l) queue.made first counts.placed counts.openings) e
    ∙ ap (λ n. Go (now_at (record { queue = map task_of popped.copies.items; made = n; first = Some first }) (Running (items_in (map frame_of copy.frames.items)) (resumed (mind_of copy.process) counts.placed counts.openings)))) (sym same)

-- or the end, once none is left
pub none_next : (queue : Queue) (first : Ending) (counts : Counts) → queue.copies.items ≡ [] → next_in queue first counts ≡ Stop first
none_next queue first counts e = ap (λ l. next_process (map task_of l) queue.made first counts.placed counts.openings) e

-- what comes next begins with these counts
counted : (queue : Queue) (first : Ending) (counts : Counts) (placed openings : ℕ) → counts.placed ≡ placed → counts.openings ≡ openings → next_process (map task_of queue.copies.items) queue.made first placed openings ≡ next_in queue first counts
counted queue first counts placed openings p o =
    ap (λ n. next_process (map task_of queue.copies.items) queue.made first n openings) (sym p) ∙ ap (λ n. next_process (map task_of queue.copies.items) queue.made first counts.placed n) (sym o)

pub closes_to : (queue : Queue) (was : Option Ending) (first ending : Ending) (counts : Counts) (p : Mind) (x y : JournalState) (a b : View) → first_end was ending ≡ first → counts.placed ≡ p.placed → counts.openings ≡ p.openings → GivesEach p.locks x y a b
    → Executes {R = After} (advance (now_at (others_of queue was) (Closing ending p))) (next_in queue first counts) x y a b
closes_to queue was first ending counts p x y a b e c o k =
    let plan = advance (now_at (others_of queue was) (Closing ending p)) in
    subst (λ n. Executes {R = After} plan n x y a b) (ap (λ f. next_process (map task_of queue.copies.items) queue.made f p.placed p.openings) e ∙ counted queue first counts p.placed p.openings c o)
    (closes (others_of queue was) ending p x y a b k)

-- a copy ran, from its first state to its last one
module _ (n : After) (queue popped later : Queue) (copy : Copy) (first : Ending) (counts : Counts) (x y z : JournalState) (a b e : View) (items : queue.copies.items ≡ copy ∷ popped.copies.items) (same : popped.made ≡ queue.made)
    (before : GoesOn n (next_in queue first counts) x y a b) where
  abbrev begins : State
  begins = Running (items_in (map frame_of copy.frames.items)) (resumed (mind_of copy.process) counts.placed counts.openings)

  came : GoesOn n (Go (now_at (others_of popped (Some first)) begins)) x y a b
  came = subst (λ m. GoesOn n m x y a b) (next_is queue popped copy first counts items same) before

  pub copy_ran : (ending : Ending) (p : Mind) (after : Counts) (w : JournalState) (f : View) → RunsOn popped later begins (Closing ending p) y z b e → after.placed ≡ p.placed → after.openings ≡ p.openings → GivesEach p.locks z w e f
      → GoesOn n (next_in later first after) x w a f
  copy_ran ending p after w f runs c o k =
      goes_further n (next_in later first after) (now_at (others_of popped (Some first)) begins) (now_at (others_of later (Some first)) (Closing ending p)) x y z w a b e f came (runs (Some first))
      (closes_to later (Some first) first ending after p z w e f refl c o k)

  pub copy_wants : (held : List (List ℕ)) (w : JournalState) (f : View) → Breaks popped begins y z b e → GivesEach held z w e f → Keeping x [] → Keeping z held → GivesUp n x w a f
  copy_wants held w f breaks k start now = gives_up n (now_at (others_of popped (Some first)) begins) held x y z w a b e f came (breaks (Some first)) k start now

-- the first process ran
module _ (queue later : Queue) (s t : State) (x y z : JournalState) (a b e : View) (none : queue.copies.items ≡ []) (zero : queue.made ≡ 0) (began : Executes {R = Next State Event} (step s) (Go t) x y a b) where
  began_run : RunsOn queue queue s t x y a b
  began_run = lifted queue s t x y a b (reaches_once step s t x y a b began)

  at_first : (P : Course → Type 0) → P (now_at (others_of queue None) s) → P (now_at alone s)
  at_first P h = subst (λ o. P (now_at o s)) (none_others queue none zero) h

  pub first_wants : (held : List (List ℕ)) (w : JournalState) (f : View) → Breaks queue t y z b e → GivesEach held z w e f → Keeping x [] → Keeping z held → GaveUp (now_at alone s) x w a f
  first_wants held w f breaks k start now =
      at_first (λ c. GaveUp c x w a f)
      (gave_up_by (now_at (others_of queue None) s) held x z w a e f (runs_break queue queue s t x y z a b e began_run breaks None) k start now)

  module _ (ending : Ending) (p : Mind) (counts : Counts) (w v : JournalState) (f g : View) (runs : RunsOn queue later t (Closing ending p) y z b e) (c : counts.placed ≡ p.placed) (o : counts.openings ≡ p.openings) (k : GivesEach p.locks z w e f) where
    ran : Reaches {X = Ending} advance (now_at (others_of queue None) s) (now_at (others_of later None) (Closing ending p)) x z a e
    ran = runs_run queue queue later s t (Closing ending p) x y z a b e began_run runs None

    closed : Executes {R = After} (advance (now_at (others_of later None) (Closing ending p))) (next_in later ending counts) z w e f
    closed = closes_to later None ending ending counts p z w e f refl c o k

    pub all_ran : (end : Ending) → GoesOn (next_in later ending counts) (Stop end) w v f g → Completes advance (now_at alone s) end x v a g
    all_ran end l =
        at_first (λ c. Completes advance c end x v a g)
        (first_then (now_at (others_of queue None) s) (now_at (others_of later None) (Closing ending p)) (next_in later ending counts) end x z w v a e f g ran closed l)

    pub others_want : Keeping x [] → Keeping w [] → GivesUp (next_in later ending counts) w v f g → GaveUp (now_at alone s) x v a g
    others_want start now l =
        at_first (λ c. GaveUp c x v a g)
        (first_then_wants (now_at (others_of queue None) s) (now_at (others_of later None) (Closing ending p)) (next_in later ending counts) x z w v a e f g ran closed start now l)
