-- Wherever a process or a run comes to, the process holds the locks of its open blocks and LOCKFILE's, and no other.
use Rattle.std.proofs.Common.{◌≡◌, ℕ, zero, suc, Bool, true, false, List, [], ◌∷◌, ◌++◌, Option, Some, None, refl, sym, subst}
use Rattle.std.specs.Prelude.{if◌then◌else◌, nat_le}
use Rattle.pm_recipe.specs.Tree.{Trees}
use Rattle.pm_journal.specs.Entries.{View}
use Rattle.pm_journal.specs.JournalState.{JournalState}
use Rattle.pm_journal.specs.Plan.{Plan, Ends}
use Rattle.pm_journal.specs.Walking.{Next, Stop, Go, reach, ArrivesAt, Reaches}
use Rattle.pm_journal.specs.declared.acts.Entry.{Entry}
use Rattle.pm_journal.proofs.WalkJoin.{on_to}
use Rattle.pm_meaning.specs.Chains.{succeeded}
use Rattle.pm_meaning.specs.Courses.{Course, Others, now_at, first_end, next_process, with_copy, onward, advance, run_of}
use Rattle.pm_meaning.specs.Minds.{Mind}
use Rattle.pm_meaning.specs.Running.{State, Running, Refusing, Over, Item, Do, BlockEnd, FileEnd, Task, Event, Ended, WantsClone, unlocked, inside, locks_of, clone_of, step}
use Rattle.pm_meaning.specs.declared.ending.Ending.{Ending}
use Rattle.pm_run.specs.HeldLocks.{names_of, HeldAre, BeginsRight, AllRight, RunsRight, HoldsOnly, ComesRight, RunStaysRight, OverHoldsGlobal}
use Rattle.pm_run.proofs.Always.{Always, always_then, always_plays}
use Rattle.pm_run.proofs.NamesOnce.{none_held, only_global}
use Rattle.pm_run.proofs.RightSteps.{steps_right}

-- this holds of the next state, where there is one
abbrev pub OnGo : {S X : Type 0} → (S → Type 0) → Next S X → Type 0
OnGo P (Stop x) = Unit {0}
OnGo P (Go t) = P t

-- this holds of a state, where there is one
abbrev pub OnSome : {S : Type 0} → (S → Type 0) → Option S → Type 0
OnSome P None = Unit {0}
OnSome P (Some t) = P t

-- what each step keeps holds after some steps
kept_on : {S X : Type 0} (step : S → Plan (Next S X)) (P : S → Type 0) → ((s : S) → P s → Always (OnGo P) (step s)) → (n : ℕ) (s : S) → P s → Always (OnSome P) (reach {X = X} step n s)
kept_on step P keeps zero s h = h
kept_on {S} {X} step P keeps (suc n) s h =
    always_then (OnGo P) (OnSome P) (step s) (on_to {X = X} step n) (keeps s h)
    (λ next. elim next as (λ (m : Next S X). OnGo P m → Always (OnSome P) (on_to {X = X} step n m)) [ Stop x ↦ λ k. tt | Go t ↦ λ k. kept_on {X = X} step P keeps n t k ])

pub arrives_with : {S X : Type 0} (step : S → Plan (Next S X)) (P : S → Type 0) → ((s : S) → P s → Always (OnGo P) (step s)) → (s t : S) (es : List Entry) → P s → ArrivesAt {X = X} step s es t → P t
arrives_with {S} {X} step P keeps s t es h k = always_plays (OnSome P) (reach {X = X} step k.steps s) es (Some t) (kept_on {X = X} step P keeps k.steps s h) k.plays

-- a copy takes no lock of its blocks
none_unlocked : (items : List Item) → names_of (locks_of (unlocked items)) ≡ []
none_unlocked [] = refl
none_unlocked (Do tree ∷ items) = none_unlocked items
none_unlocked (BlockEnd saved lock ∷ items) = none_unlocked items
none_unlocked (FileEnd name ∷ items) = none_unlocked items

begins_right : (trees : Trees) (rest : List Item) (p : Mind) → BeginsRight (clone_of trees rest p)
begins_right trees rest p = subst (λ l. HeldAre l [] None) (sym (none_unlocked (inside trees p.chain None rest))) none_held

one_more : (tasks : List Task) (task : Task) → AllRight tasks → BeginsRight task → AllRight (tasks ++ task ∷ [])
one_more [] task h k = (k, tt)
one_more (first ∷ tasks) task h k = (h.0, one_more tasks task h.1 k)

right_next : (tasks : List Task) (made : ℕ) (first : Ending) (placed openings : ℕ) → AllRight tasks → OnGo RunsRight (next_process tasks made first placed openings)
right_next [] made first placed openings h = tt
right_next (task ∷ tasks) made first placed openings h = h

right_made : (b : Bool) (trees : Trees) (items : List Item) (p : Mind) (o : Others) → AllRight o.queue → HoldsOnly (locks_of items) p
    → OnGo {X = Ending} RunsRight (if b then Go (now_at o (Refusing items p)) else Go (now_at (with_copy (clone_of trees items p) o) (Running items (succeeded p))))
right_made true trees items p o q h = (h, q)
right_made false trees items p o q h = (h, one_more o.queue (clone_of trees items p) q (begins_right trees items p))

right_onward : (o : Others) (next : Next State Event) → AllRight o.queue → ComesRight next → OnGo RunsRight (onward o next)
right_onward o (Go s) q h = (h, q)
right_onward o (Stop (Ended ending p)) q h = right_next o.queue o.made (first_end o.first ending) p.placed p.openings q
right_onward o (Stop (WantsClone trees items p)) q h = right_made (nat_le 16 o.made) trees items p o q h

-- a step of a run
pub run_steps : (c : Course) → RunsRight c → Always (OnGo RunsRight) (advance c)
run_steps c h = always_then ComesRight (OnGo RunsRight) (step c.at) (λ next. Ends (onward c.others next)) (steps_right c.at h.0) (λ next k. right_onward c.others next h.1 k)

-- a run that went on for some steps
pub run_arrives : (c d : Course) (es : List Entry) → RunsRight c → ArrivesAt {X = Ending} advance c es d → RunsRight d
run_arrives c d es h k = arrives_with {X = Ending} advance RunsRight run_steps c d es h k

pub run_reaches : (c d : Course) (x y : JournalState) (a b : View) → RunsRight c → Reaches {X = Ending} advance c d x y a b → RunsRight d
run_reaches c d x y a b h k = run_arrives c d k.more h k.arrives

-- so it is in each run
pub run_stays_right : RunStaysRight
run_stays_right line env bytes es c k = run_arrives (run_of line env bytes) c es (tt, tt) k

pub over_holds_global : OverHoldsGlobal
over_holds_global line env bytes es others end p k = only_global p.locks p.global (run_stays_right line env bytes es (now_at others (Over end p)) k).0
