-- Copies of a process that are made for blocks.
use Rattle.std.proofs.Common.{◌≡◌, ◌≤◌, ◌<◌, ◌+◌, ℕ, true, false, List, [], ◌∷◌, ◌++◌, ◌∙◌, map, refl, sym, ap, subst, arith}
use Rattle.std.specs.Prelude.{nat_le, if◌then◌else◌}
use Rattle.std.proofs.lemmas.Bool.Decides.{nat_tests}
use Rattle.pm_recipe.specs.Tree.{Trees}
use Rattle.pm_journal.specs.JournalState.{JournalState}
use Rattle.pm_journal.specs.Entries.{View}
use Rattle.pm_journal.specs.Plan.{Ends}
use Rattle.pm_journal.specs.Executed.{Executes, OutOfMemory}
use Rattle.pm_journal.specs.Walking.{Next, Go, Reaches}
use Rattle.pm_journal.proofs.WalkJoin.{reaches_once}
use Rattle.pm_journal.proofs.WantsMemory.{executes_nothing, out_anywhere}
use Rattle.pm_meaning.specs.Chains.{succeeded}
use Rattle.pm_meaning.specs.Minds.{Mind}
use Rattle.pm_meaning.specs.Courses.{Others, Course, now_at, with_copy, advance}
use Rattle.pm_meaning.specs.Running.{State, Item, Event, Running, Cloning, Refusing, clone_of, step}
use Rattle.pm_meaning.specs.declared.ending.Ending.{Ending}
use Rattle.pm_run.specs.Copies.{task_of, others_of}
use Rattle.pm_run.specs.declared.task.Copy.{Copy}
use Rattle.pm_run.specs.declared.queue.Queue.{Queue}
use Rattle.pm_run.specs.RunningOut.{MayRunOut}
use Rattle.pm_run.proofs.RunOutLemmas.{ran_out_at_once}
use Rattle.pm_run.proofs.RunLemmas.{RunsOn, Breaks, lifted_out, runs_walk, runs_out}

abbrev Course_on : Type 0
Course_on = Next Course Ending

-- so many copies were made that none is made any more, or fewer
pub is_many : (n : ℕ) → 16 ≤ n → nat_le 16 n ≡ true
is_many n h = grind (arith, nat_tests)

pub is_few : (n : ℕ) → n < 16 → nat_le 16 n ≡ false
is_few n h = grind (arith, nat_tests)

map_last : (copies : List Copy) (copy : Copy) → map task_of (copies ++ copy ∷ []) ≡ map task_of copies ++ task_of copy ∷ []
map_last [] copy = refl
map_last (c ∷ copies) copy = ap (λ l. task_of c ∷ l) (map_last copies copy)

module _ (trees : Trees) (items : List Item) (p : Mind) (x : JournalState) (a : View) where
  refused : (o : Others) → nat_le 16 o.made ≡ true → Reaches {X = Ending} advance (now_at o (Cloning trees items p)) (now_at o (Refusing items p)) x x a a
  refused o e =
      let no : Course_on = Go (now_at o (Refusing items p)) in
      let yes : Course_on = Go (now_at (with_copy (clone_of trees items p) o) (Running items (succeeded p))) in
      reaches_once advance (now_at o (Cloning trees items p)) (now_at o (Refusing items p)) x x a a
      (subst (λ b. Executes (Ends (if b then no else yes)) no x x a a) (sym e) (executes_nothing no x x a refl))

  made : (o : Others) → nat_le 16 o.made ≡ false → Reaches {X = Ending} advance (now_at o (Cloning trees items p)) (now_at (with_copy (clone_of trees items p) o) (Running items (succeeded p))) x x a a
  made o e =
      let no : Course_on = Go (now_at o (Refusing items p)) in
      let yes : Course_on = Go (now_at (with_copy (clone_of trees items p) o) (Running items (succeeded p))) in
      reaches_once advance (now_at o (Cloning trees items p)) (now_at (with_copy (clone_of trees items p) o) (Running items (succeeded p))) x x a a
      (subst (λ b. Executes (Ends (if b then no else yes)) yes x x a a) (sym e) (executes_nothing yes x x a refl))

  -- the run has made 16 copies, which is told
  pub clone_refused : (queue : Queue) (y : JournalState) (b : View) → 16 ≤ queue.made → Executes (step (Refusing items p)) (Go (Running items p)) x y a b → RunsOn queue queue (Cloning trees items p) (Running items p) x y a b
  clone_refused queue y b many h =
      runs_walk queue queue (Cloning trees items p) (Refusing items p) (Running items p) x x y a a b (λ first. refused (others_of queue first) (is_many queue.made many))
      (reaches_once step (Refusing items p) (Running items p) x y a b h)

  pub refusing_wants : (queue : Queue) (y : JournalState) (b : View) → 16 ≤ queue.made → OutOfMemory {R = Next State Event} (step (Refusing items p)) x y a b → Breaks queue (Cloning trees items p) x y a b
  refusing_wants queue y b many h =
      runs_out queue queue (Cloning trees items p) (Refusing items p) x x y a a b (λ first. refused (others_of queue first) (is_many queue.made many))
      (ran_out_at_once step MayRunOut (Refusing items p) x y a b h (λ more e. tt))

  -- memory was wanting for the copy
  pub clone_wants : (queue : Queue) → Breaks queue (Cloning trees items p) x x a a
  clone_wants queue =
      lifted_out queue (Cloning trees items p) x x a a
      (ran_out_at_once step MayRunOut (Cloning trees items p) x x a a (out_anywhere (step (Cloning trees items p)) x x a refl) (λ more e. tt))

  -- the copy waits after the others
  pub clone_made : (queue later : Queue) (copy : Copy) (q : Mind) → queue.made < 16 → later.made ≡ queue.made + 1 → later.copies.items ≡ queue.copies.items ++ copy ∷ [] → task_of copy ≡ clone_of trees items p → q ≡ succeeded p
      → RunsOn queue later (Cloning trees items p) (Running items q) x x a a
  clone_made queue later copy q few count copies task mind = λ first.
      let o = others_of queue first in
      let tasks : map task_of later.copies.items ≡ map task_of queue.copies.items ++ clone_of trees items p ∷ [] =
      ap (map task_of) copies ∙ map_last queue.copies.items copy ∙ ap (λ t. map task_of queue.copies.items ++ t ∷ []) task in
      let same : others_of later first ≡ with_copy (clone_of trees items p) o =
      ap (λ l. record { queue = l; made = later.made; first = first }) tasks ∙ ap (λ n. record { queue = map task_of queue.copies.items ++ clone_of trees items p ∷ []; made = n; first = first }) count in
      subst (λ m. Reaches {X = Ending} advance (now_at o (Cloning trees items p)) (now_at (others_of later first) (Running items m)) x x a a) (sym mind)
      (subst (λ l. Reaches {X = Ending} advance (now_at o (Cloning trees items p)) (now_at l (Running items (succeeded p))) x x a a) (sym same) (made o (is_few queue.made few)))
