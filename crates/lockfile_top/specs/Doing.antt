-- What the program asks of the outside: its tasks, one after the other.
use Rattle.std.specs.Prelude.{ℕ, not, ◌++◌, List, [], ◌∷◌, reverse, filter, Option, Some, None, nat_eq, bytes_eq, if◌then◌else◌}
use Rattle.pm_journal.specs.Locking.{lock_act}
use Rattle.pm_journal.specs.Plan.{Plan, Ends, and_then, ask}
use Rattle.pm_journal.specs.declared.acts.Act.TheVariants.{Unlock, SayErr}
use Rattle.pm_journal.specs.declared.acts.Reply.{Reply}
use Rattle.pm_journal.specs.declared.acts.Reply.TheVariants.{Held, Removed}
use Rattle.lockfile_top.specs.Lines.{forcing_line, sorry_line}
use Rattle.lockfile_top.specs.declared.tasks.Task.{Task}
use Rattle.lockfile_top.specs.declared.tasks.Task.TheVariants.{Take, Give}
use Rattle.lockfile_top.specs.declared.tasks.Ending.{Ending}
use Rattle.lockfile_top.specs.declared.tasks.Ending.TheVariants.{AllDone, GaveUp}

-- the names without this one
abbrev pub without_name : List ℕ → List (List ℕ) → List (List ℕ)
without_name name names = filter (λ other. not (bytes_eq other name)) names

-- the names with this one as the last that was made
abbrev pub with_name : List ℕ → List (List ℕ) → List (List ℕ)
with_name name names = without_name name names ++ name ∷ []

-- a line is said on `err`, and then this comes
abbrev pub say_then : {R : Type 0} → List ℕ → R → Plan R
say_then text next = and_then (ask (SayErr text)) (λ reply. Ends next)

-- after a lock was asked for: its file is one more that was made, and where one was removed by force, this is said
abbrev pub after_take : List ℕ → List (List ℕ) → Reply → Plan (Option (List (List ℕ)))
after_take name made (Held sleeps forced) =
    if nat_eq forced 0 then Ends (Some (with_name name made))
    else say_then (forcing_line name) (Some (with_name name made))
after_take name made other = Ends None

-- after a lock was given back: its file is none that was made any more
abbrev pub after_give : List ℕ → List (List ℕ) → Reply → Option (List (List ℕ))
after_give name made Removed = Some (without_name name made)
after_give name made other = None

-- One task, where these lock files were made so far, in this order. Its end is those that were made by then; None where
-- it isn't done.
abbrev pub one_task : Task → List (List ℕ) → Plan (Option (List (List ℕ)))
one_task (Take name rule) made = and_then (ask (lock_act name rule)) (after_take name made)
one_task (Give name) made = and_then (ask (Unlock name)) (λ reply. Ends (after_give name made reply))

-- the name that a task is about
abbrev pub name_of : Task → List ℕ
name_of (Take name rule) = name
name_of (Give name) = name

-- each of these lock files is removed in order, whatever comes of it, and then this comes
abbrev pub remove_each : {R : Type 0} → List (List ℕ) → Plan R → Plan R
remove_each [] next = next
remove_each (name ∷ names) next = and_then (ask (Unlock name)) (λ reply. remove_each names next)

-- a task isn't done: the lock files that were made are removed, the last one first, and the name is told
abbrev pub give_up : List ℕ → List (List ℕ) → Plan Ending
give_up name made = remove_each (reverse made) (say_then (sorry_line name) GaveUp)

-- the tasks in order, up to one that isn't done
abbrev pub do_tasks : List Task → List (List ℕ) → Plan Ending
do_tasks [] made = Ends AllDone
do_tasks (task ∷ tasks) made = and_then (one_task task made) (λ now. elim now [
  | Some names ↦ do_tasks tasks names
  | None ↦ give_up (name_of task) made
])
