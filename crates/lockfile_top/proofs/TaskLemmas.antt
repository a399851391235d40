-- Tasks in plans.
use Rattle.std.proofs.Common.{◌≡◌, Bool, true, false, Option, Some, None, List, ℕ, [], ◌∷◌, ◌++◌, reverse, refl, sym, ap, ◌∙◌, subst}
use Rattle.std.specs.Prelude.{nat_eq, if◌then◌else◌}
use Rattle.std.proofs.lemmas.List.{reverse-append}
use Rattle.pm_journal.specs.JournalState.{JournalState}
use Rattle.pm_journal.specs.Entries.{View}
use Rattle.pm_journal.specs.Noted.{NotesAct}
use Rattle.pm_journal.specs.Plan.{Plan, Ends, and_then, ask}
use Rattle.pm_journal.specs.Executed.{Executes, LeadsTo}
use Rattle.pm_journal.specs.Locking.{lock_act, lock_reply}
use Rattle.pm_journal.specs.declared.acts.Act.TheVariants.{Unlock, SayErr}
use Rattle.pm_journal.specs.declared.acts.Reply.{Reply}
use Rattle.pm_journal.specs.declared.locking.LockRule.{LockRule}
use Rattle.pm_journal.specs.declared.locking.LockEnd.{LockEnd}
use Rattle.pm_journal.specs.declared.locking.LockEnd.TheVariants.{Held}
use Rattle.pm_journal.proofs.ActPlans.{act_executes}
use Rattle.pm_journal.proofs.FirstActs.{first_act}
use Rattle.pm_journal.proofs.PlanLeads.{leads_on, leads_to_end}
use Rattle.pm_journal.proofs.WantsMemory.{executes_nothing}
use Rattle.pm_journal.specs.Sayings.{NotesSaid}
use Rattle.lockfile_top.specs.Lines.{forcing_line, sorry_line}
use Rattle.lockfile_top.specs.Doing.{name_of, with_name, say_then, after_take, one_task, remove_each, give_up, do_tasks}
use Rattle.lockfile_top.specs.Jobs.{tasks_of, made_by}
use Rattle.lockfile_top.specs.declared.tasks.Task.{Task}
use Rattle.lockfile_top.specs.declared.tasks.Ending.{Ending}
use Rattle.lockfile_top.specs.declared.tasks.Ending.TheVariants.{AllDone, GaveUp}
use Rattle.lockfile_top.specs.declared.jobs.Job.{Job}

-- a line was said, and then this came
pub said : {R : Type 0} (text : List ℕ) (end : R) (x y : JournalState) (a b : View) → NotesSaid None text x y a b → Executes (say_then text end) end x y a b
said text end x y a b h = first_act (SayErr text) (λ reply. Ends end) h.reply end x x y y a b b refl h.notes (executes_nothing end y y b refl)

pub not_said : {R : Type 0} (quiet : Bool) (text : List ℕ) (end : R) (x : JournalState) (a : View) → quiet ≡ true → Executes (if quiet then Ends end else say_then text end) end x x a a
not_said quiet text end x a e = subst (λ q. Executes (if q then Ends end else say_then text end) end x x a a) (sym e) (executes_nothing end x x a refl)

-- an act, and then what comes by its reply
pub lock_asked : (name : List ℕ) (rule : LockRule) (made : List (List ℕ)) (end : LockEnd) (last : Option (List (List ℕ))) (x y z : JournalState) (a b c : View) → NotesAct (lock_act name rule) (lock_reply end) x y a b
    → Executes (after_take name made (lock_reply end)) last y z b c → Executes (and_then (ask (lock_act name rule)) (after_take name made)) last x z a c
lock_asked name rule made end last x y z a b c n k = first_act (lock_act name rule) (after_take name made) (lock_reply end) last x x y z a b c refl n k

-- a lock was got, and its line was said where it was forced
pub lock_taken : (name : List ℕ) (rule : LockRule) (sleeps forced : ℕ) (made made' : List (List ℕ)) (again text : List ℕ) (x y z : JournalState) (a b c : View) → NotesAct (lock_act name rule) (lock_reply (Held sleeps forced)) x y a b
    → again ≡ name → text ≡ forcing_line name → made' ≡ with_name again made
    → ((names : Option (List (List ℕ))) → Executes (if nat_eq forced 0 then Ends names else say_then text names) names y z b c)
    → Executes (and_then (ask (lock_act name rule)) (after_take name made)) (Some made') x z a c
lock_taken name rule sleeps forced made made' again text x y z a b c n g t m says =
    let now : made' ≡ with_name name made = m ∙ ap (λ l. with_name l made) g in
    lock_asked name rule made (Held sleeps forced) (Some made') x y z a b c n
    (subst (λ l. Executes (if nat_eq forced 0 then Ends (Some l) else say_then (forcing_line name) (Some l)) (Some made') y z b c) now
    (subst (λ l. Executes (if nat_eq forced 0 then Ends (Some made') else say_then l (Some made')) (Some made') y z b c) t (says (Some made'))))

-- one lock file more was removed
pub one_removed : {R : Type 0} (whole next : Plan R) (names rest : List (List ℕ)) (name : List ℕ) (reply : Reply) (x y z : JournalState) (a b c : View) → LeadsTo whole (remove_each (reverse names) next) x y a b
    → names ≡ rest ++ name ∷ [] → NotesAct (Unlock name) reply y z b c → LeadsTo whole (remove_each (reverse rest) next) x z a c
one_removed whole next names rest name reply x y z a b c h e n =
    let turned : reverse names ≡ name ∷ reverse rest = ap reverse e ∙ reverse-append rest (name ∷ []) in
    leads_on whole (ask (Unlock name)) (λ r. remove_each (reverse rest) next) reply x y z a b c
    (subst (λ l. LeadsTo whole (remove_each l next) x y a b) turned h) (act_executes (Unlock name) reply y z b c n)

-- all were removed, and the line was said
pub all_removed : (whole : Plan Ending) (text : List ℕ) (names : List (List ℕ)) (x y z : JournalState) (a b c : View) → LeadsTo whole (remove_each (reverse names) (say_then text GaveUp)) x y a b → names ≡ []
    → NotesSaid None text y z b c → Executes whole GaveUp x z a c
all_removed whole text names x y z a b c h e n =
    leads_to_end whole (say_then text GaveUp) GaveUp x y z a b c (subst (λ l. LeadsTo whole (remove_each (reverse l) (say_then text GaveUp)) x y a b) e h) (said text GaveUp y z b c n)

-- what comes after a task
abbrev pub behind : Task → List Task → List (List ℕ) → Option (List (List ℕ)) → Plan Ending
behind task tasks made = λ now. elim now [ Some names ↦ do_tasks tasks names | None ↦ give_up (name_of task) made ]

tried : (whole : Plan Ending) (jobs rest : List Job) (job : Job) (made : List (List ℕ)) (now : Option (List (List ℕ))) (x y z : JournalState) (a b c : View) → LeadsTo whole (do_tasks (tasks_of jobs) made) x y a b
    → jobs ≡ job ∷ rest → Executes (one_task job.task made) now y z b c → LeadsTo whole (behind job.task (tasks_of rest) made now) x z a c
tried whole jobs rest job made now x y z a b c h e k =
    leads_on whole (one_task job.task made) (behind job.task (tasks_of rest) made) now x y z a b c (subst (λ l. LeadsTo whole (do_tasks (tasks_of l) made) x y a b) e h) k

-- a task was done, and the next comes
pub task_on : (whole : Plan Ending) (jobs rest : List Job) (job : Job) (made made' : List (List ℕ)) (done : Bool) (x y z : JournalState) (a b c : View) → LeadsTo whole (do_tasks (tasks_of jobs) made) x y a b
    → jobs ≡ job ∷ rest → Executes (one_task job.task made) (made_by done made') y z b c → done ≡ true → LeadsTo whole (do_tasks (tasks_of rest) made') x z a c
task_on whole jobs rest job made made' done x y z a b c h e k d =
    tried whole jobs rest job made (Some made') x y z a b c h e (subst (λ t. Executes (one_task job.task made) (made_by t made') y z b c) d k)

-- a task wasn't done, and what was made was removed
pub task_stops : (whole : Plan Ending) (jobs rest : List Job) (job : Job) (made made' : List (List ℕ)) (done : Bool) (text : List ℕ) (x y z w : JournalState) (a b c d : View) → LeadsTo whole (do_tasks (tasks_of jobs) made) x y a b
    → jobs ≡ job ∷ rest → Executes (one_task job.task made) (made_by done made') y z b c → done ≡ false → made' ≡ made → text ≡ sorry_line (name_of job.task)
    → Executes (remove_each (reverse made') (say_then text GaveUp)) GaveUp z w c d → Executes whole GaveUp x w a d
task_stops whole jobs rest job made made' done text x y z w a b c d h e k n m t g =
    leads_to_end whole (give_up (name_of job.task) made) GaveUp x z w a c d
    (tried whole jobs rest job made None x y z a b c h e (subst (λ q. Executes (one_task job.task made) (made_by q made') y z b c) n k))
    (subst (λ l. Executes (remove_each (reverse l) (say_then (sorry_line (name_of job.task)) GaveUp)) GaveUp z w c d) m
    (subst (λ l. Executes (remove_each (reverse made') (say_then l GaveUp)) GaveUp z w c d) t g))

-- all tasks were done
pub tasks_over : (whole : Plan Ending) (jobs : List Job) (made : List (List ℕ)) (x y : JournalState) (a b : View) → LeadsTo whole (do_tasks (tasks_of jobs) made) x y a b → jobs ≡ [] → Executes whole AllDone x y a b
tasks_over whole jobs made x y a b h e =
    leads_to_end whole (Ends AllDone) AllDone x y y a b b (subst (λ l. LeadsTo whole (do_tasks (tasks_of l) made) x y a b) e h) (executes_nothing AllDone y y b refl)
