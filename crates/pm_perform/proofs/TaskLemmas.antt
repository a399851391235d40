-- Actions that hand the mail to a program or to standard output, in plans.
use Rattle.std.proofs.Common.{◌≡◌, Bool, true, false, List, ℕ, Option, sym, ap, ◌∙◌, subst}
use Rattle.std.specs.Prelude.{if◌then◌else◌, ◌&&◌, ◌++◌}
use Rattle.pm_host.specs.declared.command.Command.{Command}
use Rattle.pm_journal.specs.JournalState.{JournalState}
use Rattle.pm_journal.specs.Entries.{View}
use Rattle.pm_journal.specs.LogText.{no_lock_line}
use Rattle.pm_journal.specs.Plan.{Plan, and_then}
use Rattle.pm_journal.specs.Executed.{Executes, OutOfMemory, LeadsTo}
use Rattle.pm_journal.proofs.ActPlans.{executes_then}
use Rattle.pm_journal.proofs.PlanLeads.{leads_itself, leads_on}
use Rattle.pm_journal.proofs.WantsMemory.{out_then, out_front}
use Rattle.pm_meaning.specs.Abstracts.{copy_lines}
use Rattle.pm_meaning.specs.Delivering.{say_each}
use Rattle.pm_meaning.specs.Logging.{log, logged}
use Rattle.pm_meaning.specs.Minds.{Mind}
use Rattle.pm_meaning.specs.ProgramActions.{Task, Tried, Trying, try_under, trial_lines, settled_by, trial_acted, after_trial, try_and_say, lacks_lock, told_first, do_line, is_delivery, is_fine_trial}
use Rattle.pm_meaning.specs.Turns.{ActEnd}
use Rattle.pm_meaning.specs.Apart.{acted_with}
use Rattle.pm_meaning.specs.declared.acted.Acted.{Acted}
use Rattle.pm_meaning.specs.declared.process.ProgramLine.{ProgramLine}
use Rattle.pm_meaning.specs.declared.process.Trial.{Trial}
use Rattle.pm_perform.specs.Errands.{trying_of}

if_yes : {R : Type 0} (b : Bool) (p q : R) → b ≡ true → p ≡ (if b then p else q)
if_yes b p q e = ap (λ v. if v then p else q) (sym e)

if_no : {R : Type 0} (b : Bool) (p q : R) → b ≡ false → q ≡ (if b then p else q)
if_no b p q e = ap (λ v. if v then p else q) (sym e)

-- the errand was tried, and what is told after it comes
pub trial_then : (t : Task) (lock : Option (List ℕ)) (work : Mind → Plan Tried) (p : Mind) (done : Trying) (came : ActEnd) (x y z : JournalState) (a b c : View) → Executes (try_under lock work p) done x y a b
    → Executes (after_trial t done) came y z b c → Executes (try_and_say t lock work p) came x z a c
trial_then t lock work p done came x y z a b c h k = executes_then (try_under lock work p) (after_trial t) done came x y z a b c h k

pub trial_then_out : (t : Task) (lock : Option (List ℕ)) (work : Mind → Plan Tried) (p : Mind) (done : Trying) (x y z : JournalState) (a b c : View) → Executes (try_under lock work p) done x y a b
    → OutOfMemory (after_trial t done) y z b c → OutOfMemory (try_and_say t lock work p) x z a c
trial_then_out t lock work p done x y z a b c h k = out_then (try_under lock work p) (after_trial t) done x y z a b c h k

pub trial_out : (t : Task) (lock : Option (List ℕ)) (work : Mind → Plan Tried) (p : Mind) (x y : JournalState) (a b : View) → OutOfMemory (try_under lock work p) x y a b → OutOfMemory (try_and_say t lock work p) x y a b
trial_out t lock work p x y a b h = out_front (try_under lock work p) (after_trial t) x y a b h

-- what is told after it, and what comes then
pub said_after_trial : (t : Task) (trial : Trial) (m q : Mind) (first lines : List (List ℕ)) (done : Bool) (acted : Acted) → lines ≡ first ++ copy_lines done t.flags q
    → first ≡ trial_lines t.flags t.text trial → done ≡ (is_delivery t.purpose && is_fine_trial trial) → q ≡ settled_by trial m → acted ≡ trial_acted t.purpose t.flags trial
    → say_each q lines (acted_with acted q) ≡ after_trial t (trying_of trial m)
said_after_trial t trial m q first lines done acted e g d is f =
    let said : List (List ℕ) = trial_lines t.flags t.text trial in
    let delivered : Bool = is_delivery t.purpose && is_fine_trial trial in
    let all : lines ≡ said ++ copy_lines delivered t.flags q = e ∙ (ap (λ l. l ++ copy_lines done t.flags q) g ∙ ap (λ b. said ++ copy_lines b t.flags q) d) in
    ap (λ l. say_each q l (acted_with acted q)) all
    ∙ (ap (λ b. say_each q (said ++ copy_lines delivered t.flags q) (acted_with b q)) f
    ∙ ap (λ r. say_each r (said ++ copy_lines delivered t.flags r) (acted_with (trial_acted t.purpose t.flags trial) r)) is)

-- that there is no automatic lock file was told, or needn't be
pub was_told : (t : Task) (p : Mind) (next : Plan ActEnd) (line : List ℕ) (x y : JournalState) (a b : View) → lacks_lock t ≡ true → line ≡ no_lock_line t.text → Executes (log line p) logged x y a b → LeadsTo (told_first t p next) next x y a b
was_told t p next line x y a b lacks is h =
    let whole : Plan ActEnd = and_then (log (no_lock_line t.text) p) (λ done. next) in
    subst (λ w. LeadsTo w next x y a b) (if_yes (lacks_lock t) whole next lacks)
    (leads_on whole (log (no_lock_line t.text) p) (λ done. next) logged x x y a a b (leads_itself whole x a) (subst (λ l. Executes (log l p) logged x y a b) is h))

pub wasnt_told : (t : Task) (p : Mind) (next : Plan ActEnd) (line : List ℕ) (x y : JournalState) (a b : View) → lacks_lock t ≡ true → line ≡ no_lock_line t.text → OutOfMemory (log line p) x y a b
    → OutOfMemory (told_first t p next) x y a b
wasnt_told t p next line x y a b lacks is h =
    let whole : Plan ActEnd = and_then (log (no_lock_line t.text) p) (λ done. next) in
    subst (λ w. OutOfMemory w x y a b) (if_yes (lacks_lock t) whole next lacks)
    (out_front (log (no_lock_line t.text) p) (λ done. next) x y a b (subst (λ l. OutOfMemory (log l p) x y a b) is h))

pub needs_no_line : (t : Task) (p : Mind) (next : Plan ActEnd) (x : JournalState) (a : View) → lacks_lock t ≡ false → LeadsTo (told_first t p next) next x x a a
needs_no_line t p next x a has =
    subst (λ w. LeadsTo w next x x a a) (if_no (lacks_lock t) (and_then (log (no_lock_line t.text) p) (λ done. next)) next has) (leads_itself next x a)

-- the line was read so
pub read_so : (t : Task) (word : Option (List ℕ)) (work : Command → Mind → Plan Tried) (line shown : ProgramLine) (p : Mind) → shown ≡ line → do_line t word work line p ≡ do_line t word work shown p
read_so t word work line shown p same = ap (λ l. do_line t word work l p) (sym same)
