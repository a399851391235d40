-- Lines that are logged, in plans.
use Rattle.std.proofs.Common.{◌≡◌, true, false, List, ℕ, [], Option, Some, None, refl, sym, ap, ◌∙◌, subst}
use Rattle.std.specs.Prelude.{Bool, not, ◌&&◌, codes, if◌then◌else◌}
use Rattle.pm_bytes.specs.Path.{full_name}
use Rattle.pm_journal.specs.JournalState.{JournalState}
use Rattle.pm_journal.specs.Entries.{View}
use Rattle.pm_journal.specs.declared.acts.Act.TheVariants.{SayFile}
use Rattle.pm_journal.specs.Plan.{Ends, and_then, ask}
use Rattle.pm_journal.specs.Executed.{Executes, OutOfMemory}
use Rattle.pm_journal.proofs.ActPlans.{executes_then}
use Rattle.pm_journal.proofs.WantsMemory.{executes_nothing, out_front}
use Rattle.pm_journal.specs.Sayings.{say_act}
use Rattle.pm_journal.specs.Acts.{SaysTo}
use Rattle.pm_journal.specs.Held.{holds_name}
use Rattle.pm_meaning.specs.Locks.{is_nothing, value_or}
use Rattle.pm_meaning.specs.Texts.{is_file_text}
use Rattle.pm_meaning.specs.Logging.{log_to, log_file, log, logged}
use Rattle.pm_meaning.specs.Minds.{Mind}
use Rattle.pm_meaning.specs.Telling.{is_nowhere, log_name, free_name}
use Rattle.pm_meaning.proofs.Choices.{choose_then}

-- `/dev/null` takes the line
nowhere : (to : Option (List ℕ)) (text : List ℕ) (x : JournalState) (s : View) → is_nowhere to ≡ true → Executes (log_to to text) logged x x s s
nowhere None text x s e = let f : false ≡ true = e in absurd (cc)
nowhere (Some name) text x s e =
    choose_then (is_nothing name) (Ends logged) (and_then (ask (SayFile name text)) (λ reply. Ends logged)) logged x x s s e (executes_nothing logged x x s refl)

pub tells_nothing : (to : Option (List ℕ)) (text : List ℕ) (p : Mind) (x : JournalState) (s : View) → to ≡ log_file p → is_nowhere to ≡ true → Executes (log text p) logged x x s s
tells_nothing to text p x s is e = subst (λ l. Executes (log_to l text) logged x x s s) is (nowhere to text x s e)

-- the line is said
somewhere : (to : Option (List ℕ)) (text : List ℕ) → is_nowhere to ≡ false → and_then (ask (say_act to text)) (λ reply. Ends logged) ≡ log_to to text
somewhere None text e = refl
somewhere (Some name) text e = ap (λ b. if b then Ends logged else and_then (ask (SayFile name text)) (λ reply. Ends logged)) (sym e)

said_as : (to : Option (List ℕ)) (text : List ℕ) (p : Mind) → to ≡ log_file p → is_nowhere to ≡ false → and_then (ask (say_act to text)) (λ reply. Ends logged) ≡ log text p
said_as to text p is e = somewhere to text e ∙ ap (λ l. log_to l text) is

pub tells_line : (to : Option (List ℕ)) (text : List ℕ) (p : Mind) (x y : JournalState) (a b : View) → to ≡ log_file p → is_nowhere to ≡ false → SaysTo to text x y a b → Executes (log text p) logged x y a b
tells_line to text p x y a b is e h =
    subst (λ plan. Executes plan logged x y a b) (said_as to text p is e)
    (executes_then (ask (say_act to text)) (λ reply. Ends logged) h.reply logged x y y a b b h.executes (executes_nothing logged y y b refl))

pub tells_none : (to : Option (List ℕ)) (text : List ℕ) (p : Mind) (x y : JournalState) (a b : View) → to ≡ log_file p → is_nowhere to ≡ false → OutOfMemory (ask (say_act to text)) x y a b → OutOfMemory (log text p) x y a b
tells_none to text p x y a b is e h =
    subst (λ plan. OutOfMemory plan x y a b) (said_as to text p is e) (out_front (ask (say_act to text)) (λ reply. Ends logged) x y a b h)

-- the file by its name, where that is free
free_by : (usable : Bool) (locks : List (List ℕ)) (file : List ℕ) → free_name (if usable then Some file else None) locks ≡ (if usable && not (holds_name locks file) then Some file else None)
free_by true locks file = refl
free_by false locks file = refl

pub named_file : (name to : Option (List ℕ)) (p : Mind) → name ≡ log_name (value_or [] (codes "LOGFILE") p.vars) p.base → to ≡ free_name name p.locks → to ≡ log_file p
named_file name to p named free =
    let value = value_or [] (codes "LOGFILE") p.vars in
    free ∙ (ap (λ n. free_name n p.locks) named ∙ free_by (is_file_text value) p.locks (full_name p.base value))
