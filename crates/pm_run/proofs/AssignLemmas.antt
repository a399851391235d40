-- Assignments in plans.
use Rattle.std.proofs.Common.{◌≡◌, ◌≢◌, Bool, true, false, List, ℕ, Some, None, refl, ap, ◌∙◌, subst}
use Rattle.std.specs.Prelude.{if◌then◌else◌, bytes_eq, codes}
use Rattle.pm_bytes.specs.Path.{full_name}
use Rattle.pm_host.specs.declared.answers.Looked.{Looked}
use Rattle.pm_host.specs.declared.answers.Looked.TheVariants.{File as LookedFile, Folder, Nothing, Failed as LookFailed}
use Rattle.pm_journal.specs.JournalState.{JournalState}
use Rattle.pm_journal.specs.Entries.{View}
use Rattle.pm_journal.specs.LogText.{couldnt_chdir_line, unusable_name_line, host_mismatched_line}
use Rattle.pm_journal.specs.declared.acts.Act.TheVariants.{Probe}
use Rattle.pm_journal.specs.declared.acts.Reply.TheVariants.{Found}
use Rattle.pm_subst.specs.declared.kinds.Mode.TheVariants.{One}
use Rattle.pm_journal.specs.Plan.{Plan, Ends, and_then, ask}
use Rattle.pm_journal.specs.Executed.{Executes, OutOfMemory}
use Rattle.pm_meaning.specs.Changes.{with_variable, without_variable}
use Rattle.pm_meaning.specs.Outputs.{Outputs}
use Rattle.pm_meaning.specs.Turns.{Turn, GoesOn, Halts, EndsFile, say_then, refuse_name, is_too_long, skip_value}
use Rattle.pm_meaning.specs.Assigning.{value_in, probed, change_folder, include_rcfile, switch_rcfile, change_host, shift_arguments, change_rcfile, change_other, assigned, assign_with, unset}
use Rattle.pm_meaning.specs.GlobalLock.{drop_lock, change_lock}
use Rattle.pm_meaning.specs.Texts.{is_empty, is_file_text}
use Rattle.pm_meaning.specs.Logging.{log, logged}
use Rattle.pm_meaning.specs.Minds.{Mind}
use Rattle.pm_meaning.specs.declared.process.End.TheVariants.{HostOff}
use Rattle.pm_journal.proofs.ActPlans.{executes_then}
use Rattle.pm_journal.proofs.WantsMemory.{executes_nothing, out_then, out_anywhere}
use Rattle.pm_meaning.specs.UsableNames.{file_name_of}
use Rattle.pm_meaning.proofs.Choices.{if_yes, if_no}
use Rattle.pm_meaning.proofs.Choices.{choose_then, choose_else, then_out, else_out, line_told, line_out}

probed_other : (name : List ℕ) (p : Mind) (looked : Looked) → looked ≢ Folder → say_then p (couldnt_chdir_line name) (GoesOn p) ≡ probed name p (Found looked)
probed_other name p (LookedFile n) h = refl
probed_other name p Folder h = absurd (h refl)
probed_other name p Nothing h = refl
probed_other name p LookFailed h = refl

pub folder_missed : (name folder line : List ℕ) (p : Mind) (looked : Looked) (x y z : JournalState) (a b c : View) → looked ≢ Folder → folder ≡ name → line ≡ couldnt_chdir_line folder
    → Executes (ask (Probe name)) (Found looked) x y a b → Executes (log line p) logged y z b c → Executes (and_then (ask (Probe name)) (probed name p)) (GoesOn p) x z a c
folder_missed name folder line p looked x y z a b c other same is h k =
    executes_then (ask (Probe name)) (probed name p) (Found looked) (GoesOn p) x y z a b c h
    (subst (λ q. Executes q (GoesOn p) y z b c) (probed_other name p looked other) (line_told p (couldnt_chdir_line name) line (GoesOn p) y z b c (is ∙ ap couldnt_chdir_line same) k))

pub folder_untold : (name folder line : List ℕ) (p : Mind) (looked : Looked) (x y z : JournalState) (a b c : View) → looked ≢ Folder → folder ≡ name → line ≡ couldnt_chdir_line folder
    → Executes (ask (Probe name)) (Found looked) x y a b → OutOfMemory (log line p) y z b c → OutOfMemory (and_then (ask (Probe name)) (probed name p)) x z a c
folder_untold name folder line p looked x y z a b c other same is h k =
    out_then (ask (Probe name)) (probed name p) (Found looked) x y z a b c h
    (subst (λ q. OutOfMemory q y z b c) (probed_other name p looked other) (line_out p (couldnt_chdir_line name) line (GoesOn p) y z b c (is ∙ ap couldnt_chdir_line same) k))

pub probed_only : (name : List ℕ) (p : Mind) (looked : Looked) (x y : JournalState) (a b : View) → Executes (ask (Probe name)) (Found looked) x y a b → OutOfMemory (and_then (ask (Probe name)) (probed name p)) x y a b
probed_only name p looked x y a b h = out_then (ask (Probe name)) (probed name p) (Found looked) x y y a b b h (out_anywhere (probed name p (Found looked)) y y b refl)

-- a text is a name or isn't
named_by : (b : Bool) (text name : List ℕ) → Some name ≡ (if b then Some text else None) → (b ≡ true) × (name ≡ text)
named_by true text name e = let f : name ≡ text = cc in (refl, f)
named_by false text name e = absurd (cc)

pub usable_then : (text name : List ℕ) → Some name ≡ file_name_of text → (is_file_text text ≡ true) × (name ≡ text)
usable_then text name e = named_by (is_file_text text) text name e

unnamed_by : (b : Bool) (text : List ℕ) → None ≡ (if b then Some text else None) → b ≡ false
unnamed_by true text e = absurd (cc)
unnamed_by false text e = refl

pub unusable_then : (text : List ℕ) → None ≡ file_name_of text → is_file_text text ≡ false
unusable_then text e = unnamed_by (is_file_text text) text e

-- MAILDIR got a value that can be a name
pub changed : (value name full : List ℕ) (p : Mind) (turn : Turn) (x y : JournalState) (a b : View) → Some name ≡ file_name_of value → full ≡ full_name p.base name
    → Executes (and_then (ask (Probe full)) (probed full p)) turn x y a b → Executes (change_folder value p) turn x y a b
changed value name full p turn x y a b found is h =
    let u = usable_then value name found in
    choose_then (is_file_text value) (and_then (ask (Probe (full_name p.base value))) (probed (full_name p.base value) p)) (say_then p (unusable_name_line value) (GoesOn p)) turn x y a b u.0
    (subst (λ n. Executes (and_then (ask (Probe n)) (probed n p)) turn x y a b) (is ∙ ap (full_name p.base) u.1) h)

pub changed_out : (value name full : List ℕ) (p : Mind) (x y : JournalState) (a b : View) → Some name ≡ file_name_of value → full ≡ full_name p.base name
    → OutOfMemory (and_then (ask (Probe full)) (probed full p)) x y a b → OutOfMemory (change_folder value p) x y a b
changed_out value name full p x y a b found is h =
    let u = usable_then value name found in
    then_out (is_file_text value) (and_then (ask (Probe (full_name p.base value))) (probed (full_name p.base value) p)) (say_then p (unusable_name_line value) (GoesOn p)) x y a b u.0
    (subst (λ n. OutOfMemory (and_then (ask (Probe n)) (probed n p)) x y a b) (is ∙ ap (full_name p.base) u.1) h)

pub unusable_told : (value line : List ℕ) (p : Mind) (x y : JournalState) (a b : View) → None ≡ file_name_of value → line ≡ unusable_name_line value → Executes (log line p) logged x y a b
    → Executes (change_folder value p) (GoesOn p) x y a b
unusable_told value line p x y a b none is h =
    choose_else (is_file_text value) (and_then (ask (Probe (full_name p.base value))) (probed (full_name p.base value) p)) (say_then p (unusable_name_line value) (GoesOn p)) (GoesOn p) x y a b (unusable_then value none)
    (line_told p (unusable_name_line value) line (GoesOn p) x y a b is h)

pub unusable_out : (value line : List ℕ) (p : Mind) (x y : JournalState) (a b : View) → None ≡ file_name_of value → line ≡ unusable_name_line value → OutOfMemory (log line p) x y a b
    → OutOfMemory (change_folder value p) x y a b
unusable_out value line p x y a b none is h =
    else_out (is_file_text value) (and_then (ask (Probe (full_name p.base value))) (probed (full_name p.base value) p)) (say_then p (unusable_name_line value) (GoesOn p)) x y a b (unusable_then value none)
    (line_out p (unusable_name_line value) line (GoesOn p) x y a b is h)

-- a plan that is over ends so
pub ended : {R : Type 0} (r : R) (plan : Plan R) (x : JournalState) (s : View) → Ends r ≡ plan → Executes plan r x x s s
ended r plan x s e = subst (λ q. Executes q r x x s s) e (executes_nothing r x x s refl)

-- what an assignment does once its variable is set
abbrev lock_effect : List ℕ → List ℕ → Mind → Plan Turn
lock_effect name value q = if bytes_eq name (codes "LOCKFILE") then change_lock value q else change_other name value q

-- that of MAILDIR, that of LOCKFILE, and another
pub folder_changed : (name value copy : List ℕ) (p q : Mind) → bytes_eq name (codes "MAILDIR") ≡ true → copy ≡ value → q ≡ with_variable name value p → change_folder copy q ≡ assigned name value p
folder_changed name value copy p q folder same is =
    ap (λ v. change_folder v q) same ∙ (ap (change_folder value) is
    ∙ if_yes (bytes_eq name (codes "MAILDIR")) (change_folder value (with_variable name value p)) (lock_effect name value (with_variable name value p)) folder)

pub lock_changed : (name value copy : List ℕ) (p q : Mind) → bytes_eq name (codes "MAILDIR") ≡ false → bytes_eq name (codes "LOCKFILE") ≡ true → copy ≡ value
    → q ≡ with_variable name value p → change_lock copy q ≡ assigned name value p
lock_changed name value copy p q other lock same is =
    ap (λ v. change_lock v q) same ∙ (ap (change_lock value) is
    ∙ (if_yes (bytes_eq name (codes "LOCKFILE")) (change_lock value (with_variable name value p)) (change_other name value (with_variable name value p)) lock
    ∙ if_no (bytes_eq name (codes "MAILDIR")) (change_folder value (with_variable name value p)) (lock_effect name value (with_variable name value p)) other))

pub set_otherwise : (name value copy : List ℕ) (p q : Mind) → bytes_eq name (codes "MAILDIR") ≡ false → bytes_eq name (codes "LOCKFILE") ≡ false → copy ≡ value
    → q ≡ with_variable name value p → change_other name copy q ≡ assigned name value p
set_otherwise name value copy p q other plain same is =
    ap (λ v. change_other name v q) same ∙ (ap (change_other name value) is
    ∙ (if_no (bytes_eq name (codes "LOCKFILE")) (change_lock value (with_variable name value p)) (change_other name value (with_variable name value p)) plain
    ∙ if_no (bytes_eq name (codes "MAILDIR")) (change_folder value (with_variable name value p)) (lock_effect name value (with_variable name value p)) other))

-- LOG, SHIFT, and another
abbrev shift_effect : List ℕ → List ℕ → Mind → Plan Turn
shift_effect name value p = if bytes_eq name (codes "SHIFT") then Ends (GoesOn (shift_arguments value p)) else change_rcfile name value p

pub logging : (name value : List ℕ) (p : Mind) → bytes_eq name (codes "LOG") ≡ true → say_then p value (GoesOn p) ≡ change_other name value p
logging name value p e = if_yes (bytes_eq name (codes "LOG")) (say_then p value (GoesOn p)) (shift_effect name value p) e

pub shifting : (name value : List ℕ) (p q : Mind) → bytes_eq name (codes "LOG") ≡ false → bytes_eq name (codes "SHIFT") ≡ true → q ≡ shift_arguments value p → Ends (GoesOn q) ≡ change_other name value p
shifting name value p q other e is =
    ap (λ m. Ends (GoesOn m)) is
    ∙ (if_yes (bytes_eq name (codes "SHIFT")) (Ends (GoesOn (shift_arguments value p))) (change_rcfile name value p) e
    ∙ if_no (bytes_eq name (codes "LOG")) (say_then p value (GoesOn p)) (shift_effect name value p) other)

pub neither : (name value : List ℕ) (p : Mind) → bytes_eq name (codes "LOG") ≡ false → bytes_eq name (codes "SHIFT") ≡ false → change_rcfile name value p ≡ change_other name value p
neither name value p other e =
    if_no (bytes_eq name (codes "SHIFT")) (Ends (GoesOn (shift_arguments value p))) (change_rcfile name value p) e
    ∙ if_no (bytes_eq name (codes "LOG")) (say_then p value (GoesOn p)) (shift_effect name value p) other

-- INCLUDERC, SWITCHRC, HOST, and a plain variable
abbrev host_effect : List ℕ → List ℕ → Mind → Plan Turn
host_effect name value p = if bytes_eq name (codes "HOST") then change_host value p else Ends (GoesOn p)

abbrev switch_effect : List ℕ → List ℕ → Mind → Plan Turn
switch_effect name value p = if bytes_eq name (codes "SWITCHRC") then switch_rcfile value p else host_effect name value p

pub including : (name value : List ℕ) (p : Mind) → bytes_eq name (codes "INCLUDERC") ≡ true → include_rcfile value p ≡ change_rcfile name value p
including name value p e = if_yes (bytes_eq name (codes "INCLUDERC")) (include_rcfile value p) (switch_effect name value p) e

pub switching : (name value : List ℕ) (p : Mind) → bytes_eq name (codes "INCLUDERC") ≡ false → bytes_eq name (codes "SWITCHRC") ≡ true → switch_rcfile value p ≡ change_rcfile name value p
switching name value p other e =
    if_yes (bytes_eq name (codes "SWITCHRC")) (switch_rcfile value p) (host_effect name value p) e ∙ if_no (bytes_eq name (codes "INCLUDERC")) (include_rcfile value p) (switch_effect name value p) other

-- a name that is neither of the first two
others_first : (name value : List ℕ) (p : Mind) → bytes_eq name (codes "INCLUDERC") ≡ false → bytes_eq name (codes "SWITCHRC") ≡ false → host_effect name value p ≡ change_rcfile name value p
others_first name value p other e =
    if_no (bytes_eq name (codes "SWITCHRC")) (switch_rcfile value p) (host_effect name value p) e ∙ if_no (bytes_eq name (codes "INCLUDERC")) (include_rcfile value p) (switch_effect name value p) other

pub hosting : (name value : List ℕ) (p : Mind) → bytes_eq name (codes "INCLUDERC") ≡ false → bytes_eq name (codes "SWITCHRC") ≡ false → bytes_eq name (codes "HOST") ≡ true → change_host value p ≡ change_rcfile name value p
hosting name value p other last e = if_yes (bytes_eq name (codes "HOST")) (change_host value p) (Ends (GoesOn p)) e ∙ others_first name value p other last

pub set_plainly : (name value : List ℕ) (p : Mind) → bytes_eq name (codes "INCLUDERC") ≡ false → bytes_eq name (codes "SWITCHRC") ≡ false → bytes_eq name (codes "HOST") ≡ false → Ends (GoesOn p) ≡ change_rcfile name value p
set_plainly name value p other last e = if_no (bytes_eq name (codes "HOST")) (change_host value p) (Ends (GoesOn p)) e ∙ others_first name value p other last

-- HOST got the host's name, or another, which was told
pub host_same : (value : List ℕ) (p : Mind) (x : JournalState) (s : View) → bytes_eq value p.host_name ≡ true → Executes (change_host value p) (GoesOn p) x x s s
host_same value p x s e = choose_then (bytes_eq value p.host_name) (Ends (GoesOn p)) (say_then p (host_mismatched_line value) (Halts HostOff p)) (GoesOn p) x x s s e (executes_nothing (GoesOn p) x x s refl)

pub host_told : (value line : List ℕ) (p : Mind) (x y : JournalState) (a b : View) → bytes_eq value p.host_name ≡ false → line ≡ host_mismatched_line value → Executes (log line p) logged x y a b → Executes (change_host value p) (Halts HostOff p) x y a b
host_told value line p x y a b e is h =
    choose_else (bytes_eq value p.host_name) (Ends (GoesOn p)) (say_then p (host_mismatched_line value) (Halts HostOff p)) (Halts HostOff p) x y a b e
    (line_told p (host_mismatched_line value) line (Halts HostOff p) x y a b is h)

pub host_out : (value line : List ℕ) (p : Mind) (x y : JournalState) (a b : View) → bytes_eq value p.host_name ≡ false → line ≡ host_mismatched_line value → OutOfMemory (log line p) x y a b → OutOfMemory (change_host value p) x y a b
host_out value line p x y a b e is h =
    else_out (bytes_eq value p.host_name) (Ends (GoesOn p)) (say_then p (host_mismatched_line value) (Halts HostOff p)) x y a b e
    (line_out p (host_mismatched_line value) line (Halts HostOff p) x y a b is h)

-- a value of INCLUDERC or SWITCHRC: none, a name, and a text that can't be one
abbrev by_name : Plan Turn → (List ℕ → Plan Turn) → List ℕ → Mind → Plan Turn
by_name none asks value p = if is_empty value then none else if is_file_text value then asks (full_name p.base value) else refuse_name value p

pub named_nothing : (none : Plan Turn) (asks : List ℕ → Plan Turn) (value : List ℕ) (p : Mind) → is_empty value ≡ true → none ≡ by_name none asks value p
named_nothing none asks value p e = if_yes (is_empty value) none (if is_file_text value then asks (full_name p.base value) else refuse_name value p) e

pub named_so : (none : Plan Turn) (asks : List ℕ → Plan Turn) (value name full : List ℕ) (p : Mind) → is_empty value ≡ false → Some name ≡ file_name_of value → full ≡ full_name p.base name → asks full ≡ by_name none asks value p
named_so none asks value name full p e found is =
    let u = usable_then value name found in
    ap asks (is ∙ ap (full_name p.base) u.1) ∙ (if_yes (is_file_text value) (asks (full_name p.base value)) (refuse_name value p) u.0
    ∙ if_no (is_empty value) none (if is_file_text value then asks (full_name p.base value) else refuse_name value p) e)

pub named_badly : (none : Plan Turn) (asks : List ℕ → Plan Turn) (value : List ℕ) (p : Mind) → is_empty value ≡ false → None ≡ file_name_of value → refuse_name value p ≡ by_name none asks value p
named_badly none asks value p e bad =
    if_no (is_file_text value) (asks (full_name p.base value)) (refuse_name value p) (unusable_then value bad)
    ∙ if_no (is_empty value) none (if is_file_text value then asks (full_name p.base value) else refuse_name value p) e

-- an unsetting of SWITCHRC, that of LOCKFILE, and a plain one
abbrev after_unsetting : List ℕ → Mind → Plan Turn
after_unsetting name q = if bytes_eq name (codes "LOCKFILE") then drop_lock q else Ends (GoesOn q)

pub switch_unset : (name : List ℕ) (p q : Mind) → bytes_eq name (codes "SWITCHRC") ≡ true → q ≡ without_variable name p → Ends (EndsFile q) ≡ unset name p
switch_unset name p q e is =
    ap (λ r. Ends (EndsFile r)) is ∙ if_yes (bytes_eq name (codes "SWITCHRC")) (Ends (EndsFile (without_variable name p))) (after_unsetting name (without_variable name p)) e

pub lock_unset : (name : List ℕ) (p q : Mind) → bytes_eq name (codes "SWITCHRC") ≡ false → bytes_eq name (codes "LOCKFILE") ≡ true → q ≡ without_variable name p → drop_lock q ≡ unset name p
lock_unset name p q other lock is =
    ap drop_lock is
    ∙ (if_yes (bytes_eq name (codes "LOCKFILE")) (drop_lock (without_variable name p)) (Ends (GoesOn (without_variable name p))) lock
    ∙ if_no (bytes_eq name (codes "SWITCHRC")) (Ends (EndsFile (without_variable name p))) (after_unsetting name (without_variable name p)) other)

pub unset_plainly : (name : List ℕ) (p q : Mind) → bytes_eq name (codes "SWITCHRC") ≡ false → bytes_eq name (codes "LOCKFILE") ≡ false → q ≡ without_variable name p → Ends (GoesOn q) ≡ unset name p
unset_plainly name p q other plain is =
    ap (λ r. Ends (GoesOn r)) is
    ∙ (if_no (bytes_eq name (codes "LOCKFILE")) (drop_lock (without_variable name p)) (Ends (GoesOn (without_variable name p))) plain
    ∙ if_no (bytes_eq name (codes "SWITCHRC")) (Ends (EndsFile (without_variable name p))) (after_unsetting name (without_variable name p)) other)

-- the commands of the value come first
abbrev pub given : List ℕ → List ℕ → Outputs → Plan Turn
given name text = λ ran. assign_with name text ran.outputs ran.mind

-- the value is expanded, or is too long
pub value_assigned : (name text value : List ℕ) (outputs : List (List ℕ)) (p : Mind) → is_too_long One text p.vars outputs ≡ false → value ≡ value_in p.vars outputs text
    → assigned name value p ≡ assign_with name text outputs p
value_assigned name text value outputs p fits is =
    ap (λ v. assigned name v p) is ∙ if_no (is_too_long One text p.vars outputs) (skip_value One text outputs p) (assigned name (value_in p.vars outputs text) p) fits

pub value_skipped : (name text : List ℕ) (outputs : List (List ℕ)) (p : Mind) → is_too_long One text p.vars outputs ≡ true → skip_value One text outputs p ≡ assign_with name text outputs p
value_skipped name text outputs p long = if_yes (is_too_long One text p.vars outputs) (skip_value One text outputs p) (assigned name (value_in p.vars outputs text) p) long
