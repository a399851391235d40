-- What assignments, unsettings and defects do.
use Rattle.std.specs.Prelude.{ℕ, List, [], ◌∷◌, codes, bytes_eq, drop, if◌then◌else◌}
use Rattle.pm_bytes.specs.Number.{count_of}
use Rattle.pm_bytes.specs.Path.{full_name}
use Rattle.pm_host.specs.declared.answers.Looked.TheVariants.{Folder}
use Rattle.pm_vars.specs.Table.{Table}
use Rattle.pm_meaning.specs.Texts.{is_empty, is_file_text}
use Rattle.pm_subst.specs.Commands.{commands_in}
use Rattle.pm_subst.specs.Words.{words_in}
use Rattle.pm_subst.specs.declared.kinds.Mode.TheVariants.{One}
use Rattle.pm_journal.specs.LogText.{skipped_line, unusable_name_line, couldnt_chdir_line, host_mismatched_line}
use Rattle.pm_journal.specs.declared.acts.Act.TheVariants.{Probe}
use Rattle.pm_journal.specs.declared.acts.Reply.{Reply}
use Rattle.pm_journal.specs.declared.acts.Reply.TheVariants.{Found}
use Rattle.pm_journal.specs.Plan.{Plan, Ends, and_then, ask}
use Rattle.pm_meaning.specs.Changes.{with_variable, without_variable, with_base, with_arguments}
use Rattle.pm_meaning.specs.GlobalLock.{drop_lock, change_lock}
use Rattle.pm_meaning.specs.Locks.{count_or}
use Rattle.pm_meaning.specs.Outputs.{outputs_of}
use Rattle.pm_meaning.specs.Turns.{Turn, GoesOn, Halts, Includes, Switches, EndsFile, say_then, refuse_name, is_too_long, skip_value}
use Rattle.pm_meaning.specs.Minds.{Mind}
use Rattle.pm_meaning.specs.declared.process.End.TheVariants.{HostOff}

-- a text as one word
abbrev pub first_word : List (List ℕ) → List ℕ
first_word [] = []
first_word (word ∷ words) = word

-- the value that a text stands for with these outputs of its commands
abbrev pub value_in : Table → List (List ℕ) → List ℕ → List ℕ
value_in vars outputs text = first_word (words_in One vars outputs text)

-- names are seen from a folder that is there, and from no other
abbrev pub probed : List ℕ → Mind → Reply → Plan Turn
probed name p (Found Folder) = Ends (GoesOn (with_base name p))
probed name p other = say_then p (couldnt_chdir_line name) (GoesOn p)

-- MAILDIR got this value
abbrev pub change_folder : List ℕ → Mind → Plan Turn
change_folder value p =
    if is_file_text value then and_then (ask (Probe (full_name p.base value))) (probed (full_name p.base value) p)
    else say_then p (unusable_name_line value) (GoesOn p)

-- INCLUDERC got this value: the rcfile of this name is read before the next statement
abbrev pub include_rcfile : List ℕ → Mind → Plan Turn
include_rcfile value p =
    if is_empty value then Ends (GoesOn p)
    else if is_file_text value then Ends (Includes (full_name p.base value) p)
    else refuse_name value p

-- SWITCHRC got this value: the rcfile of this name takes the place of the one that is being read; without a name that one is over
abbrev pub switch_rcfile : List ℕ → Mind → Plan Turn
switch_rcfile value p =
    if is_empty value then Ends (EndsFile p)
    else if is_file_text value then Ends (Switches (full_name p.base value) p)
    else refuse_name value p

-- HOST got this value: a name that isn't the host's is told, and the process ends without a delivery
abbrev pub change_host : List ℕ → Mind → Plan Turn
change_host value p =
    if bytes_eq value p.host_name then Ends (GoesOn p) else say_then p (host_mismatched_line value) (Halts HostOff p)

-- three variables say which rcfiles are read; the rest have no effect beyond their value
abbrev pub change_rcfile : List ℕ → List ℕ → Mind → Plan Turn
change_rcfile name value p =
    if bytes_eq name (codes "INCLUDERC") then include_rcfile value p
    else if bytes_eq name (codes "SWITCHRC") then switch_rcfile value p
    else if bytes_eq name (codes "HOST") then change_host value p
    else Ends (GoesOn p)

-- SHIFT got this value: so many arguments are dropped, and none where it is no number
abbrev pub shift_arguments : List ℕ → Mind → Mind
shift_arguments value p = with_arguments (drop (count_or 0 (count_of value)) p.vars.arguments) p

-- LOG's value is logged, and SHIFT drops arguments
abbrev pub change_other : List ℕ → List ℕ → Mind → Plan Turn
change_other name value p =
    if bytes_eq name (codes "LOG") then say_then p value (GoesOn p)
    else if bytes_eq name (codes "SHIFT") then Ends (GoesOn (shift_arguments value p))
    else change_rcfile name value p

-- the variable is set, and then its effect comes
abbrev pub assigned : List ℕ → List ℕ → Mind → Plan Turn
assigned name value p =
    if bytes_eq name (codes "MAILDIR") then change_folder value (with_variable name value p)
    else if bytes_eq name (codes "LOCKFILE") then change_lock value (with_variable name value p)
    else change_other name value (with_variable name value p)

-- the value is expanded with these outputs of its commands, by the variables as they stand
abbrev pub assign_with : List ℕ → List ℕ → List (List ℕ) → Mind → Plan Turn
assign_with name text outputs p =
    if is_too_long One text p.vars outputs then skip_value One text outputs p
    else assigned name (value_in p.vars outputs text) p

-- the commands of the value are run before it is expanded
abbrev pub assign : List ℕ → List ℕ → Mind → Plan Turn
assign name text p = and_then (outputs_of (commands_in One text) p) (λ ran. assign_with name text ran.outputs ran.mind)

-- the rcfile that is being read is over without SWITCHRC; LOCKFILE's lock is given back
abbrev pub unset : List ℕ → Mind → Plan Turn
unset name p =
    if bytes_eq name (codes "SWITCHRC") then Ends (EndsFile (without_variable name p))
    else if bytes_eq name (codes "LOCKFILE") then drop_lock (without_variable name p)
    else Ends (GoesOn (without_variable name p))

-- a line that isn't understood is told and skipped
abbrev pub skip_defect : List ℕ → Mind → Plan Turn
skip_defect text p = say_then p (skipped_line text) (GoesOn p)
