-- How a process changes.
use Rattle.std.specs.Prelude.{ℕ, ◌+◌, Bool, not, List, codes}
use Rattle.pm_message.specs.declared.head.Message.{Message}
use Rattle.pm_vars.specs.Variables.{value_of, with_value, without}
use Rattle.pm_meaning.specs.Texts.{is_unset_or_empty}
use Rattle.pm_meaning.specs.Minds.{Mind}

-- the variable has this value
abbrev pub with_variable : List ℕ → List ℕ → Mind → Mind
with_variable name value p = record p { vars = record p.vars { variables = with_value name value p.vars.variables } }

-- the variable is unset
abbrev pub without_variable : List ℕ → Mind → Mind
without_variable name p = record p { vars = record p.vars { variables = without name p.vars.variables } }

-- this is the mail
abbrev pub with_message : Message → Mind → Mind
with_message message p = record p { message = message }

-- names are seen from this folder
abbrev pub with_base : List ℕ → Mind → Mind
with_base base p = record p { base = base }

-- this rcfile is read
abbrev pub with_rcfile : List ℕ → Mind → Mind
with_rcfile name p = record p { rcfile = name; vars = record p.vars { marks = record p.vars.marks { rcfile = name } } }

-- so many rcfiles were opened
abbrev pub with_openings : ℕ → Mind → Mind
with_openings count p = record p { openings = count }

-- one more rcfile was opened, or tried
abbrev pub opened : Mind → Mind
opened p = with_openings (p.openings + 1) p

-- a value was too long
abbrev pub overflowed : Mind → Mind
overflowed p = with_variable (codes "PROCMAIL_OVERFLOW") (codes "yes") p

-- one more piece was filed in a folder, or tried
abbrev pub counted : Mind → Mind
counted p = record p { placed = p.placed + 1 }

-- so many bytes of the mail were delivered to this destination
abbrev pub stored_in : List ℕ → ℕ → Mind → Mind
stored_in destination size p =
    record p { vars = record p.vars { variables = with_value (codes "LASTFOLDER") destination p.vars.variables }; stored = record { folder = destination; size = size } }

-- these are its arguments
abbrev pub with_arguments : List (List ℕ) → Mind → Mind
with_arguments arguments p = record p { vars = record p.vars { arguments = arguments } }

-- the variable is set and not empty
abbrev pub is_given : List ℕ → Mind → Bool
is_given name p = not (is_unset_or_empty (value_of name p.vars.variables))
