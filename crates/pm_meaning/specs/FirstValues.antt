-- The variables with which a process begins.
use Rattle.std.specs.Prelude.{ℕ, Bool, false, not, ◌&&◌, List, [], ◌∷◌, ◌++◌, Option, Some, None, codes, map, nat_le, pos, if◌then◌else◌}
use Rattle.std.specs.List.{list_all}
use Rattle.pm_bytes.specs.declared.environment.Environ.{Environ}
use Rattle.pm_message.specs.declared.head.Message.{Message}
use Rattle.pm_vars.specs.Table.{Table}
use Rattle.pm_vars.specs.Variables.{Variable, value_of, with_value, variable_of}
use Rattle.pm_meaning.specs.Chains.{new_chain}
use Rattle.pm_meaning.specs.Texts.{is_empty}
use Rattle.pm_meaning.specs.Minds.{Mind}

-- a variable with its value
abbrev pub variable : List ℕ → List ℕ → Variable
variable name value = record { name = name; value = value }

-- a variable of the environment; of several of one name the first counts
abbrev pub environment_value : Environ → List ℕ → Option (List ℕ)
environment_value env name = value_of name (map variable_of env.vars)

-- a value that passes the test, and otherwise this one
abbrev pub passing : (List ℕ → Bool) → Option (List ℕ) → List ℕ → List ℕ
passing fits None otherwise = otherwise
passing fits (Some value) otherwise = if fits value then value else otherwise

-- the value isn't empty
abbrev pub is_filled : List ℕ → Bool
is_filled value = not (is_empty value)

-- a login name has no blank and no control character
abbrev pub is_login : List ℕ → Bool
is_login value = is_filled value && list_all (λ byte. nat_le 33 byte) value

-- who runs the program: LOGNAME, or `nobody`
abbrev pub login_name : Environ → List ℕ
login_name env = passing is_login (environment_value env (codes "LOGNAME")) (codes "nobody")

-- HOME, or the root
abbrev pub home_folder : Environ → List ℕ
home_folder env = passing is_filled (environment_value env (codes "HOME")) (codes "/")

-- PATH, or where the system's programs are
abbrev pub search_path : Environ → List ℕ
search_path env = passing is_filled (environment_value env (codes "PATH")) (codes "/usr/bin:/bin")

-- the variable, where it has a value
abbrev pub variable_or_none : List ℕ → Option (List ℕ) → List Variable
variable_or_none name None = []
variable_or_none name (Some value) = variable name value ∷ []

-- TZ, where the environment has it
abbrev pub time_zone : Environ → List Variable
time_zone env = variable_or_none (codes "TZ") (environment_value env (codes "TZ"))

-- the folder from which names are seen at first
abbrev pub first_folder : Bool → Environ → List ℕ
first_folder filter env = if filter then codes "." else home_folder env

-- the mailbox of the login name below /var/mail
abbrev pub system_mailbox : Environ → List ℕ
system_mailbox env = codes "/var/mail/" ++ login_name env

-- who runs the program, and where
abbrev pub user_values : Environ → List Variable
user_values env =
    variable (codes "LOGNAME") (login_name env) ∷ variable (codes "HOME") (home_folder env) ∷ variable (codes "SHELL") (codes "/bin/sh")
    ∷ variable (codes "PATH") (search_path env) ∷ []

-- the host, and the folder from which names are seen
abbrev pub place_values : Bool → Environ → List Variable
place_values filter env = variable (codes "HOST") env.host_name ∷ variable (codes "MAILDIR") (first_folder filter env) ∷ []

-- a mail filter has no default mailbox
abbrev pub mailbox_values : Bool → Environ → List Variable
mailbox_values filter env =
    if filter then [] else variable (codes "ORGMAIL") (system_mailbox env) ∷ variable (codes "DEFAULT") (system_mailbox env) ∷ []

-- how mail is sent on and how programs are started
abbrev pub program_values : List Variable
program_values =
    variable (codes "SENDMAIL") (codes "/usr/sbin/sendmail") ∷ variable (codes "SENDMAILFLAGS") (codes "-oi")
    ∷ variable (codes "SHELLMETAS") (codes "&|<>~;?*[") ∷ variable (codes "SHELLFLAGS") (codes "-c") ∷ []

-- how files and lock files are named, and how long a lock is waited for
abbrev pub file_values : List Variable
file_values =
    variable (codes "MSGPREFIX") (codes "msg.") ∷ variable (codes "LOCKEXT") (codes ".lock") ∷ variable (codes "LOCKSLEEP") (codes "8")
    ∷ variable (codes "LOCKTIMEOUT") (codes "1024") ∷ variable (codes "SUSPEND") (codes "16") ∷ variable (codes "PROCMAIL_VERSION") (codes "3.22") ∷ []

-- the first values, in the order in which they are set
abbrev pub first_values : Bool → Environ → List Variable
first_values filter env = user_values env ++ time_zone env ++ place_values filter env ++ mailbox_values filter env ++ program_values ++ file_values

-- each of these is set, one after the other
abbrev pub all_set : List Variable → List Variable → List Variable
all_set [] variables = variables
all_set (v ∷ more) variables = all_set more (with_value v.name v.value variables)

-- the first variables, with these arguments
abbrev pub first_table : Bool → List (List ℕ) → Environ → Table
first_table filter arguments env = record {
  variables = all_set (first_values filter env) [];
  arguments = arguments;
  marks = record { pid = env.pid; code = 0; score = pos 0; rcfile = [] };
}

-- a process that begins with these arguments and this message
abbrev pub first_process : Bool → Bool → List (List ℕ) → Environ → Message → Mind
first_process filter softly arguments env message = record {
  filter = filter;
  fails_softly = softly;
  message = message;
  vars = first_table filter arguments env;
  base = first_folder filter env;
  host_name = env.host_name;
  locks = [];
  global = None;
  chain = new_chain;
  placed = 0;
  rcfile = [];
  openings = 0;
  is_clone = false;
  later = [];
  stored = record { folder = []; size = 0 };
}
