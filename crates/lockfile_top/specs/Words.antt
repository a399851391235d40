-- What the words of the command line ask for (lockfile(1)).
use Rattle.std.specs.Prelude.{◌≡◌, ℕ, ℤ, pos, negsuc, Bool, false, ◌+◌, ◌&&◌, not, List, [], ◌∷◌, ◌++◌, length, drop, map, Option, Some, None, option_map, option_and_then, codes, String, string_bytes, nat_eq, nat_le, bytes_eq, if◌then◌else◌}
use Rattle.std.specs.List.{starts_with, list_any}
use Rattle.std.specs.declared.alloc.Global.{Global}
use Rattle.pm_bytes.specs.Name.{has_zero}
use Rattle.pm_bytes.specs.Number.{count_of, number_of}
use Rattle.pm_bytes.specs.declared.environment.Environ.{Environ}
use Rattle.pm_start.specs.Login.{login_name}
use Rattle.pm_journal.specs.Locking.{lock_rule}
use Rattle.pm_journal.specs.declared.locking.LockRule.{LockRule}
use Rattle.lockfile_top.specs.declared.tasks.Setting.{Setting}
use Rattle.lockfile_top.specs.declared.tasks.Setting.TheVariants.{Sleep, Retries, Limit, Suspend}
use Rattle.lockfile_top.specs.declared.tasks.Task.{Task}
use Rattle.lockfile_top.specs.declared.tasks.Task.TheVariants.{Take, Give}
use Rattle.lockfile_top.specs.declared.tasks.CommandLine.{CommandLine}
use Rattle.lockfile_top.specs.declared.words.Word.{Word}
use Rattle.lockfile_top.specs.declared.words.Word.TheVariants.{Sets, Awaits, Takes, TakesMailbox, GivesMailbox, Unread}

-- a sleep of 8 seconds, no lock is forced, 16 seconds after one that is, and 1,000,000 tries
abbrev pub first_rule : LockRule
first_rule = lock_rule 8 0 16 1000000

-- seconds are written by 1 to 9 digits
abbrev pub seconds_of : List ℕ → Option ℕ
seconds_of text = if nat_le (length text) 9 then count_of text else None

-- retries go from -1, which is 1,000,000 tries, to 999,999; the first try comes before the retries
abbrev pub tries_for : ℤ → Option ℕ
tries_for (pos retries) = if nat_le retries 999999 then Some (retries + 1) else None
tries_for (negsuc below) = if nat_eq below 0 then Some 1000000 else None

-- the rule with this setting changed; None where the value isn't a number in its range
abbrev pub with_value : Setting → List ℕ → LockRule → Option LockRule
with_value Sleep text rule = option_map (λ seconds. record rule { sleep = seconds }) (seconds_of text)
with_value Retries text rule =
    option_map (λ tries. record rule { tries = tries }) (option_and_then tries_for (number_of text))
with_value Limit text rule = option_map (λ seconds. record rule { limit = seconds }) (seconds_of text)
with_value Suspend text rule = option_map (λ seconds. record rule { suspend = seconds }) (seconds_of text)

-- the settings become these
abbrev pub changed : Option LockRule → Word
changed None = Unread
changed (Some rule) = Sets rule

-- the setting whose value follows the letter: `r`, `l` or `s`
abbrev pub setting_of : ℕ → Option Setting
setting_of letter =
    if nat_eq letter 114 then Some Retries
    else if nat_eq letter 108 then Some Limit
    else if nat_eq letter 115 then Some Suspend
    else None

-- a setting whose value is the rest of its word, or the next word where nothing is left
abbrev pub value_word : Setting → LockRule → List ℕ → Word
value_word setting rule [] = Awaits setting
value_word setting rule (byte ∷ more) = changed (with_value setting (byte ∷ more) rule)

-- a word that begins with `-`, without it: a letter with its value, or the seconds of the sleep
abbrev pub setting_word : LockRule → List ℕ → Word
setting_word rule [] = Unread
setting_word rule (letter ∷ value) = elim (setting_of letter) [
  | Some setting ↦ value_word setting rule value
  | None ↦ changed (with_value Sleep (letter ∷ value) rule)
]

-- a word that can name a lock file
abbrev pub is_lock_name : List ℕ → Bool
is_lock_name word = not (bytes_eq word []) && not (has_zero word)

-- what a word says, where these are the settings
abbrev pub word_of : LockRule → List ℕ → Word
word_of rule word =
    if bytes_eq word (codes "-!") then Sets rule
    else if bytes_eq word (codes "-ml") then TakesMailbox
    else if bytes_eq word (codes "-mu") then GivesMailbox
    else if starts_with nat_eq word (codes "-") then setting_word rule (drop 1 word)
    else if is_lock_name word then Takes
    else Unread

-- a word that names a lock file has no byte 0
abbrev pub NamesLock : Word → List ℕ → Type 0
NamesLock Takes word = has_zero word ≡ false
NamesLock other word = Unit {0}

-- a word that says something else
abbrev pub IsNoName : Word → Type 0
IsNoName Takes = ⊥
IsNoName other = Unit {0}

-- the lock file of the system mailbox
abbrev pub mailbox_lock : Environ → List ℕ
mailbox_lock env = codes "/var/mail/" ++ login_name env ++ codes ".lock"

-- what the words ask for by this one and those after it, where these ask for that by their settings
abbrev pub by_word : List ℕ → LockRule → List ℕ → (LockRule → Option Setting → Option (List Task)) → Word
    → Option (List Task)
by_word mailbox rule word behind (Sets now) = behind now None
by_word mailbox rule word behind (Awaits setting) = behind rule (Some setting)
by_word mailbox rule word behind Takes = option_map (λ tasks. Take word rule ∷ tasks) (behind rule None)
by_word mailbox rule word behind TakesMailbox = option_map (λ tasks. Take mailbox rule ∷ tasks) (behind rule None)
by_word mailbox rule word behind GivesMailbox = option_map (λ tasks. Give mailbox ∷ tasks) (behind rule None)
by_word mailbox rule word behind Unread = None

-- What the words ask for, in order, where these are the settings and this one waits for its value; None where a word
-- isn't read. Each setting holds for the names after it.
abbrev pub tasks_in : List ℕ → LockRule → Option Setting → List (List ℕ) → Option (List Task)
tasks_in mailbox rule None [] = Some []
tasks_in mailbox rule (Some setting) [] = None
tasks_in mailbox rule (Some setting) (word ∷ words) =
    option_and_then (λ now. tasks_in mailbox now None words) (with_value setting word rule)
tasks_in mailbox rule None (word ∷ words) =
    by_word mailbox rule word (λ now waiting. tasks_in mailbox now waiting words) (word_of rule word)

-- `-!` stands among the words
abbrev pub is_inverted : List (List ℕ) → Bool
is_inverted words = list_any (λ word. bytes_eq word (codes "-!")) words

-- the command line of these tasks, of which there is at least one
abbrev pub line_of : Bool → List Task → Option CommandLine
line_of inverted [] = None
line_of inverted (task ∷ tasks) = Some (record { tasks = task ∷ tasks; inverted = inverted })

-- what the words ask for, where they are read
abbrev pub command_line : Environ → List (List ℕ) → Option CommandLine
command_line env words =
    option_and_then (line_of (is_inverted words)) (tasks_in (mailbox_lock env) first_rule None words)

-- the words as bytes
abbrev pub all_bytes : List (String Global) → List (List ℕ)
all_bytes words = map (λ word. string_bytes word) words

-- What the whole asks for, in the middle of the words: by the settings in force, the one that waits for its value, what
-- was asked for so far, and the words that are left.
abbrev pub asked : List ℕ → LockRule → Option Setting → List Task → List (List ℕ) → Option (List Task)
asked mailbox rule waiting tasks words = option_map (λ more. tasks ++ more) (tasks_in mailbox rule waiting words)

-- The first of the words was read, and now the settings and what was asked for are those after it; or it isn't read.
abbrev pub ReadsOn : List ℕ → List ℕ → Bool → LockRule → Option Setting → List Task
    → LockRule → Option Setting → List Task → Type 0
ReadsOn mailbox word is_read rule waiting tasks rule' waiting' tasks' =
    (rest : List (List ℕ)) → asked mailbox rule waiting tasks (word ∷ rest)
    ≡ (if is_read then asked mailbox rule' waiting' tasks' rest else None)
