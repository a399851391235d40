-- The lock files of deliveries.
use Rattle.std.specs.Prelude.{ℕ, Bool, true, false, ◌||◌, List, [], ◌∷◌, ◌++◌, Option, Some, None, codes, bytes_eq, if◌then◌else◌}
use Rattle.std.specs.List.{list_any}
use Rattle.pm_bytes.specs.Number.{count_of}
use Rattle.pm_bytes.specs.Path.{full_name}
use Rattle.pm_vars.specs.Table.{Table}
use Rattle.pm_vars.specs.Variables.{value_of}
use Rattle.pm_journal.specs.Held.{holds_name}
use Rattle.pm_journal.specs.Locking.{lock_rule}
use Rattle.pm_journal.specs.declared.acts.Reply.{Reply}
use Rattle.pm_journal.specs.declared.acts.Reply.TheVariants.{Faulted}
use Rattle.pm_journal.specs.declared.locking.LockRule.{LockRule}
use Rattle.pm_meaning.specs.Destinations.{without_ending}
use Rattle.pm_meaning.specs.Texts.{is_empty, is_file_text}
use Rattle.pm_meaning.specs.Minds.{Mind}

-- a call failed
abbrev pub is_fault : Reply → Bool
is_fault Faulted = true
is_fault other = false

-- a text, or another where there is none
abbrev pub text_or : List ℕ → Option (List ℕ) → List ℕ
text_or otherwise None = otherwise
text_or otherwise (Some text) = text

-- a number, or another where there is none
abbrev pub count_or : ℕ → Option ℕ → ℕ
count_or otherwise None = otherwise
count_or otherwise (Some count) = count

-- the value of a variable, or this where it is unset
abbrev pub value_or : List ℕ → List ℕ → Table → List ℕ
value_or otherwise name vars = text_or otherwise (value_of name vars.variables)

-- the number that a variable's value writes, or this
abbrev pub number_or : ℕ → List ℕ → Table → ℕ
number_or otherwise name vars = count_or otherwise (count_of (value_or [] name vars))

-- how lock files are asked for: by LOCKSLEEP, LOCKTIMEOUT and SUSPEND, with 1,000 tries
abbrev pub rule_of : Table → LockRule
rule_of vars = lock_rule (number_or 8 (codes "LOCKSLEEP") vars) (number_or 1024 (codes "LOCKTIMEOUT") vars) (number_or 16 (codes "SUSPEND") vars) 1000

-- `/dev/null` takes everything and is no file
abbrev pub is_nothing : List ℕ → Bool
is_nothing name = bytes_eq name (codes "/dev/null")

-- the first destination's name, without a folder's ending, with LOCKEXT; `/dev/null` has no lock file
abbrev pub automatic_lock : List (List ℕ) → Mind → Option (List ℕ)
automatic_lock [] p = None
automatic_lock (word ∷ words) p =
    if is_nothing (full_name p.base word) then None else Some (without_ending word ++ value_or (codes ".lock") (codes "LOCKEXT") p.vars)

-- the lock file that a recipe asks for, by the text after its second colon and what that expands to: without a text the automatic one
abbrev pub lock_word : Option (List ℕ) → List ℕ → List (List ℕ) → Mind → Option (List ℕ)
lock_word None value words p = None
lock_word (Some text) value words p = if is_empty text then automatic_lock words p else Some value

-- the text that is told where the lock file's name can't be used: its own, or that of the action
abbrev pub blamed_text : Option (List ℕ) → List ℕ → List ℕ
blamed_text None text = text
blamed_text (Some lock) text = if is_empty lock then text else lock

-- a lock file that is asked for has a name that can be a file's
abbrev pub is_lock_word : Option (List ℕ) → Bool
is_lock_word None = true
is_lock_word (Some word) = is_file_text word

-- the lock file as seen from where the run began
abbrev pub full_lock : List ℕ → Option (List ℕ) → Option (List ℕ)
full_lock base None = None
full_lock base (Some word) = Some (full_name base word)

-- the lock file is a destination, or is held already
abbrev pub is_taken : Option (List ℕ) → List (List ℕ) → List (List ℕ) → Bool
is_taken None names held = false
is_taken (Some lock) names held = list_any (λ name. bytes_eq name lock) names || holds_name held lock

-- a destination is a lock file that is held
abbrev pub any_held : List (List ℕ) → List (List ℕ) → Bool
any_held names held = list_any (holds_name held) names

-- the process holds this lock too
abbrev pub with_lock : List ℕ → Mind → Mind
with_lock name p = record p { locks = name ∷ p.locks }
