-- The abstract: what is logged of a delivery (procmailrc(5), LOGABSTRACT).
use Rattle.std.specs.Prelude.{ℕ, ◌==◌, Bool, not, ◌&&◌, List, [], ◌∷◌, ◌++◌, map, take, drop, codes, decimal, nat_eq, bytes_eq, if◌then◌else◌}
use Rattle.std.specs.List.{starts_with, before_first}
use Rattle.pm_bytes.specs.Letter.{lower_case}
use Rattle.pm_message.specs.Field.{texts_of}
use Rattle.pm_meaning.specs.Leads.{after_blanks}
use Rattle.pm_journal.specs.LogText.{quoted}
use Rattle.pm_recipe.specs.declared.tree.Flags.{Flags}
use Rattle.pm_meaning.specs.Locks.{value_or}
use Rattle.pm_meaning.specs.Minds.{Mind}
use Rattle.pm_meaning.specs.Texts.{is_empty}
use Rattle.pm_meaning.specs.declared.process.Stored.{Stored}

-- the text up to its first newline
abbrev pub first_line : List ℕ → List ℕ
first_line text = before_first (λ byte. byte == 10) text

-- the line From of the mail, where it has one
abbrev pub from_part : List ℕ → List ℕ
from_part head = if starts_with nat_eq head (codes "From ") then first_line head ++ codes "\n" else []

-- a field that is the subject
abbrev pub is_subject : List ℕ → Bool
is_subject field = bytes_eq (map lower_case (take 8 field)) (codes "subject:")

-- what its first line says, as far as 78 bytes
abbrev pub subject_line : List ℕ → List ℕ
subject_line field = codes " Subject: " ++ take 78 (after_blanks (first_line (drop 8 field))) ++ codes "\n"

-- the first subject among these fields
abbrev pub subject_part : List (List ℕ) → List ℕ
subject_part [] = []
subject_part (field ∷ fields) = if is_subject field then subject_line field else subject_part fields

-- where the mail was delivered to, and how many bytes
abbrev pub folder_part : Stored → List ℕ
folder_part stored = codes "  Folder: " ++ quoted stored.folder ++ codes " " ++ decimal stored.size ++ codes "\n"

-- the abstract of the last delivery
abbrev pub abstract_of : Mind → List ℕ
abstract_of p = from_part p.message.head ++ subject_part (texts_of p.message.head) ++ folder_part p.stored

-- there is a log for abstracts: LOGFILE isn't empty
abbrev pub has_log : Mind → Bool
has_log p = not (is_empty (value_or [] (codes "LOGFILE") p.vars))

-- LOGABSTRACT wants one of each delivery
abbrev pub logs_all : Mind → Bool
logs_all p = has_log p && bytes_eq (value_or [] (codes "LOGABSTRACT") p.vars) (codes "all")

-- LOGABSTRACT wants one of the last delivery, unless it says `no`
abbrev pub logs_last : Mind → Bool
logs_last p = has_log p && not (bytes_eq (value_or [] (codes "LOGABSTRACT") p.vars) (codes "no"))

-- the abstract of a copy that was delivered, where it is wanted
abbrev pub copy_lines : Bool → Flags → Mind → List (List ℕ)
copy_lines done flags p = if done && flags.copy && logs_all p then abstract_of p ∷ [] else []
