-- The subject of a mail, and a text in columns.
use Rattle.std.specs.Prelude.{ℕ, ◌-◌, Bool, ◌||◌, ◌==◌, List, [], ◌∷◌, ◌++◌, take, drop, length, count_by, Option, Some, None, codes, nat_eq, nat_lt, nat_le, if◌then◌else◌}
use Rattle.std.specs.List.{ends_with}
use Rattle.pm_journal.specs.LogText.{quoted}
use Rattle.pm_message.specs.Field.{texts_of}
use Rattle.pm_message.specs.Split.{split_of}
use Rattle.pm_meaning.specs.Abstracts.{is_subject}
use Rattle.pm_meaning.specs.Leads.{after_blanks}

-- a text without the newline at its end
abbrev pub without_newline : List ℕ → List ℕ
without_newline text = if ends_with nat_eq text (codes "\n") then take (length text - 1) text else text

-- what a field says, on one line
abbrev pub field_value : List ℕ → List ℕ
field_value field = after_blanks (quoted (without_newline (drop 8 field)))

-- what the first subject among these fields says
abbrev pub subject_in : List (List ℕ) → Option (List ℕ)
subject_in [] = None
subject_in (field ∷ fields) = if is_subject field then Some (field_value field) else subject_in fields

-- what the subject of a mail says, if it has one
abbrev pub subject_of : List ℕ → Option (List ℕ)
subject_of mail = subject_in (texts_of (split_of mail).head)

-- the subject as it is shown
abbrev pub subject_shown : Option (List ℕ) → List ℕ
subject_shown None = codes "(no Subject)"
subject_shown (Some value) = codes "Subject: " ++ value

-- a byte with which a character of UTF-8 begins
abbrev pub begins_character : ℕ → Bool
begins_character byte = nat_lt byte 128 || nat_le 192 byte

-- how many characters a text has
abbrev pub characters : List ℕ → ℕ
characters text = count_by begins_character text

-- the longest front that has at most so many characters
abbrev pub shortened : ℕ → List ℕ → List ℕ
shortened most [] = []
shortened most (byte ∷ text) =
    if begins_character byte then (if most == 0 then [] else byte ∷ shortened (most - 1) text) else byte ∷ shortened most text

-- what is missing of forty columns
unfoldable pub blanks_after : List ℕ → List ℕ
blanks_after text = take (40 - characters text) (codes "                                        ")

-- a text in forty columns
abbrev pub in_columns : List ℕ → List ℕ
in_columns text = shortened 40 text ++ blanks_after (shortened 40 text)
