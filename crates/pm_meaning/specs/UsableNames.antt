-- Texts as names of files, and words as those of a program.
use Rattle.std.specs.Prelude.{◌≡◌, ℕ, true, false, List, Option, Some, None, if◌then◌else◌}
use Rattle.std.specs.List.{list_all}
use Rattle.pm_bytes.specs.Name.{is_usable}
use Rattle.pm_meaning.specs.Texts.{is_file_text}

-- the text where it can be a file's name
abbrev pub file_name_of : List ℕ → Option (List ℕ)
file_name_of text = if is_file_text text then Some text else None

-- the text where a program can get it
abbrev pub usable_name : List ℕ → Option (List ℕ)
usable_name text = if is_usable text then Some text else None

-- the words as names, or that one of them can't be one
abbrev pub AreUsable : List (List ℕ) → Option (List (List ℕ)) → Type 0
AreUsable words None = list_all is_usable words ≡ false
AreUsable words (Some names) = (list_all is_usable words ≡ true) × (names ≡ words)
