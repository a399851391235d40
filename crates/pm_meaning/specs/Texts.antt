-- Texts that variables may have.
use Rattle.std.specs.Prelude.{ℕ, Bool, true, not, ◌&&◌, nat_eq, length, List, Option, Some, None}
use Rattle.pm_bytes.specs.Name.{is_usable}

-- the text has no bytes
abbrev pub is_empty : List ℕ → Bool
is_empty text = nat_eq (length text) 0

-- a name that isn't empty and can be a file's
abbrev pub is_file_text : List ℕ → Bool
is_file_text text = not (is_empty text) && is_usable text

-- the variable isn't set, or its value is empty
abbrev pub is_unset_or_empty : Option (List ℕ) → Bool
is_unset_or_empty None = true
is_unset_or_empty (Some value) = is_empty value
