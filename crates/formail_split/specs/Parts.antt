-- The mails of a mailbox.
use Rattle.std.specs.Prelude.{ℕ, ◌+◌, ◌-◌, ◌&&◌, ◌++◌, min, Bool, false, nat_eq, List, [], ◌∷◌, length, take, drop, Option, Some, None, codes, bytes_eq, if◌then◌else◌}
use Rattle.std.specs.List.{starts_with}
use Rattle.pm_message.specs.Lines.{lines}

-- a line that may begin a mail
abbrev pub is_from_line : List ℕ → Bool
is_from_line line = starts_with nat_eq line (codes "From ")

-- the next line begins a mail, where the one before it is empty
abbrev pub comes_from_line : List (List ℕ) → Bool
comes_from_line [] = false
comes_from_line (line ∷ rest) = is_from_line line

-- a line before some mails: it is the first line of the first of them
abbrev pub in_first : List ℕ → List (List ℕ) → List (List ℕ)
in_first line [] = line ∷ []
in_first line (part ∷ parts) = (line ++ part) ∷ parts

-- the mails of some lines: each but the first begins at a line `From ` that follows an empty line
abbrev pub parts_of_lines : List (List ℕ) → List (List ℕ)
parts_of_lines [] = []
parts_of_lines (line ∷ rest) =
    if bytes_eq line (codes "\n") && comes_from_line rest then line ∷ parts_of_lines rest
    else in_first line (parts_of_lines rest)

-- the mails of a mailbox; none where it has no bytes
abbrev pub parts_of : List ℕ → List (List ℕ)
parts_of bytes = parts_of_lines (lines bytes)

-- the place of the first mail that is wanted, where so many are left out
abbrev pub first_of : ℕ → ℕ → ℕ
first_of count skip = min skip count

-- the place after the last one, where all others are wanted or at most so many
abbrev pub after_last_of : ℕ → ℕ → Option ℕ → ℕ
after_last_of count skip None = count
after_last_of count skip (Some total) = min count (first_of count skip + total)

-- the mails between these places
abbrev pub selected : ℕ → Option ℕ → List (List ℕ) → List (List ℕ)
selected skip total parts =
    let first = first_of (length parts) skip in
    take (after_last_of (length parts) skip total - first) (drop first parts)
