-- The cache of the identifiers that were seen, one a line.
use Rattle.std.specs.Prelude.{◌≤◌, ℕ, Bool, true, false, ◌&&◌, ◌||◌, not, nat_eq, nat_le, Option, Some, None, List, [], ◌∷◌, ◌++◌, take, length, codes, bytes_eq, if◌then◌else◌}
use Rattle.std.specs.List.{ends_with, list_any}
use Rattle.pm_message.specs.Lines.{lines}
use Rattle.formail_extra.specs.Seen.{without_newline, longest_id}

-- the line is whole, and is this identifier
abbrev pub is_line_of : List ℕ → List ℕ → Bool
is_line_of id line = ends_with nat_eq line (codes "\n") && bytes_eq (without_newline line) id

-- so many bytes of a cache are looked through
abbrev pub longest_front : ℕ
longest_front = 2097152

-- the identifier was seen: it is a whole line of the first 2,097,152 bytes of the cache
abbrev pub is_seen : List ℕ → List ℕ → Bool
is_seen bytes id = list_any (is_line_of id) (lines (take longest_front bytes))

-- what stays of the cache before one identifier more: nothing if it has so many bytes
abbrev pub left_of : ℕ → List ℕ → List ℕ
left_of most bytes = if nat_le most (length bytes) then [] else bytes

-- what ends the last line of these bytes
abbrev pub line_end_of : List ℕ → List ℕ
line_end_of bytes = if bytes_eq bytes [] || ends_with nat_eq bytes (codes "\n") then [] else codes "\n"

-- what is appended to these bytes for one identifier more
abbrev pub addition_to : List ℕ → List ℕ → List ℕ
addition_to bytes id = line_end_of bytes ++ id ++ codes "\n"

-- the cache with one identifier more
abbrev pub next_of : ℕ → List ℕ → List ℕ → List ℕ
next_of most bytes id = left_of most bytes ++ addition_to (left_of most bytes) id

-- a mail is kept if it has no identifier, or one that wasn't seen
abbrev pub is_kept : List ℕ → Option (List ℕ) → Bool
is_kept bytes None = true
is_kept bytes (Some id) = not (is_seen bytes id)

-- a mail has an identifier that wasn't seen
abbrev pub is_new : List ℕ → Option (List ℕ) → Bool
is_new bytes None = false
is_new bytes (Some id) = not (is_seen bytes id)

-- the cache after a mail: an identifier that wasn't seen is added
abbrev pub cache_after : ℕ → List ℕ → Option (List ℕ) → List ℕ
cache_after most bytes None = bytes
cache_after most bytes (Some id) = if is_seen bytes id then bytes else next_of most bytes id

-- which of some mails are kept, and the cache after them all
pub record Marks : Type 0 where
  pub kept : List Bool
  pub cache : List ℕ

-- one mark before some others
abbrev pub mark_before : Bool → Marks → Marks
mark_before kept others = record { kept = kept ∷ others.kept; cache = others.cache }

-- which of some mails are kept, and the cache after them all: each mail is held against those before it
abbrev pub marks_of : ℕ → List ℕ → List (Option (List ℕ)) → Marks
marks_of most bytes [] = record { kept = []; cache = bytes }
marks_of most bytes (id ∷ ids) = mark_before (is_kept bytes id) (marks_of most (cache_after most bytes id) ids)

-- an identifier has at most 4,096 bytes
abbrev pub IsShortId : Option (List ℕ) → Type 0
IsShortId None = Unit {0}
IsShortId (Some id) = length id ≤ longest_id
