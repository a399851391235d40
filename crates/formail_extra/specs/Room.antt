-- The memory in which mails are marked.
use Rattle.std.specs.Prelude.{◌≡◌, ◌≤◌, ◌+◌, ℕ, Option, Some, None, List, [], length, sum_by, vec_capacity}
use Rattle.formail_extra.specs.declared.room.Room.{Room}

-- an identifier takes its bytes and a newline in a cache at most, and one before it where the last line has none
abbrev pub space_for : Option (List ℕ) → ℕ
space_for None = 0
space_for (Some id) = length id + 2

-- the room is empty, and large enough for a cache of so many bytes with these identifiers, and for a mark of each mail
pub record HasRoom (bytes : ℕ) (ids : List (Option (List ℕ))) (room : Room) : Type 0 where
  pub no_cache : room.known.bytes.items ≡ []
  pub no_marks : room.kept.items ≡ []
  pub cache : bytes + sum_by space_for ids ≤ vec_capacity room.known.bytes
  pub kept : length ids ≤ vec_capacity room.kept
