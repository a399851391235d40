-- The variables of an environment, by its entries.
use Rattle.std.specs.Prelude.{ℕ, ◌≡◌, ◌≤◌, ◌==◌, ◌&&◌, List, [], ◌∷◌, length, take, filter_map, slice_get, Option, Some, None, Result, Ok, Err, if◌then◌else◌}
use Rattle.std.specs.Io.{WritesAtMost}
use Rattle.std.specs.declared.env.FillError.{FillError}
use Rattle.std.specs.declared.env.FillError.TheVariants.{NotPresent, TooLong}
use Rattle.pm_bytes.specs.Name.{is_usable}
use Rattle.pm_bytes.specs.declared.environment.Pair.{Pair}

-- so many bytes of the room, if there is such a number
abbrev pub front_if : Option ℕ → List ℕ → Option (List ℕ)
front_if None room = None
front_if (Some count) room = Some (take count room)

-- the answer is the entry of this index, which was copied to the front of the room; that there is none; or that the
-- room is too small for it
abbrev pub IsEntryAt : Option (List (List ℕ)) → ℕ → Result ℕ FillError → List ℕ → Type 0
IsEntryAt None index answer room = WritesAtMost answer room
IsEntryAt (Some entries) index (Ok count) room = (count ≤ length room) × (slice_get entries index ≡ Some (take count room))
IsEntryAt (Some entries) index (Err NotPresent) room = slice_get entries index ≡ None
IsEntryAt (Some entries) index (Err TooLong) room = Unit {0}

-- what stands before the first such byte, and what follows it
abbrev pub with_first : ℕ → Option (List ℕ × List ℕ) → Option (List ℕ × List ℕ)
with_first byte None = None
with_first byte (Some cut) = Some (byte ∷ cut.0, cut.1)

abbrev pub cut_at : ℕ → List ℕ → Option (List ℕ × List ℕ)
cut_at sign [] = None
cut_at sign (byte ∷ more) = if byte == sign then Some ([], more) else with_first byte (cut_at sign more)

-- a name and its value, if each can be a `Name`
abbrev pub usable_pair : Option (List ℕ × List ℕ) → Option Pair
usable_pair None = None
usable_pair (Some cut) = if is_usable cut.0 && is_usable cut.1 then Some (record { name = cut.0; value = cut.1 }) else None

-- the variable of an entry: its name stands before the first equals sign, its value after it
abbrev pub pair_of : List ℕ → Option Pair
pair_of entry = usable_pair (cut_at 61 entry)

-- those of all entries, in order
abbrev pub pairs_of : List (List ℕ) → List Pair
pairs_of entries = filter_map pair_of entries
