-- What stands behind the arrow of a test: destinations, and an exit status.
use Rattle.std.specs.Prelude.{ℕ, List, [], ◌∷◌, map, Option, Some, None, codes, nat_le, bytes_eq, if◌then◌else◌}
use Rattle.pm_bytes.specs.Number.{count_of}
use Rattle.test_text.specs.Cuts.{trimmed, after_word, pieces_at}
use Rattle.test_text.specs.declared.expected.Part.{Part}
use Rattle.test_text.specs.declared.expected.Part.TheVariants.{Blank, Status, NoStatus, Destination}
use Rattle.test_text.specs.declared.statement.Reason.{Reason}
use Rattle.test_text.specs.declared.statement.Reason.TheVariants as reason

-- a status is at most 255
abbrev pub status_part : Option ℕ → Part
status_part None = NoStatus
status_part (Some status) = if nat_le status 255 then Status status else NoStatus

-- what isn't behind the word is a destination
abbrev pub destination_or : List ℕ → Option (List ℕ) → Part
destination_or text None = Destination text
destination_or text (Some number) = status_part (count_of number)

abbrev pub part_of : List ℕ → Part
part_of text = if bytes_eq text [] then Blank else destination_or text (after_word (codes "status") text)

-- the parts between commas
abbrev pub parts_of : List ℕ → List Part
parts_of text = map (λ piece. part_of (trimmed piece)) (pieces_at (codes ",") text)

-- the destinations among them, in order
abbrev pub wanted_in : List Part → List (List ℕ)
wanted_in [] = []
wanted_in (Destination name ∷ parts) = name ∷ wanted_in parts
wanted_in (Blank ∷ parts) = wanted_in parts
wanted_in (Status status ∷ parts) = wanted_in parts
wanted_in (NoStatus ∷ parts) = wanted_in parts

-- the first status among them
abbrev pub status_in : List Part → Option ℕ
status_in [] = None
status_in (Status status ∷ parts) = Some status
status_in (Blank ∷ parts) = status_in parts
status_in (Destination name ∷ parts) = status_in parts
status_in (NoStatus ∷ parts) = status_in parts

-- why they aren't understood: the first reason
abbrev pub fault_in : List Part → Option Reason
fault_in [] = None
fault_in (Blank ∷ parts) = Some reason.NoDestination
fault_in (NoStatus ∷ parts) = Some reason.NoStatus
fault_in (Status status ∷ parts) = fault_in parts
fault_in (Destination name ∷ parts) = fault_in parts
