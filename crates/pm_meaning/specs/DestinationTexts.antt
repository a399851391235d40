-- Words as destinations, and how names in a folder begin.
use Rattle.std.specs.Prelude.{◌≡◌, ℕ, true, false, List, Option, Some, None, Vec, map, if◌then◌else◌}
use Rattle.std.specs.Global.{Global}
use Rattle.pm_bytes.specs.Name.{is_usable}
use Rattle.pm_meaning.specs.Texts.{is_file_text}
use Rattle.pm_meaning.specs.Destinations.{without_ending, destination_of, are_file_texts}
use Rattle.pm_meaning.specs.declared.process.Destination.{Destination}

-- what a word asks for, where its name can be used
abbrev pub usable_destination : List ℕ → Option Destination
usable_destination word = if is_file_text (without_ending word) then Some (destination_of word) else None

-- the words as destinations, or that they aren't usable
abbrev pub AreDestinations : List (List ℕ) → Option (Vec Destination Global) → Type 0
AreDestinations words None = are_file_texts words ≡ false
AreDestinations words (Some all) = (are_file_texts words ≡ true) × (all.items ≡ map destination_of words)

-- the text where names can begin with it
abbrev pub prefix_of : List ℕ → Option (List ℕ)
prefix_of text = if is_usable text then Some text else None
