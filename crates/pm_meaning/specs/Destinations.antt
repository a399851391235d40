-- Destinations of mail: files, and folders by their ending.
use Rattle.std.specs.Prelude.{ℕ, Bool, not, ◌&&◌, ◌==◌, ◌-◌, List, Option, Some, None, codes, length, take, nat_eq, if◌then◌else◌}
use Rattle.std.specs.List.{list_all, ends_with}
use Rattle.pm_bytes.specs.Path.{full_name}
use Rattle.pm_journal.specs.declared.placing.FolderKind.{FolderKind}
use Rattle.pm_journal.specs.declared.placing.FolderKind.TheVariants.{Maildir, Mh}
use Rattle.pm_meaning.specs.Texts.{is_file_text}
use Rattle.pm_meaning.specs.declared.process.Destination.{Destination}

-- the kind of folder that a word's ending asks for: `/.` an MH folder, and `/` a maildir
abbrev pub folder_kind : List ℕ → Option FolderKind
folder_kind word =
    if ends_with nat_eq word (codes "/.") then Some Mh
    else if ends_with nat_eq word (codes "/") then Some Maildir
    else None

-- the word without that ending
abbrev pub without_ending : List ℕ → List ℕ
without_ending word =
    if ends_with nat_eq word (codes "/.") then take (length word - 2) word
    else if ends_with nat_eq word (codes "/") then take (length word - 1) word
    else word

-- what a word asks for
abbrev pub destination_of : List ℕ → Destination
destination_of word = record { kind = folder_kind word; name = without_ending word }

-- the destination as seen from where the run began
abbrev pub full_of : List ℕ → Destination → List ℕ
full_of base destination = full_name base destination.name

-- a recipe needs destinations, each of which can be the name of a file or a folder
abbrev pub are_file_texts : List (List ℕ) → Bool
are_file_texts words = not (length words == 0) && list_all (λ word. is_file_text (without_ending word)) words
