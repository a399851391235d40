-- Destinations with all that is wanted for them.
use Rattle.std.specs.Prelude.{◌≡◌, ℕ, false, List, [], ◌∷◌, Option, Some, None, codes, if◌then◌else◌}
use Rattle.pm_bytes.specs.Path.{full_name}
use Rattle.pm_journal.specs.Held.{holds_name}
use Rattle.pm_journal.specs.Plan.{Plan}
use Rattle.pm_journal.specs.declared.placing.FolderKind.{FolderKind}
use Rattle.pm_meaning.specs.Delivering.{Attempted, Filing, mailbox_piece, folder_piece, file_size, to_file, in_folder}
use Rattle.pm_meaning.specs.Locks.{is_nothing}
use Rattle.pm_meaning.specs.Minds.{Mind}
use Rattle.pm_meaning.specs.declared.process.Attempt.{Attempt}
use Rattle.pm_meaning.specs.declared.process.Destination.{Destination}
use Rattle.pm_meaning.specs.declared.process.Filed.{Filed}
use Rattle.pm_recipe.specs.declared.tree.Flags.{Flags}
use Rattle.pm_vars.specs.Variables.{with_value}
use Rattle.pm_perform.specs.declared.filing.Copy.{Copy}
use Rattle.pm_perform.specs.declared.filing.Copy.TheVariants.{ToFile, ToFolder}
use Rattle.pm_perform.specs.declared.filing.FileCopy.{FileCopy}
use Rattle.pm_perform.specs.declared.kept.Kept.{Kept}
use Rattle.pm_perform.specs.declared.placing.FolderCopy.{FolderCopy}

-- what a process remembers once so many bytes of the mail are at this destination
abbrev pub remembered : List ℕ → ℕ → Kept
remembered word size = record { last_folder = word; stored = record { folder = word; size = size } }

-- what a file of this name gets: to `/dev/null` nothing is written
abbrev pub file_piece : List ℕ → Flags → Mind → List ℕ
file_piece name flags p = if is_nothing name then [] else mailbox_piece flags p

-- a file with its name, its piece, and what the process remembers once it has the mail
abbrev pub file_copy_for : Flags → Mind → List ℕ → FileCopy
file_copy_for flags p name = record {
  name = full_name p.base name;
  shown = full_name p.base name;
  piece = file_piece (full_name p.base name) flags p;
  kept = remembered name (file_size (full_name p.base name) flags p);
}

-- a folder with its name and its piece; no name in it begins in a way of its own
abbrev pub folder_copy_for : FolderKind → Flags → Mind → List ℕ → FolderCopy
folder_copy_for kind flags p name = record {
  kind = kind;
  folder = full_name p.base name;
  shown = full_name p.base name;
  prefix = [];
  piece = folder_piece flags p;
}

-- one destination with all that is wanted for it
abbrev pub copy_as : Option FolderKind → Flags → Mind → List ℕ → Copy
copy_as None flags p name = ToFile (file_copy_for flags p name)
copy_as (Some kind) flags p name = ToFolder (folder_copy_for kind flags p name)

-- the copy for a destination
abbrev pub copy_for : Flags → Mind → Destination → Copy
copy_for flags p destination = copy_as destination.kind flags p destination.name

-- what came of destinations, with the process then
abbrev pub filing_of : Filed → Mind → Filing
filing_of filed p = record { filed = filed; mind = p }

-- what came of an attempt, with the process then
abbrev pub attempted_of : Attempt → Mind → Attempted
attempted_of attempt p = record { attempt = attempt; mind = p }

-- a lock that is asked for isn't held yet
abbrev pub IsFreeLock : Option (List ℕ) → List (List ℕ) → Type 0
IsFreeLock None names = Unit {0}
IsFreeLock (Some name) names = holds_name names name ≡ false

-- the process that remembers so
abbrev pub with_kept : Kept → Mind → Mind
with_kept kept p = record p {
  vars = record p.vars { variables = with_value (codes "LASTFOLDER") kept.last_folder p.vars.variables };
  stored = kept.stored;
}

-- the copy goes to its destination
abbrev pub file_copy : Flags → Copy → Mind → Plan Filing
file_copy flags (ToFile copy) p = to_file flags copy.name copy.piece (with_kept copy.kept p) p
file_copy flags (ToFolder copy) p = in_folder copy.kind copy.folder copy.prefix copy.piece p

-- the name for the line is that of the file or the folder
abbrev pub IsShown : Copy → Type 0
IsShown (ToFile copy) = copy.shown ≡ copy.name
IsShown (ToFolder copy) = copy.shown ≡ copy.folder

-- each of these is
abbrev pub AllShown : List Copy → Type 0
AllShown [] = Unit {0}
AllShown (copy ∷ copies) = IsShown copy × AllShown copies
