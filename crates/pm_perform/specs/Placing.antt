-- What came of a filing in a folder, by its end and the name of its file.
use Rattle.std.specs.Prelude.{◌≡◌, ℕ, true, List, [], Option, is_some}
use Rattle.pm_journal.specs.declared.placing.FolderEnd.{FolderEnd}
use Rattle.pm_journal.specs.declared.placing.FolderEnd.TheVariants.{Placed, Undone, Torn, NamesOut}
use Rattle.pm_meaning.specs.Changes.{stored_in}
use Rattle.pm_meaning.specs.Delivering.{Filing}
use Rattle.pm_meaning.specs.Locks.{text_or}
use Rattle.pm_meaning.specs.Minds.{Mind}
use Rattle.pm_meaning.specs.declared.process.Filed.TheVariants.{Stored, Unwritten, Left, Crowded}
use Rattle.pm_perform.specs.Copies.{filing_of}

-- a file that was placed, or in which bytes are left, has a name
abbrev pub HasFile : FolderEnd → Option (List ℕ) → Type 0
HasFile Placed file = is_some file ≡ true
HasFile (Torn count) file = is_some file ≡ true
HasFile other file = Unit {0}

-- what came of a filing of so many bytes in this folder
abbrev pub placed_as : FolderEnd → Option (List ℕ) → List ℕ → ℕ → Mind → Filing
placed_as Placed file folder size p = filing_of Stored (stored_in (text_or [] file) size p)
placed_as Undone file folder size p = filing_of (Unwritten folder) p
placed_as (Torn count) file folder size p = filing_of (Left (text_or [] file) count) p
placed_as NamesOut file folder size p = filing_of (Crowded folder) p
