-- What came of an append, by its reply; and where memory can be wanting.
use Rattle.std.specs.Prelude.{◌≡◌, ℕ, Bool, true, false, List, [], ◌++◌}
use Rattle.std.specs.List.{list_any}
use Rattle.pm_journal.specs.JournalState.{JournalState}
use Rattle.pm_journal.specs.declared.acts.Act.{Act}
use Rattle.pm_journal.specs.declared.acts.Act.TheVariants.{Append, Moment}
use Rattle.pm_journal.specs.declared.acts.Entry.{Entry}
use Rattle.pm_journal.specs.declared.acts.Reply.{Reply}
use Rattle.pm_journal.specs.declared.acts.Reply.TheVariants.{Done, IsFolder, Raced as RacedReply, Torn}
use Rattle.pm_meaning.specs.Minds.{Mind}
use Rattle.pm_meaning.specs.declared.process.Filed.{Filed}
use Rattle.pm_meaning.specs.declared.process.Filed.TheVariants.{Stored, Unwritten, Raced, Left}
use Rattle.pm_perform.specs.Copies.{with_kept}
use Rattle.pm_perform.specs.declared.kept.Kept.{Kept}

-- a folder stands at the name
abbrev pub is_folder_there : Reply → Bool
is_folder_there IsFolder = true
is_folder_there other = false

-- an append found a folder, or the moment was asked for the name of a file in one
abbrev pub is_folder_met : Act → Reply → Bool
is_folder_met (Append name piece) reply = is_folder_there reply
is_folder_met Moment reply = true
is_folder_met other reply = false

-- one of these entries met a folder
abbrev pub met_folder : List Entry → Bool
met_folder entries = list_any (λ e. is_folder_met e.act e.reply) entries

-- where no new entry met a folder, there were none
abbrev pub HasNone : JournalState → JournalState → Type 0
HasNone old new = (more : List Entry) → new.entries ≡ old.entries ++ more → met_folder more ≡ false → more ≡ []

-- a new entry met a folder
abbrev pub HasMet : JournalState → JournalState → Type 0
HasMet old new = (more : List Entry) → new.entries ≡ old.entries ++ more → met_folder more ≡ true

-- what came of an append to this file, unless a folder stands there
abbrev pub filed_by : List ℕ → Reply → Filed
filed_by name Done = Stored
filed_by name RacedReply = Raced name
filed_by name (Torn count) = Left name count
filed_by name other = Unwritten name

-- a destination that has the mail is remembered
abbrev pub mind_after : Filed → Kept → Mind → Mind
mind_after Stored kept p = with_kept kept p
mind_after other kept p = p
