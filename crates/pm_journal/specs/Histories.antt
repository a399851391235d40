-- The entries of a history.
use Rattle.std.specs.Prelude.{List, [], ◌∷◌, ◌++◌}
use Rattle.pm_journal.specs.declared.acts.Entry.{Entry}
use Rattle.pm_journal.specs.declared.history.Noted.{Noted, Noted-F, fold-Noted}
use Rattle.pm_journal.specs.declared.history.Noted.TheOpen.{Nothing, Then}
use Rattle.pm_journal.specs.declared.history.Noting.{Noting-F}

-- none, or those of the last noting
abbrev pub noted_entries : Noted-F (List Entry) (List Entry) → List Entry
noted_entries Nothing = []
noted_entries (Then last) = last.value

-- those before it, and then its own
abbrev pub noting_entries : Noting-F (List Entry) (List Entry) → List Entry
noting_entries noting = noting.before ++ noting.entry ∷ []

-- the entries that were noted, the first one first
abbrev pub entries_of : Noted → List Entry
entries_of noted = fold-Noted (List Entry) (List Entry) noted_entries noting_entries noted
