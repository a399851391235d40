-- What a reply says of a program that was run, of a piece that was filed or of a file that was to be read, without the bytes that it
-- carries.
use Rattle.std.specs.Prelude.{ℕ, Bool, true, false, List, [], ◌∷◌, Option, Some, None}
use Rattle.pm_journal.specs.declared.acts.Reply.{Reply}
use Rattle.pm_journal.specs.declared.acts.Reply.TheVariants.{Ended, NotStarted, TooLong, Placed, TornAt, NamesOut, Missing}
use Rattle.pm_journal.specs.declared.acts.Entry.{Entry}
use Rattle.pm_journal.specs.declared.children.RunEnd.{RunEnd}
use Rattle.pm_journal.specs.declared.children.RunEnd.TheVariants.{Ended as RunEnded, NotStarted as RunNotStarted, Broken as RunBroken, TooLong as RunTooLong}
use Rattle.pm_journal.specs.declared.placing.FolderEnd.{FolderEnd}
use Rattle.pm_journal.specs.declared.placing.FolderEnd.TheVariants.{Placed as FolderPlaced, Undone as FolderUndone, Torn as FolderTorn, NamesOut as FolderNamesOut}

-- how the run of a program ended
abbrev pub run_end : Reply → RunEnd
run_end (Ended code took output) = RunEnded code took
run_end NotStarted = RunNotStarted
run_end (TooLong count) = RunTooLong
run_end other = RunBroken

-- the output of a program that ended
abbrev pub output_in : Reply → Option (List ℕ)
output_in (Ended code took output) = Some output
output_in other = None

-- how the filing of a piece in a folder ended
abbrev pub folder_end : Reply → FolderEnd
folder_end (Placed name) = FolderPlaced
folder_end (TornAt name taken) = FolderTorn taken
folder_end NamesOut = FolderNamesOut
folder_end other = FolderUndone

-- the name of the file that was placed, or in which the front of a piece is left
abbrev pub file_in : Reply → Option (List ℕ)
file_in (Placed name) = Some name
file_in (TornAt name taken) = Some name
file_in other = None

-- the reply of the last entry
abbrev pub last_reply : List Entry → Option Reply
last_reply [] = None
last_reply (e ∷ []) = Some e.reply
last_reply (e ∷ (f ∷ fs)) = last_reply (f ∷ fs)

-- the output of the program whose run is the last entry
abbrev pub last_output : List Entry → Option (List ℕ)
last_output [] = None
last_output (e ∷ []) = output_in e.reply
last_output (e ∷ (f ∷ fs)) = last_output (f ∷ fs)

-- the file of the delivery to a folder that is the last entry
abbrev pub last_file : List Entry → Option (List ℕ)
last_file [] = None
last_file (e ∷ []) = file_in e.reply
last_file (e ∷ (f ∷ fs)) = last_file (f ∷ fs)

-- nothing stood at the name that was read
abbrev pub is_missing : Reply → Bool
is_missing Missing = true
is_missing other = false

-- the last entry is of a file that was to be read, and wasn't there
abbrev pub last_missing : List Entry → Bool
last_missing [] = false
last_missing (e ∷ []) = is_missing e.reply
last_missing (e ∷ (f ∷ fs)) = last_missing (f ∷ fs)
