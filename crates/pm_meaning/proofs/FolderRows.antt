-- Worked rows: what words ask for, and deliveries to folders.
use Rattle.std.proofs.Common.{◌≡◌, ◌+◌, ℕ, false, List, [], ◌∷◌, ◌++◌, Some, None, refl}
use Rattle.std.specs.Prelude.{codes, length, pos}
use Rattle.pm_bytes.specs.Path.{full_name}
use Rattle.pm_recipe.specs.declared.tree.Flags.{Flags}
use Rattle.pm_journal.specs.LogText.{quoted}
use Rattle.pm_journal.specs.Plan.{Plays}
use Rattle.pm_journal.specs.declared.acts.Act.{Act}
use Rattle.pm_journal.specs.declared.acts.Act.TheVariants.{Place, Moment}
use Rattle.pm_journal.specs.declared.acts.Counts.{Counts}
use Rattle.pm_journal.specs.declared.acts.Entry.{Entry}
use Rattle.pm_journal.specs.declared.acts.Reply.{Reply}
use Rattle.pm_journal.specs.declared.acts.Reply.TheVariants.{Placed, Undone, Now}
use Rattle.pm_journal.specs.declared.placing.FolderKind.TheVariants.{Maildir, Mh}
use Rattle.pm_meaning.specs.Changes.{counted, stored_in}
use Rattle.pm_meaning.specs.Delivering.{folder_piece, next_stamp, filed_lines, file_all}
use Rattle.pm_meaning.specs.Destinations.{folder_kind, without_ending, destination_of, are_file_texts}
use Rattle.pm_meaning.specs.Minds.{Mind}
use Rattle.pm_meaning.specs.declared.process.Filed.TheVariants.{Stored, Unwritten, Crowded}

mh_word : folder_kind (codes "inbox/.") ≡ Some Mh
mh_word = refl

mh_name : without_ending (codes "inbox/.") ≡ codes "inbox"
mh_name = refl

maildir_word : folder_kind (codes "md/") ≡ Some Maildir
maildir_word = refl

maildir_name : without_ending (codes "md/") ≡ codes "md"
maildir_name = refl

file_word : folder_kind (codes "mbox") ≡ None
file_word = refl

-- a point alone is no ending
point_word : folder_kind (codes ".") ≡ None
point_word = refl

-- nothing is left of an ending alone
no_name : are_file_texts (codes "/" ∷ []) ≡ false
no_name = refl

abbrev none : Counts
none = record { host = 0; out = 0; err = 0 }

abbrev entry : Act → Reply → Entry
entry act reply = record { act = act; reply = reply; before = none; after = none }

-- two folders in one recipe: each has a moment of its own and the next number, and the last file is remembered
two_folders : (flags : Flags) (p : Mind) (first second : List ℕ)
    → Plays (file_all flags (destination_of (codes "one/.") ∷ destination_of (codes "two/") ∷ []) p) (
    entry Moment (Now (pos 0))
    ∷ entry (Place Mh (full_name p.base (codes "one")) [] (folder_piece flags p) (record { moment = pos 0; pid = p.vars.marks.pid; serial = p.placed + 1; host_name = p.host_name })) (Placed first)
    ∷ entry Moment (Now (pos 7))
    ∷ entry (Place Maildir (full_name p.base (codes "two")) [] (folder_piece flags p) (record { moment = pos 7; pid = p.vars.marks.pid; serial = p.placed + 1 + 1; host_name = p.host_name })) (Placed second)
    ∷ []
    ) (record { filed = Stored; mind = stored_in second (length (folder_piece flags p)) (counted (stored_in first (length (folder_piece flags p)) (counted p))) })
two_folders flags p first second = (refl, tt, (refl, tt, (refl, tt, (refl, tt, refl))))

-- after a folder that doesn't get the mail the next one isn't tried; what was begun is counted
first_fails : (flags : Flags) (p : Mind)
    → Plays (file_all flags (destination_of (codes "one/.") ∷ destination_of (codes "two/") ∷ []) p) (
    entry Moment (Now (pos 0))
    ∷ entry (Place Mh (full_name p.base (codes "one")) [] (folder_piece flags p) (next_stamp p (pos 0))) Undone
    ∷ []
    ) (record { filed = Unwritten (full_name p.base (codes "one")); mind = counted p })
first_fails flags p = (refl, tt, (refl, tt, refl))

-- no name was free
crowded : (text name : List ℕ) → filed_lines text (Crowded name) ≡ (codes "procmail: No free name in \"" ++ quoted name ++ codes "\"\n") ∷ []
crowded text name = refl
