-- What is printed of the mails of a mailbox.
use Rattle.std.specs.Prelude.{ℕ, ◌-◌, Bool, true, ◌==◌, not, cond, List, [], ◌∷◌, ◌++◌, take, length, flat_map, count_by, Option, Some, None, codes, decimal, if◌then◌else◌}
use Rattle.pm_journal.specs.LogText.{quoted}
use Rattle.test_text.specs.Told.{told}
use Rattle.explain_mails.specs.Compared.{goes_elsewhere}
use Rattle.explain_mails.specs.Subjects.{subject_shown, in_columns}
use Rattle.explain_mails.specs.Went.{Went}
use Rattle.explain_mails.specs.declared.outcome.Compared.{Compared}

-- a number at the right of six columns
unfoldable pub right : ℕ → List ℕ
right number = take (6 - length (decimal number)) (codes "      ") ++ decimal number

-- the number of a mail and its subject
abbrev pub mail_front : ℕ → Option (List ℕ) → List ℕ
mail_front number subject = right number ++ codes "  " ++ in_columns (subject_shown subject) ++ codes "  "

-- where a mail goes, and the status if it is wanted
abbrev pub goes_to : Bool → Went → List ℕ
goes_to wants_status outcome = quoted (told outcome.names (cond wants_status (Some outcome.status) None))

-- the line of a mail
abbrev pub mail_line : ℕ → Option (List ℕ) → Went → List ℕ
mail_line number subject outcome = mail_front number subject ++ goes_to true outcome ++ codes "\n"

-- the line before the steps of a mail
abbrev pub mail_heading : ℕ → Option (List ℕ) → List ℕ
mail_heading number subject = codes "mail " ++ decimal number ++ codes ": " ++ subject_shown subject ++ codes "\n"

-- the statuses differ
abbrev pub ends_otherwise : Compared → Bool
ends_otherwise mail = not (mail.old.status == mail.new.status)

-- the line of a mail that goes elsewhere; statuses are told where they differ
abbrev pub move_line : Compared → List ℕ
move_line mail =
    mail_front mail.number mail.subject ++ goes_to (ends_otherwise mail) mail.old ++ codes " -> " ++ goes_to (ends_otherwise mail) mail.new ++ codes "\n"

-- the line of a mail, where it goes elsewhere
abbrev pub listed : Compared → List ℕ
listed mail = if goes_elsewhere mail then move_line mail else []

-- one goes, several go
abbrev pub going : ℕ → List ℕ
going moved = cond (moved == 1) (codes " mails goes elsewhere") (codes " mails go elsewhere")

-- how many mails of how many go elsewhere
abbrev pub count_told : ℕ → ℕ → List ℕ
count_told moved all = decimal moved ++ codes " of " ++ decimal all ++ going moved

-- what comes after that: their lines, unless the number alone is wanted
abbrev pub moves_told : Bool → List ℕ → List ℕ
moves_told quiet [] = codes ".\n"
moves_told quiet (byte ∷ lines) = if quiet then codes ".\n" else codes ":\n" ++ byte ∷ lines

-- what is printed of the mails of two rcfiles
abbrev pub comparison : Bool → List Compared → List ℕ
comparison quiet mails = count_told (count_by goes_elsewhere mails) (length mails) ++ moves_told quiet (flat_map listed mails)
