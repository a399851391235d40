-- What formail writes of some mails, and what is cut out of that again.
use Rattle.std.specs.Prelude.{◌≡◌, ℕ, ℤ, false, nat_eq, List, [], ◌++◌, map, codes}
use Rattle.std.specs.List.{starts_with, concat, list_any}
use Rattle.pm_message.specs.FromLine.{is_newline}
use Rattle.formail_edit.specs.Laws.{AddNoEmptyLine}
use Rattle.formail_edit.specs.declared.edits.Edits.{Edits}
use Rattle.formail_split.specs.Children.{edited_at}
use Rattle.formail_split.specs.Mailboxes.{IsBetween, StandsAlone}
use Rattle.formail_split.specs.Parts.{parts_of}

-- the text of `-p` hides a line `From `: it isn't empty, is part of one line, and doesn't begin so itself
pub record HidesLines (prefix : List ℕ) : Type 0 where
  pub some : prefix ≡ [] → ⊥
  pub one_line : list_any is_newline prefix ≡ false
  pub other : starts_with nat_eq prefix (codes "From ") ≡ false

-- these edits write whole mails: `-x`, `-X`, `-f` and `-b` don't stand, the text of `-p` hides lines, and the texts of
-- `-R`, `-a`, `-A`, `-i` and `-I` bring no empty line
pub record WriteMails (edits : Edits) : Type 0 where
  pub no_takes : edits.takes ≡ []
  pub from_line : edits.keep_from ≡ false
  pub escaped : edits.keep_body ≡ false
  pub prefix : HidesLines edits.prefix
  pub texts : AddNoEmptyLine edits

-- some mails, each of them after the edits
abbrev pub all_edited : ℤ → Edits → List (List ℕ) → List (List ℕ)
all_edited moment edits mails = map (edited_at moment edits) mails

-- what such edits write of a text stands alone in a mailbox, whatever the text is
abbrev pub EditedStandAlone : Type 0
EditedStandAlone = (edits : Edits) (moment : ℤ) (mail : List ℕ) → WriteMails edits → StandsAlone (edited_at moment edits mail)

-- what they write of several ones, also behind other mails, is cut into just what they wrote of each, in order
abbrev pub EditedAreMails : Type 0
EditedAreMails = (edits : Edits) (moment : ℤ) (box : List ℕ) (mails : List (List ℕ)) → WriteMails edits → IsBetween box
    → parts_of (box ++ concat (all_edited moment edits mails)) ≡ parts_of box ++ all_edited moment edits mails
