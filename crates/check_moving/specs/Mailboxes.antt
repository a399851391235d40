-- Forms of mailboxes (procmailrc(5), "Mailboxes").
use Rattle.std.specs.Prelude.{ℕ, Bool, false, not, ◌||◌, ◌&&◌, List, [], ◌∷◌, nat_eq, codes, Option, Some, None}
use Rattle.std.specs.List.{starts_with, ends_with}
use Rattle.std.specs.Str.{bytes_eq}
use Rattle.pm_recipe.specs.Colon.{flags_of, flags_part, lock_of}
use Rattle.check_moving.specs.Text.{has_part, without_quotes}
use Rattle.check_moving.specs.Words.{words_of}
use Rattle.check_moving.specs.declared.form.Form.{Form}
use Rattle.check_moving.specs.declared.form.Form.TheVariants.{Mailbox}
use Rattle.check_moving.specs.declared.form.MailboxForm.TheVariants as form

-- a maildir or an MH folder
abbrev pub is_folder : List ℕ → Bool
is_folder name = ends_with nat_eq (without_quotes name) (codes "/") || ends_with nat_eq (without_quotes name) (codes "/.")

-- a maildir
abbrev pub is_maildir : List ℕ → Bool
is_maildir name = ends_with nat_eq (without_quotes name) (codes "/") && not (ends_with nat_eq (without_quotes name) (codes "/./"))

-- the first word of a line
abbrev pub first_of : List (List ℕ) → List ℕ
first_of [] = []
first_of (word ∷ words) = word

-- the first word is no folder, and the second no comment
abbrev pub is_several : List (List ℕ) → Bool
is_several (one ∷ (other ∷ words)) = not (is_folder one) && not (starts_with nat_eq other (codes "#"))
is_several _ = false

-- a `#` in a name without quotes
abbrev pub has_hash : List ℕ → Bool
has_hash name = has_part (codes "#") name && not (has_part (codes "\"") name) && not (has_part (codes "'") name)

-- what a header says, without quotes
abbrev pub has_match : List ℕ → Bool
has_match text = (has_part (codes "$MATCH") text || has_part (codes "${MATCH") text) && not (has_part (codes "\"") text)

-- the first maildir
abbrev pub is_first_maildir : Bool → List ℕ → Bool
is_first_maildir told name = not told && is_maildir name

-- the mailbox itself
abbrev pub is_own_lock : Option (List ℕ) → List ℕ → Bool
is_own_lock None name = false
is_own_lock (Some lock) name = bytes_eq lock name && not (bytes_eq lock (codes ""))

-- a lock file without a name
abbrev pub is_automatic : Option (List ℕ) → Bool
is_automatic None = false
is_automatic (Some lock) = bytes_eq lock (codes "")

-- of a folder
abbrev pub is_folder_lock : Option (List ℕ) → List ℕ → Bool
is_folder_lock lock name = is_automatic lock && is_folder name

-- the forms of a mailbox by its words, with this flag r, this lock, and after a maildir or none
abbrev pub filed : Bool → Option (List ℕ) → Bool → List ℕ → List (List ℕ) → List (Bool × Form)
filed raw lock told text words =
    (is_several words, Mailbox form.Several)
    ∷ (has_hash (first_of words), Mailbox form.Hash)
    ∷ (has_match text, Mailbox form.MatchName)
    ∷ (is_first_maildir told (first_of words), Mailbox form.FromLine)
    ∷ (raw, Mailbox form.Raw)
    ∷ (is_own_lock lock text, Mailbox form.OwnLock)
    ∷ (is_folder_lock lock (first_of words), Mailbox form.FolderLock)
    ∷ []

-- under this colon line
abbrev pub filed_by : List ℕ → Bool → List ℕ → List (Bool × Form)
filed_by colon told text = filed (flags_of (flags_part colon)).raw (lock_of colon) told text (words_of text)
