-- What an abstract says, in parts.
use Rattle.std.specs.Prelude.{ℕ, ◌++◌, List}
use Rattle.pm_message.specs.Field.{texts_of}
use Rattle.pm_meaning.specs.Abstracts.{from_part, subject_part}

-- what it says of the mail itself, by its head
abbrev pub mail_part : List ℕ → List ℕ
mail_part head = from_part head ++ subject_part (texts_of head)
