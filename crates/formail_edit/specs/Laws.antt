-- Laws of the edits, in the words of those who use them.
use Rattle.std.specs.Prelude.{◌≡◌, ℕ, Bool, false, List, [], ◌++◌, codes, bytes_eq, All}
use Rattle.std.specs.List.{list_any}
use Rattle.pm_message.specs.FromLine.{is_newline}
use Rattle.pm_message.specs.Field.{texts_of}
use Rattle.pm_message.specs.Lines.{lines}
use Rattle.formail_edit.specs.Step.{name_for, edited_fields}
use Rattle.formail_edit.specs.declared.edits.Edits.{Edits}
use Rattle.formail_edit.specs.declared.edits.Rename.{Rename}

-- a line of no bytes but its newline
abbrev pub is_empty_line : List ℕ → Bool
is_empty_line line = bytes_eq line (codes "\n")

-- some line of the text is empty
abbrev pub has_empty_line : List ℕ → Bool
has_empty_line text = list_any is_empty_line (lines text)

-- the new name of `-R` isn't empty where it is written, and is part of one line
pub record IsShown (rename : Rename) : Type 0 where
  pub some : name_for rename ≡ [] → ⊥
  pub line : list_any is_newline (name_for rename) ≡ false

-- the texts of `-R`, `-a`, `-A`, `-i` and `-I` bring no empty line
pub record AddNoEmptyLine (edits : Edits) : Type 0 where
  pub renames : All IsShown edits.renames
  pub puts : All (λ put. has_empty_line (put.text ++ codes "\n") ≡ false) edits.puts

-- then no field has an empty line after all edits, so that the header ends where it is said to end
abbrev pub HeadersStayWhole : Type 0
HeadersStayWhole = (edits : Edits) (head : List ℕ) → AddNoEmptyLine edits
    → All (λ text. has_empty_line text ≡ false) (edited_fields edits (texts_of head))
