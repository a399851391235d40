-- What each edit does to a list of fields, in a sentence: it keeps the order, and every field that its name doesn't mean.
use Rattle.std.specs.Prelude.{◌≡◌, ℕ, Bool, true, false, not, List, [], ◌∷◌, ◌++◌, map, drop, length, codes, bytes_eq, if◌then◌else◌}
use Rattle.std.specs.List.{filter, list_all, list_any}
use Rattle.pm_bytes.specs.Letter.{is_blank_byte, is_space_byte}
use Rattle.pm_message.specs.Field.{begins_with_blank}
use Rattle.pm_message.specs.FromLine.{is_newline}
use Rattle.pm_message.specs.declared.head_fields.FieldKind.{FieldKind}
use Rattle.pm_message.specs.declared.head_fields.FieldKind.TheVariants.{Named}
use Rattle.formail_edit.specs.Keyed.{Keyed, keyed, name_in, content_in, means, means_any, each}
use Rattle.formail_edit.specs.Step.{name_for, put_one, put_name, put_content, renamed, first_only, last_only, texts_in, zapped_field, joined}
use Rattle.formail_edit.specs.declared.edits.Put.{Put}
use Rattle.formail_edit.specs.declared.edits.PutKind.{PutKind}
use Rattle.formail_edit.specs.declared.edits.PutKind.TheVariants.{Old, Replace, IfNone, Always}
use Rattle.formail_edit.specs.declared.edits.Rename.{Rename}

-- the fields that a name doesn't mean
abbrev pub others : List ℕ → List Keyed → List Keyed
others name fields = filter (λ field. not (means name field)) fields

-- a text in place of each field that the name means
abbrev pub with_meant : (Keyed → List ℕ) → List ℕ → List Keyed → List (List ℕ)
with_meant text name fields = map (λ field. if means name field then text field else field.text) fields

-- the field of this text, unless nothing stands after its colon
abbrev pub new_field : List ℕ → List (List ℕ)
new_field text = if bytes_eq (put_content text) [] then [] else (text ++ codes "\n") ∷ []

-- an edit of new fields
abbrev pub put : PutKind → List ℕ → Put
put kind text = record { kind = kind; text = text }

-- What `-A`, `-a`, `-I`, `-i` and `-R` make of all fields.
pub record FieldsInWords (texts : List (List ℕ)) : Type 0 where
  -- `-A` adds a last field
  pub added : (text : List ℕ) → put_one (put Always text) texts ≡ texts ++ new_field text
  -- `-a` does so where its name means none, and else changes nothing
  pub added_if_none : (text : List ℕ) → means_any (put_name text) texts ≡ false
      → put_one (put IfNone text) texts ≡ texts ++ new_field text
  pub left_if_some : (text : List ℕ) → means_any (put_name text) texts ≡ true → put_one (put IfNone text) texts ≡ texts
  -- `-I` takes out those that its name means before it adds one, and `-i` puts `Old-` before each of them
  pub replaced : (text : List ℕ)
      → put_one (put Replace text) texts ≡ texts_in (others (put_name text) (keyed true texts)) ++ new_field text
  pub put_aside : (text : List ℕ) → put_one (put Old text) texts
      ≡ with_meant (λ field. codes "Old-" ++ field.text) (put_name text) (keyed true texts) ++ new_field text
  -- `-R` puts the new name in the place of the old one
  pub named_anew : (rename : Rename) → renamed (rename ∷ []) texts
      ≡ with_meant (λ field. name_for rename ++ drop (length rename.old) field.text) rename.old (keyed true texts)

-- none of these fields is meant
abbrev pub NoneMeant : List ℕ → List Keyed → Type 0
NoneMeant name fields = list_any (means name) fields ≡ false

-- What `-u` and `-U` leave of fields.
pub record UniquesInWords (name : List ℕ) (before after : List Keyed) (field : Keyed) : Type 0 where
  -- `-u` keeps the first that is meant, and of the fields after it those that aren't
  pub first : NoneMeant name before → means name field ≡ true
      → first_only name false (before ++ field ∷ after) ≡ before ++ field ∷ others name after
  -- `-U` keeps the last that is meant, and of the fields before it those that aren't
  pub last : NoneMeant name after → means name field ≡ true
      → last_only name (before ++ field ∷ after) ≡ others name before ++ field ∷ after
  -- where none is meant all stay
  pub no_first : NoneMeant name after → first_only name false after ≡ after
  pub no_last : NoneMeant name after → last_only name after ≡ after

-- a field of this kind has a name, and this holds of its content
abbrev pub is_named_with : (List ℕ → Bool) → FieldKind → List ℕ → Bool
is_named_with has Named content = has content
is_named_with has kind content = false

-- a field with a name, and nothing but blanks and newlines after it
abbrev pub is_empty_field : Keyed → Bool
is_empty_field field = is_named_with (list_all is_space_byte) field.key.kind (content_in field)

-- one whose content doesn't begin with a blank
abbrev pub lacks_blank : Keyed → Bool
lacks_blank field = is_named_with (λ content. not (begins_with_blank content)) field.key.kind (content_in field)

-- the text of a field, with a blank after the name of one that has none there
abbrev pub with_blank : Keyed → List ℕ
with_blank field = if lacks_blank field then name_in field ++ (codes " " ++ content_in field) else field.text

-- no newline is in a text
abbrev pub IsOneLine : List ℕ → Type 0
IsOneLine line = list_any is_newline line ≡ false

-- What `-z` and `-c` make of fields.
pub record FormsInWords : Type 0 where
  -- `-z` takes out the fields without content, and puts a blank after each name that has none
  pub zapped : (texts : List (List ℕ))
      → each zapped_field texts ≡ map with_blank (filter (λ field. not (is_empty_field field)) (keyed true texts))
  -- `-c` makes one line of a line and the next one, if that begins with a blank: a space takes the place of the newline
  -- and the blank
  pub unfolded : (line rest : List ℕ) (blank : ℕ) → IsOneLine line → is_blank_byte blank ≡ true
      → joined (line ++ codes "\n" ++ blank ∷ rest) ≡ line ++ codes " " ++ joined rest
  -- a last line, or an only one, stays as it is
  pub last_line : (line : List ℕ) → IsOneLine line → joined (line ++ codes "\n") ≡ line ++ codes "\n"

-- each of these edits does what its letter says
pub record EditsInWords : Type 0 where
  pub fields : (texts : List (List ℕ)) → FieldsInWords texts
  pub uniques : (name : List ℕ) (before after : List Keyed) (field : Keyed) → UniquesInWords name before after field
  pub forms : FormsInWords
