-- The edits of fields, in the order of formail(1).
use Rattle.std.specs.Prelude.{ℕ, Bool, true, false, ◌==◌, ◌&&◌, ◌||◌, ◌+◌, ◌-◌, not, nat_eq, List, [], ◌∷◌, ◌++◌, map, take, drop, length, bytes_eq, codes, if◌then◌else◌}
use Rattle.std.specs.List.{starts_with, ends_with, position_or_len, after_first, list_all, list_any}
use Rattle.pm_bytes.specs.Letter.{is_blank_byte, is_space_byte}
use Rattle.pm_message.specs.Field.{begins_with_blank}
use Rattle.pm_message.specs.declared.head_fields.FieldKind.{FieldKind}
use Rattle.pm_message.specs.declared.head_fields.FieldKind.TheVariants.{FromLine, Named, Other}
use Rattle.formail_edit.specs.Keyed.{Keyed, keyed, content_in, name_in, means, each, means_any}
use Rattle.formail_edit.specs.declared.edits.Rename.{Rename}
use Rattle.formail_edit.specs.declared.edits.Put.{Put}
use Rattle.formail_edit.specs.declared.edits.PutKind.{PutKind}
use Rattle.formail_edit.specs.declared.edits.PutKind.TheVariants.{Old, Replace, IfNone, Always}
use Rattle.formail_edit.specs.declared.edits.Unique.{Unique}
use Rattle.formail_edit.specs.declared.edits.Edits.{Edits}

-- a colon
abbrev pub is_colon : ℕ → Bool
is_colon byte = byte == 58

-- whether a name ends with its colon
abbrev pub has_colon : List ℕ → Bool
has_colon text = ends_with nat_eq text (codes ":")

-- the new name ends with a colon just where the old one does
abbrev pub name_for : Rename → List ℕ
name_for rename =
    if has_colon rename.old then (if has_colon rename.new then rename.new else rename.new ++ codes ":")
    else (if has_colon rename.new then take (length rename.new - 1) rename.new else rename.new)

-- `-R`: the bytes of the old name become the new one
abbrev pub renamed_field : Rename → Keyed → List (List ℕ)
renamed_field rename field =
    (if means rename.old field then name_for rename ++ drop (length rename.old) field.text else field.text) ∷ []

-- the fields after all renamings, in their order
abbrev pub renamed : List Rename → List (List ℕ) → List (List ℕ)
renamed [] texts = texts
renamed (rename ∷ renames) texts = renamed renames (each (renamed_field rename) texts)

-- the name of a new field with its colon, or a bare name
abbrev pub put_name : List ℕ → List ℕ
put_name text = take (position_or_len is_colon text + 1) text

-- what follows the colon
abbrev pub put_content : List ℕ → List ℕ
put_content text = after_first is_colon text

-- what `-i`, `-I`, `-a` and `-A` make of a field with that name
abbrev pub put_aside : PutKind → List ℕ → Keyed → List (List ℕ)
put_aside Old name field = (if means name field then codes "Old-" ++ field.text else field.text) ∷ []
put_aside Replace name field = if means name field then [] else field.text ∷ []
put_aside IfNone name field = field.text ∷ []
put_aside Always name field = field.text ∷ []

-- the new field is wanted: it has content, and for `-a` there is none with its name
abbrev pub is_added : PutKind → List ℕ → List (List ℕ) → Bool
is_added IfNone text texts = not (bytes_eq (put_content text) []) && not (means_any (put_name text) texts)
is_added kind text texts = not (bytes_eq (put_content text) [])

-- the fields that are there are put aside, and the new one becomes the last
abbrev pub put_one : Put → List (List ℕ) → List (List ℕ)
put_one put texts =
    each (put_aside put.kind (put_name put.text)) texts
    ++ (if is_added put.kind put.text texts then (put.text ++ codes "\n") ∷ [] else [])

-- the fields after all new ones, in their order
abbrev pub with_puts : List Put → List (List ℕ) → List (List ℕ)
with_puts [] texts = texts
with_puts (put ∷ puts) texts = with_puts puts (put_one put texts)

-- `-u`: a field that the name means goes where one came before it
abbrev pub first_only : List ℕ → Bool → List Keyed → List Keyed
first_only name came [] = []
first_only name came (field ∷ fields) =
    if means name field && came then first_only name came fields
    else field ∷ first_only name (means name field || came) fields

-- `-U`: a field that the name means goes where one comes after it
abbrev pub last_only : List ℕ → List Keyed → List Keyed
last_only name [] = []
last_only name (field ∷ fields) =
    if means name field && list_any (means name) fields then last_only name fields
    else field ∷ last_only name fields

-- the first or the last of the fields that the name means stays
abbrev pub unique_of : Unique → List Keyed → List Keyed
unique_of unique fields = if unique.last then last_only unique.name fields else first_only unique.name false fields

-- the texts of fields
abbrev pub texts_in : List Keyed → List (List ℕ)
texts_in fields = map (λ field. field.text) fields

-- the fields that are left after `-u` and `-U` of each name, in their order
abbrev pub with_uniques : List Unique → List (List ℕ) → List (List ℕ)
with_uniques [] texts = texts
with_uniques (unique ∷ uniques) texts = with_uniques uniques (texts_in (unique_of unique (keyed true texts)))

-- what follows a name, with a blank at its front
abbrev pub spaced : List ℕ → List ℕ
spaced content = if begins_with_blank content then content else codes " " ++ content

-- `-z`: a field with nothing but blanks and newlines after its name goes, and any other has a blank there
abbrev pub zapped_as : FieldKind → Keyed → List (List ℕ)
zapped_as Named field =
    if list_all is_space_byte (content_in field) then [] else (name_in field ++ spaced (content_in field)) ∷ []
zapped_as kind field = field.text ∷ []

-- what `-z` makes of a field of any kind
abbrev pub zapped_field : Keyed → List (List ℕ)
zapped_field field = zapped_as field.key.kind field

-- `-c`: each newline with the blank after it becomes one blank
abbrev pub joined : List ℕ → List ℕ
joined [] = []
joined (a ∷ []) = a ∷ []
joined (a ∷ b ∷ rest) = if a == 10 && is_blank_byte b then 32 ∷ joined rest else a ∷ joined (b ∷ rest)

-- the edits that come after those of new fields
abbrev pub finished : Edits → List (List ℕ) → List (List ℕ)
finished edits texts =
    let unique = with_uniques edits.uniques texts in
    let zapped = if edits.zap then each zapped_field unique else unique in
    if edits.join then map joined zapped else zapped

-- all edits but the renaming
abbrev pub applied : Edits → List (List ℕ) → List (List ℕ)
applied edits texts = finished edits (with_puts edits.puts texts)

-- all edits
abbrev pub edited_fields : Edits → List (List ℕ) → List (List ℕ)
edited_fields edits texts = applied edits (renamed edits.renames texts)
