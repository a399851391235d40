-- `-z` and `-c` in words.
use Rattle.std.proofs.Common.{◌≡◌, ℕ, Bool, true, false, ◌||◌, not, List, [], ◌∷◌, ◌++◌, map, codes, refl, ap, ◌∙◌, ⊎_elim, if◌then◌else◌}
use Rattle.std.proofs.lemmas.Bool.{cases_Bool}
use Rattle.std.proofs.lemmas.List.{take-append-drop}
use Rattle.std.specs.List.{filter, flat_map, list_all, list_any}
use Rattle.pm_bytes.specs.Letter.{is_blank_byte, is_space_byte}
use Rattle.pm_message.specs.Field.{begins_with_blank}
use Rattle.pm_message.specs.FromLine.{is_newline}
use Rattle.pm_message.specs.declared.head_fields.FieldKind.{FieldKind}
use Rattle.pm_message.specs.declared.head_fields.FieldKind.TheVariants.{FromLine, Named, Other}
use Rattle.formail_edit.specs.EditLaws.{is_named_with, is_empty_field, with_blank, IsOneLine, FormsInWords}
use Rattle.formail_edit.specs.Keyed.{Keyed, keyed, name_in, content_in}
use Rattle.formail_edit.specs.Step.{spaced, zapped_as, zapped_field, joined}

-- a name with a blank after it
spaced_of : (begins : Bool) (name content text : List ℕ) → name ++ content ≡ text
    → name ++ (if begins then content else codes " " ++ content) ≡ (if not begins then name ++ (codes " " ++ content) else text)
spaced_of true name content text whole = whole
spaced_of false name content text whole = refl

spaced_name : (field : Keyed) → name_in field ++ spaced (content_in field)
    ≡ (if not (begins_with_blank (content_in field)) then name_in field ++ (codes " " ++ content_in field) else field.text)
spaced_name field =
    spaced_of (begins_with_blank (content_in field)) (name_in field) (content_in field) field.text (take-append-drop field.key.length field.text)

-- one field, and what comes of those after it
zapped_one : (kind : FieldKind) (field : Keyed) (rest : List (List ℕ)) → zapped_as kind field ++ rest
    ≡ (if not (is_named_with (list_all is_space_byte) kind (content_in field))
    then (if is_named_with (λ content. not (begins_with_blank content)) kind (content_in field) then name_in field ++ (codes " " ++ content_in field) else field.text) ∷ rest
    else rest)
zapped_one FromLine field rest = refl
zapped_one Other field rest = refl
zapped_one Named field rest = ⊎_elim
    (λ h. rw h refl)
    (λ h. rw h (ap (λ t. t ∷ rest) (spaced_name field)))
    (cases_Bool (list_all is_space_byte (content_in field)))

kept_one : (keeps : Bool) (field : Keyed) (rest : List Keyed) → (if keeps then with_blank field ∷ map with_blank rest else map with_blank rest)
    ≡ map with_blank (if keeps then field ∷ rest else rest)
kept_one true field rest = refl
kept_one false field rest = refl

zapped : (fields : List Keyed) → flat_map zapped_field fields ≡ map with_blank (filter (λ field. not (is_empty_field field)) fields)
zapped [] = refl
zapped (field ∷ fields) =
    ap (λ t. zapped_field field ++ t) (zapped fields)
    ∙ zapped_one field.key.kind field (map with_blank (filter (λ field. not (is_empty_field field)) fields))
    ∙ kept_one (not (is_empty_field field)) field (filter (λ field. not (is_empty_field field)) fields)

or_none : (a b : Bool) → (a || b) ≡ false → (a ≡ false) × (b ≡ false)
or_none true b h = (h, cc)
or_none false b h = (refl, h)

unfolded : (line rest : List ℕ) (blank : ℕ) → IsOneLine line → is_blank_byte blank ≡ true
    → joined (line ++ codes "\n" ++ blank ∷ rest) ≡ line ++ codes " " ++ joined rest
unfolded [] rest blank none is = rw is refl
unfolded (a ∷ []) rest blank none is =
    let both = or_none (is_newline a) false none in
    rw both.0 (ap (λ t. a ∷ t) (unfolded [] rest blank both.1 is))
unfolded (a ∷ b ∷ line) rest blank none is =
    let both = or_none (is_newline a) (list_any is_newline (b ∷ line)) none in
    rw both.0 (ap (λ t. a ∷ t) (unfolded (b ∷ line) rest blank both.1 is))

last_line : (line : List ℕ) → IsOneLine line → joined (line ++ codes "\n") ≡ line ++ codes "\n"
last_line [] none = refl
last_line (a ∷ []) none =
    let both = or_none (is_newline a) false none in
    rw both.0 refl
last_line (a ∷ b ∷ line) none =
    let both = or_none (is_newline a) (list_any is_newline (b ∷ line)) none in
    rw both.0 (ap (λ t. a ∷ t) (last_line (b ∷ line) both.1))

pub forms_in_words : FormsInWords
forms_in_words = record { zapped = λ texts. zapped (keyed true texts); unfolded = unfolded; last_line = last_line }
