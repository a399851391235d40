-- Each edit in words.
use Rattle.std.proofs.Common.{◌≡◌, ℕ, Bool, true, false, ◌||◌, ◌&&◌, not, List, [], ◌∷◌, ◌++◌, map, drop, length, codes, refl, ap, ◌∙◌, ⊎_elim, append-nil, if◌then◌else◌}
use Rattle.std.proofs.lemmas.Bool.{cases_Bool}
use Rattle.std.specs.Prelude.{bytes_eq}
use Rattle.std.specs.List.{flat_map, list_any}
use Rattle.formail_edit.specs.EditLaws.{others, with_meant, new_field, NoneMeant, FieldsInWords, UniquesInWords, EditsInWords}
use Rattle.formail_edit.specs.Keyed.{Keyed, keyed, means, means_any}
use Rattle.formail_edit.specs.Step.{name_for, put_aside, put_name, put_content, first_only, last_only, texts_in}
use Rattle.formail_edit.specs.declared.edits.PutKind.TheVariants.{Replace}
use Rattle.formail_edit.proofs.EachLemmas.{each_same}
use Rattle.formail_edit.proofs.FormLemmas.{forms_in_words}

-- one text for each field
one_each : (becomes : Keyed → List ℕ) (fields : List Keyed) → flat_map (λ field. becomes field ∷ []) fields ≡ map becomes fields
one_each becomes [] = refl
one_each becomes (field ∷ fields) = ap (λ t. becomes field ∷ t) (one_each becomes fields)

-- the fields that aren't meant
left_out : (name : List ℕ) (fields : List Keyed) → flat_map (put_aside Replace name) fields ≡ texts_in (others name fields)
left_out name [] = refl
left_out name (field ∷ fields) = ⊎_elim
    (λ h. rw h (left_out name fields))
    (λ h. rw h (ap (λ t. field.text ∷ t) (left_out name fields)))
    (cases_Bool (means name field))

-- the new field
is_new : (empty : Bool) (text : List ℕ) → (if not empty then text ∷ [] else []) ≡ (if empty then [] else text ∷ [])
is_new true text = refl
is_new false text = refl

new_of : (text : List ℕ) → (if not (bytes_eq (put_content text) []) then (text ++ codes "\n") ∷ [] else []) ≡ new_field text
new_of text = is_new (bytes_eq (put_content text) []) (text ++ codes "\n")

and_none : (a b : Bool) → b ≡ false → (a && not b) ≡ a
and_none true b e = ap not e
and_none false b e = refl

and_some : (a b : Bool) → b ≡ true → (a && not b) ≡ false
and_some true b e = ap not e
and_some false b e = refl

fields_in_words : (texts : List (List ℕ)) → FieldsInWords texts
fields_in_words texts = record {
  added = λ text. ap (λ t. t ++ (if not (bytes_eq (put_content text) []) then (text ++ codes "\n") ∷ [] else [])) (each_same texts) ∙ ap (λ t. texts ++ t) (new_of text);
  added_if_none = λ text none.
      ap (λ t. t ++ (if not (bytes_eq (put_content text) []) && not (means_any (put_name text) texts) then (text ++ codes "\n") ∷ [] else [])) (each_same texts)
      ∙ ap (λ b. texts ++ (if b then (text ++ codes "\n") ∷ [] else [])) (and_none (not (bytes_eq (put_content text) [])) (means_any (put_name text) texts) none)
      ∙ ap (λ t. texts ++ t) (new_of text);
  left_if_some = λ text some.
      ap (λ t. t ++ (if not (bytes_eq (put_content text) []) && not (means_any (put_name text) texts) then (text ++ codes "\n") ∷ [] else [])) (each_same texts)
      ∙ ap (λ b. texts ++ (if b then (text ++ codes "\n") ∷ [] else [])) (and_some (not (bytes_eq (put_content text) [])) (means_any (put_name text) texts) some)
      ∙ append-nil texts;
  replaced = λ text.
      ap (λ t. t ++ (if not (bytes_eq (put_content text) []) then (text ++ codes "\n") ∷ [] else [])) (left_out (put_name text) (keyed true texts))
      ∙ ap (λ t. texts_in (others (put_name text) (keyed true texts)) ++ t) (new_of text);
  put_aside = λ text.
      ap (λ t. t ++ (if not (bytes_eq (put_content text) []) then (text ++ codes "\n") ∷ [] else []))
      (one_each (λ field. if means (put_name text) field then codes "Old-" ++ field.text else field.text) (keyed true texts))
      ∙ ap (λ t. with_meant (λ field. codes "Old-" ++ field.text) (put_name text) (keyed true texts) ++ t) (new_of text);
  named_anew = λ rename. one_each (λ field. if means rename.old field then name_for rename ++ drop (length rename.old) field.text else field.text) (keyed true texts);
}

or_none : (a b : Bool) → (a || b) ≡ false → (a ≡ false) × (b ≡ false)
or_none true b h = (h, cc)
or_none false b h = (refl, h)

-- `-u`
behind_first : (name : List ℕ) (fields : List Keyed) → first_only name true fields ≡ others name fields
behind_first name [] = refl
behind_first name (field ∷ fields) = ⊎_elim
    (λ h. rw h (behind_first name fields))
    (λ h. rw h (ap (λ t. field ∷ t) (behind_first name fields)))
    (cases_Bool (means name field))

no_first : (name : List ℕ) (fields : List Keyed) → NoneMeant name fields → first_only name false fields ≡ fields
no_first name [] none = refl
no_first name (field ∷ fields) none =
    let both = or_none (means name field) (list_any (means name) fields) none in
    rw both.0 (ap (λ t. field ∷ t) (no_first name fields both.1))

first_stays : (name : List ℕ) (before after : List Keyed) (field : Keyed) → NoneMeant name before → means name field ≡ true → first_only name false (before ++ field ∷ after) ≡ before ++ field ∷ others name after
first_stays name [] after field none is = rw is (ap (λ t. field ∷ t) (behind_first name after))
first_stays name (other ∷ before) after field none is =
    let both = or_none (means name other) (list_any (means name) before) none in
    rw both.0 (ap (λ t. other ∷ t) (first_stays name before after field both.1 is))

-- `-U`
no_last : (name : List ℕ) (fields : List Keyed) → NoneMeant name fields → last_only name fields ≡ fields
no_last name [] none = refl
no_last name (field ∷ fields) none =
    let both = or_none (means name field) (list_any (means name) fields) none in
    rw both.0 (ap (λ t. field ∷ t) (no_last name fields both.1))

some_after : (name : List ℕ) (before after : List Keyed) (field : Keyed) → means name field ≡ true → list_any (means name) (before ++ field ∷ after) ≡ true
some_after name [] after field is = rw is refl
some_after name (other ∷ before) after field is = ⊎_elim
    (λ h. rw h refl)
    (λ h. rw h (some_after name before after field is))
    (cases_Bool (means name other))

last_stays : (name : List ℕ) (before after : List Keyed) (field : Keyed) → NoneMeant name after → means name field ≡ true → last_only name (before ++ field ∷ after) ≡ others name before ++ field ∷ after
last_stays name [] after field none is = rw (is, none) (ap (λ t. field ∷ t) (no_last name after none))
last_stays name (other ∷ before) after field none is =
    let some : list_any (means name) (before ++ field ∷ after) ≡ true = some_after name before after field is in
    ⊎_elim
    (λ h. rw h (rw some (last_stays name before after field none is)))
    (λ h. rw h (ap (λ t. other ∷ t) (last_stays name before after field none is)))
    (cases_Bool (means name other))

uniques_in_words : (name : List ℕ) (before after : List Keyed) (field : Keyed) → UniquesInWords name before after field
uniques_in_words name before after field = record {
  first = first_stays name before after field;
  last = last_stays name before after field;
  no_first = no_first name after;
  no_last = no_last name after;
}

pub edits_in_words : EditsInWords
edits_in_words = record { fields = fields_in_words; uniques = uniques_in_words; forms = forms_in_words }
