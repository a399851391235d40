-- Headers in which no line is empty.
use Rattle.std.proofs.Common.{◌≡◌, ℕ, zero, suc, ◌-◌, ◌<◌, Bool, true, false, ◌==◌, ◌&&◌, ◌||◌, List, [], ◌∷◌, ◌++◌, length, take, drop, map, get_or, nat_eq, codes, refl, sym, ap, subst, ◌∙◌, ⊎_elim, arith, take-append-drop, if◌then◌else◌}
use Rattle.std.proofs.lemmas.Bool.{cases_Bool, cases_eq, ne_eqb, eqb-true, false≢true}
use Rattle.std.specs.Prelude.{All, bytes_eq}
use Rattle.std.specs.List.{ends_with, flat_map, list_all, list_any, concat}
use Rattle.pm_bytes.specs.Letter.{is_blank_byte, is_space_byte}
use Rattle.pm_message.specs.Lines.{onto, lines}
use Rattle.pm_message.specs.Field.{field_lines, begins_with_blank, with_line, folded, texts_of}
use Rattle.pm_message.specs.FromLine.{is_newline}
use Rattle.pm_message.specs.Piece.{with_newline}
use Rattle.pm_message.specs.declared.head_fields.FieldKind.{FieldKind}
use Rattle.pm_message.specs.declared.head_fields.FieldKind.TheVariants.{FromLine, Named, Other}
use Rattle.pm_message.proofs.LineLemmas.{lines-break, lines-on}
use Rattle.formail_edit.specs.Keyed.{Keyed, keyed, keyed_as, content_in, means, each}
use Rattle.formail_edit.specs.Laws.{is_empty_line, has_empty_line, AddNoEmptyLine, IsShown, HeadersStayWhole}
use Rattle.formail_edit.specs.Step.{name_for, renamed_field, renamed, put_name, put_aside, is_added, put_one, with_puts, first_only, last_only, unique_of, texts_in, with_uniques, spaced, zapped_as, zapped_field, joined, finished, edited_fields}
use Rattle.formail_edit.specs.declared.edits.Edits.{Edits}
use Rattle.formail_edit.specs.declared.edits.Put.{Put}
use Rattle.formail_edit.specs.declared.edits.PutKind.{PutKind}
use Rattle.formail_edit.specs.declared.edits.PutKind.TheVariants.{Old, Replace, IfNone, Always}
use Rattle.formail_edit.specs.declared.edits.Rename.{Rename}
use Rattle.formail_edit.specs.declared.edits.Unique.{Unique}
use Rattle.formail_edit.proofs.BodyLemmas.{ends_after}

-- no line is empty, of a text that begins at a line's beginning or within a line
abbrev pub Filled : Bool → List ℕ → Type 0
Filled fresh [] = Unit {0}
Filled fresh (b ∷ bs) = (fresh ≡ true → b ≡ 10 → ⊥) × Filled (b == 10) bs

abbrev pub AllFilled : List (List ℕ) → Type 0
AllFilled [] = Unit {0}
AllFilled (text ∷ texts) = Filled true text × AllFilled texts

within : (fresh : Bool) (bs : List ℕ) → Filled fresh bs → Filled false bs
within fresh [] f = tt
within fresh (b ∷ bs) f = ((λ t. absurd (false≢true t)), f.1)

anywhere : (fresh : Bool) (bs : List ℕ) → Filled true bs → Filled fresh bs
anywhere fresh [] f = tt
anywhere fresh (b ∷ bs) f = ((λ _. f.0 refl), f.1)

pub filled-append : (fresh : Bool) (a b : List ℕ) → Filled fresh a → Filled true b → Filled fresh (a ++ b)
filled-append fresh [] b fa fb = anywhere fresh b fb
filled-append fresh (x ∷ a) b fa fb = (fa.0, filled-append (x == 10) a b fa.1 fb)

filled-drop : (fresh : Bool) (n : ℕ) (bs : List ℕ) → Filled fresh bs → Filled false (drop n bs)
filled-drop fresh zero [] f = tt
filled-drop fresh zero (b ∷ bs) f = within fresh (b ∷ bs) f
filled-drop fresh (suc n) [] f = tt
filled-drop fresh (suc n) (b ∷ bs) f = filled-drop (b == 10) n bs f.1

filled-take : (fresh : Bool) (n : ℕ) (bs : List ℕ) → Filled fresh bs → Filled fresh (take n bs)
filled-take fresh zero [] f = tt
filled-take fresh zero (b ∷ bs) f = tt
filled-take fresh (suc n) [] f = tt
filled-take fresh (suc n) (b ∷ bs) f = (f.0, filled-take (b == 10) n bs f.1)

pub all_filled-append : (a b : List (List ℕ)) → AllFilled a → AllFilled b → AllFilled (a ++ b)
all_filled-append [] b fa fb = fb
all_filled-append (text ∷ a) b fa fb = (fa.0, all_filled-append a b fa.1 fb)

pub filled-concat : (texts : List (List ℕ)) → AllFilled texts → Filled true (concat texts)
filled-concat [] all = tt
filled-concat (text ∷ texts) all = filled-append true text (concat texts) all.0 (filled-concat texts all.1)

-- a text without a newline stands before the rest of a line
or_none : (a b : Bool) → (a || b) ≡ false → (a ≡ false) × (b ≡ false)
or_none true b h = (h, cc)
or_none false b h = (refl, h)

pub inside_line : (name rest : List ℕ) → list_any is_newline name ≡ false → Filled false rest → Filled false (name ++ rest)
inside_line [] rest none f = f
inside_line (b ∷ name) rest none f =
    let both = or_none (b == 10) (list_any is_newline name) none in
    ((λ t. absurd (false≢true t)), subst (λ x. Filled x (name ++ rest)) (sym both.0) (inside_line name rest both.1 f))

pub begins_line : (name rest : List ℕ) → list_any is_newline name ≡ false → (name ≡ [] → ⊥) → Filled false rest → Filled true (name ++ rest)
begins_line [] rest none some f = absurd (some refl)
begins_line (b ∷ name) rest none some f =
    let both = or_none (b == 10) (list_any is_newline name) none in
    ((λ _ e. absurd (false≢true (sym both.0 ∙ ap (λ x. x == 10) e))), subst (λ x. Filled x (name ++ rest)) (sym both.0) (inside_line name rest both.1 f))

-- the lines of a text: only the last byte of each can be a newline
abbrev IsLine : List ℕ → Type 0
IsLine line = Filled false line × (bytes_eq line (codes "\n") ≡ false → Filled true line) × (line ≡ [] → ⊥)

abbrev AllLines : List (List ℕ) → Type 0
AllLines [] = Unit {0}
AllLines (line ∷ rest) = IsLine line × AllLines rest

line_on : (b : ℕ) (line : List ℕ) → (b ≡ 10 → ⊥) → Filled false line → IsLine (b ∷ line)
line_on b line ne f =
    let more : Filled (b == 10) line = subst (λ x. Filled x line) (sym (ne_eqb b 10 ne)) f in
    (((λ t. absurd (false≢true t)), more), (λ _. ((λ _. ne), more)), (λ e. cc))

all_on : (b : ℕ) (ls : List (List ℕ)) → (b ≡ 10 → ⊥) → AllLines ls → AllLines (onto b ls)
all_on b [] ne all = (line_on b [] ne tt, tt)
all_on b (line ∷ ls) ne all = (line_on b line ne all.0.0, all.1)

all_break : (b : ℕ) (ls : List (List ℕ)) → b ≡ 10 → AllLines ls → AllLines ((b ∷ []) ∷ ls)
all_break b ls e all =
    subst (λ (x : ℕ). AllLines ((x ∷ []) ∷ ls)) (sym e)
    ((((λ t. absurd (false≢true t)), tt), (λ other. absurd (false≢true (sym other))), (λ e. cc)), all)

lines_are : (bs : List ℕ) → AllLines (lines bs)
lines_are [] = tt
lines_are (b ∷ bs) = ⊎_elim
    (λ e. subst AllLines (sym (lines-break b bs e)) (all_break b (lines bs) e (lines_are bs)))
    (λ ne. subst AllLines (sym (lines-on b bs ne)) (all_on b (lines bs) ne (lines_are bs)))
    (cases_eq b 10)

-- the fields of a header aren't empty, and have no empty line
abbrev AllTexts : List (List ℕ) → Type 0
AllTexts [] = Unit {0}
AllTexts (text ∷ texts) = (Filled true text × (text ≡ [] → ⊥)) × AllTexts texts

field_lines_are : (ls : List (List ℕ)) → AllLines ls → AllTexts (field_lines ls)
field_lines_are [] all = tt
field_lines_are (line ∷ rest) all = ⊎_elim
    (λ h. rw h tt)
    (λ h. rw h ((all.0.1 h, all.0.2), field_lines_are rest all.1))
    (cases_Bool (bytes_eq line (codes "\n")))

some-append : (a b : List ℕ) → (a ≡ [] → ⊥) → a ++ b ≡ [] → ⊥
some-append [] b some e = some refl
some-append (x ∷ a) b some e = cc

with_line_are : (line : List ℕ) (texts : List (List ℕ)) → Filled true line → (line ≡ [] → ⊥) → AllTexts texts → AllTexts (with_line line texts)
with_line_are line [] f some all = ((f, some), tt)
with_line_are line (text ∷ texts) f some all = ⊎_elim
    (λ h. rw h ((filled-append true line text f all.0.0, some-append line text some), all.1))
    (λ h. rw h ((f, some), all))
    (cases_Bool (begins_with_blank text))

folded_are : (ls : List (List ℕ)) → AllTexts ls → AllTexts (folded ls)
folded_are [] all = tt
folded_are (line ∷ rest) all = with_line_are line (folded rest) all.0.0 all.0.1 (folded_are rest all.1)

-- and so it is when the last line got its newline
ended_line : (fresh : Bool) (b : ℕ) (bs : List ℕ) → Filled fresh (b ∷ bs) → ends_with nat_eq (b ∷ bs) (codes "\n") ≡ false → Filled fresh ((b ∷ bs) ++ codes "\n")
ended_line fresh b [] f other =
    (f.0, ((λ t _. absurd (false≢true (sym (subst (λ (x : ℕ). ends_with nat_eq (x ∷ []) (codes "\n") ≡ false) (eqb-true b 10 t) other)))), tt))
ended_line fresh b (c ∷ bs) f other =
    let later : ends_with nat_eq (c ∷ bs) (codes "\n") ≡ false =
    ⊎_elim
    (λ h. absurd (false≢true (sym other ∙ ends_after (b ∷ []) (c ∷ bs) (codes "\n") h (b ∷ c ∷ bs) refl)))
    (λ h. h)
    (cases_Bool (ends_with nat_eq (c ∷ bs) (codes "\n"))) in
    (f.0, ended_line (b == 10) c bs f.1 later)

filled_ended : (text : List ℕ) → Filled true text → (text ≡ [] → ⊥) → Filled true (with_newline text)
filled_ended [] f some = absurd (some refl)
filled_ended (b ∷ bs) f some = ⊎_elim
    (λ h. rw h f)
    (λ h. rw h (ended_line true b bs f h))
    (cases_Bool (ends_with nat_eq (b ∷ bs) (codes "\n")))

ended_are : (texts : List (List ℕ)) → AllTexts texts → AllFilled (map with_newline texts)
ended_are [] all = tt
ended_are (text ∷ texts) all = (filled_ended text all.0.0 all.0.1, ended_are texts all.1)

pub texts_filled : (head : List ℕ) → AllFilled (texts_of head)
texts_filled head = ended_are (folded (field_lines (lines head))) (folded_are (field_lines (lines head)) (field_lines_are (lines head) (lines_are head)))

-- an edit of each field that keeps this of each keeps it of all
each_filled : (becomes : Keyed → List (List ℕ)) → ((field : Keyed) → Filled true field.text → AllFilled (becomes field)) → (first : Bool) (texts : List (List ℕ)) → AllFilled texts → AllFilled (flat_map becomes (keyed first texts))
each_filled becomes keeps first [] all = tt
each_filled becomes keeps first (text ∷ texts) all =
    all_filled-append (becomes (keyed_as first text)) (flat_map becomes (keyed false texts)) (keeps (keyed_as first text) all.0) (each_filled becomes keeps false texts all.1)

-- `-R`
rename_filled : (rename : Rename) → IsShown rename → (field : Keyed) → Filled true field.text → AllFilled (renamed_field rename field)
rename_filled rename shown field f = ⊎_elim
    (λ h. rw h (begins_line (name_for rename) (drop (length rename.old) field.text) shown.line shown.some (filled-drop true (length rename.old) field.text f), tt))
    (λ h. rw h (f, tt))
    (cases_Bool (means rename.old field))

first_shown : (rename : Rename) (renames : List Rename) → All IsShown (rename ∷ renames) → IsShown rename
first_shown rename renames all = all 0 rename (omega arith)

others_shown : (rename : Rename) (renames : List Rename) → All IsShown (rename ∷ renames) → All IsShown renames
others_shown rename renames all = λ k d less. all (suc k) d (omega (arith, less))

renamed_filled : (renames : List Rename) (texts : List (List ℕ)) → All IsShown renames → AllFilled texts → AllFilled (renamed renames texts)
renamed_filled [] texts shown all = all
renamed_filled (rename ∷ renames) texts shown all =
    renamed_filled renames (each (renamed_field rename) texts) (others_shown rename renames shown)
    (each_filled (renamed_field rename) (rename_filled rename (first_shown rename renames shown)) true texts all)

-- `-i`, `-I`, `-a` and `-A`
aside_filled : (kind : PutKind) (name : List ℕ) (field : Keyed) → Filled true field.text → AllFilled (put_aside kind name field)
aside_filled Old name field f = ⊎_elim
    (λ h. rw h (begins_line (codes "Old-") field.text refl (λ e. cc) (within true field.text f), tt))
    (λ h. rw h (f, tt))
    (cases_Bool (means name field))
aside_filled Replace name field f = ⊎_elim
    (λ h. rw h tt)
    (λ h. rw h (f, tt))
    (cases_Bool (means name field))
aside_filled IfNone name field f = (f, tt)
aside_filled Always name field f = (f, tt)

added_filled : (added : Bool) (text : List ℕ) → Filled true text → AllFilled (if added then text ∷ [] else [])
added_filled true text f = (f, tt)
added_filled false text f = tt

-- what that says of the lines
abbrev NoneEmpty : Bool → List (List ℕ) → Type 0
NoneEmpty true ls = list_any is_empty_line ls ≡ false
NoneEmpty false [] = Unit {0}
NoneEmpty false (line ∷ ls) = list_any is_empty_line ls ≡ false

long_line : (b : ℕ) (l : List ℕ) → (b ≡ 10 → ⊥) → is_empty_line (b ∷ l) ≡ false
long_line b l ne = rw (ne_eqb b 10 ne) refl

none_on : (fresh : Bool) (b : ℕ) (ls : List (List ℕ)) → (b ≡ 10 → ⊥) → NoneEmpty false ls → NoneEmpty fresh (onto b ls)
none_on true b [] ne e = ap (λ t. t || false) (long_line b [] ne)
none_on false b [] ne e = refl
none_on true b (l ∷ ls) ne e = ap (λ t. t || list_any is_empty_line ls) (long_line b l ne) ∙ e
none_on false b (l ∷ ls) ne e = e

on_none : (fresh : Bool) (b : ℕ) (ls : List (List ℕ)) → (b ≡ 10 → ⊥) → NoneEmpty fresh (onto b ls) → NoneEmpty false ls
on_none true b [] ne e = tt
on_none false b [] ne e = tt
on_none true b (l ∷ ls) ne e = ap (λ t. t || list_any is_empty_line ls) (sym (long_line b l ne)) ∙ e
on_none false b (l ∷ ls) ne e = e

break_none : (fresh : Bool) (b : ℕ) (ls : List (List ℕ)) → b ≡ 10 → NoneEmpty fresh ((b ∷ []) ∷ ls) → (fresh ≡ true → ⊥) × NoneEmpty true ls
break_none true b ls is e =
    absurd (false≢true (sym (subst (λ (x : ℕ). (is_empty_line (x ∷ []) || list_any is_empty_line ls) ≡ false) is e)))
break_none false b ls is e = ((λ t. false≢true t), e)

is_break : (b : ℕ) → b ≡ 10 → (b == 10) ≡ true
is_break b e = ap (λ x. x == 10) e

pub filled_from : (fresh : Bool) (bs : List ℕ) → NoneEmpty fresh (lines bs) → Filled fresh bs
filled_from fresh [] e = tt
filled_from fresh (b ∷ bs) e = ⊎_elim
    (λ is. (let both = break_none fresh b (lines bs) is (subst (NoneEmpty fresh) (lines-break b bs is) e) in
    ((λ t _. both.0 t), subst (λ x. Filled x bs) (sym (is_break b is)) (filled_from true bs both.1))))
    (λ ne. ((λ _. ne), subst (λ x. Filled x bs) (sym (ne_eqb b 10 ne)) (filled_from false bs (on_none fresh b (lines bs) ne (subst (NoneEmpty fresh) (lines-on b bs ne) e)))))
    (cases_eq b 10)

none_break : (fresh : Bool) (b : ℕ) (ls : List (List ℕ)) → (fresh ≡ true → ⊥) → NoneEmpty true ls → NoneEmpty fresh ((b ∷ []) ∷ ls)
none_break true b ls old e = absurd (old refl)
none_break false b ls old e = e

none_of : (fresh : Bool) → NoneEmpty fresh []
none_of true = refl
none_of false = tt

pub none_from : (fresh : Bool) (bs : List ℕ) → Filled fresh bs → NoneEmpty fresh (lines bs)
none_from fresh [] f = none_of fresh
none_from fresh (b ∷ bs) f = ⊎_elim
    (λ is. subst (NoneEmpty fresh) (sym (lines-break b bs is)) (none_break fresh b (lines bs) (λ t. f.0 t is) (none_from true bs (subst (λ x. Filled x bs) (is_break b is) f.1))))
    (λ ne. subst (NoneEmpty fresh) (sym (lines-on b bs ne)) (none_on fresh b (lines bs) ne (none_from false bs (subst (λ x. Filled x bs) (ne_eqb b 10 ne) f.1))))
    (cases_eq b 10)

-- a new field
abbrev BringsNone : Put → Type 0
BringsNone put = has_empty_line (put.text ++ codes "\n") ≡ false

put_filled : (put : Put) (texts : List (List ℕ)) → BringsNone put → AllFilled texts → AllFilled (put_one put texts)
put_filled put texts none all =
    all_filled-append (each (put_aside put.kind (put_name put.text)) texts) (if is_added put.kind put.text texts then (put.text ++ codes "\n") ∷ [] else [])
    (each_filled (put_aside put.kind (put_name put.text)) (aside_filled put.kind (put_name put.text)) true texts all)
    (added_filled (is_added put.kind put.text texts) (put.text ++ codes "\n") (filled_from true (put.text ++ codes "\n") none))

first_none : (put : Put) (puts : List Put) → All BringsNone (put ∷ puts) → BringsNone put
first_none put puts all = all 0 put (omega arith)

others_none : (put : Put) (puts : List Put) → All BringsNone (put ∷ puts) → All BringsNone puts
others_none put puts all = λ k d less. all (suc k) d (omega (arith, less))

puts_filled : (puts : List Put) (texts : List (List ℕ)) → All BringsNone puts → AllFilled texts → AllFilled (with_puts puts texts)
puts_filled [] texts none all = all
puts_filled (put ∷ puts) texts none all =
    puts_filled puts (put_one put texts) (others_none put puts none) (put_filled put texts (first_none put puts none) all)

-- `-u` and `-U`
abbrev AllKept : List Keyed → Type 0
AllKept [] = Unit {0}
AllKept (field ∷ fields) = Filled true field.text × AllKept fields

keyed_kept : (first : Bool) (texts : List (List ℕ)) → AllFilled texts → AllKept (keyed first texts)
keyed_kept first [] all = tt
keyed_kept first (text ∷ texts) all = (all.0, keyed_kept false texts all.1)

kept_filled : (fields : List Keyed) → AllKept fields → AllFilled (texts_in fields)
kept_filled [] all = tt
kept_filled (field ∷ fields) all = (all.0, kept_filled fields all.1)

first_kept : (name : List ℕ) (came : Bool) (fields : List Keyed) → AllKept fields → AllKept (first_only name came fields)
first_kept name came [] all = tt
first_kept name came (field ∷ fields) all = ⊎_elim
    (λ h. rw h (first_kept name came fields all.1))
    (λ h. rw h (all.0, first_kept name (means name field || came) fields all.1))
    (cases_Bool (means name field && came))

last_kept : (name : List ℕ) (fields : List Keyed) → AllKept fields → AllKept (last_only name fields)
last_kept name [] all = tt
last_kept name (field ∷ fields) all = ⊎_elim
    (λ h. rw h (last_kept name fields all.1))
    (λ h. rw h (all.0, last_kept name fields all.1))
    (cases_Bool (means name field && list_any (means name) fields))

unique_kept : (unique : Unique) (fields : List Keyed) → AllKept fields → AllKept (unique_of unique fields)
unique_kept unique fields all = ⊎_elim
    (λ h. rw h (last_kept unique.name fields all))
    (λ h. rw h (first_kept unique.name false fields all))
    (cases_Bool unique.last)

uniques_filled : (uniques : List Unique) (texts : List (List ℕ)) → AllFilled texts → AllFilled (with_uniques uniques texts)
uniques_filled [] texts all = all
uniques_filled (unique ∷ uniques) texts all =
    uniques_filled uniques (texts_in (unique_of unique (keyed true texts)))
    (kept_filled (unique_of unique (keyed true texts)) (unique_kept unique (keyed true texts) (keyed_kept true texts all)))

-- `-z`
spaced_filled : (n : ℕ) (text : List ℕ) → Filled true text → Filled true (take n text ++ spaced (drop n text))
spaced_filled n text f = ⊎_elim
    (λ h. rw h (subst (Filled true) (sym (take-append-drop n text)) f))
    (λ h. rw h (filled-append true (take n text) (codes " " ++ drop n text) (filled-take true n text f)
    (begins_line (codes " ") (drop n text) refl (λ e. cc) (filled-drop true n text f))))
    (cases_Bool (begins_with_blank (drop n text)))

zapped_filled : (kind : FieldKind) (field : Keyed) → Filled true field.text → AllFilled (zapped_as kind field)
zapped_filled FromLine field f = (f, tt)
zapped_filled Other field f = (f, tt)
zapped_filled Named field f = ⊎_elim
    (λ h. rw h tt)
    (λ h. rw h (spaced_filled field.key.length field.text f, tt))
    (cases_Bool (list_all is_space_byte (content_in field)))

-- `-c`
blank_is_no_break : (b : ℕ) → is_blank_byte b ≡ true → b ≡ 10 → ⊥
blank_is_no_break b blank e = false≢true (subst (λ (x : ℕ). is_blank_byte x ≡ true) e blank)

joined_filled : (fresh : Bool) (bs : List ℕ) → Filled fresh bs → Filled fresh (joined bs)
joined_filled fresh [] f = tt
joined_filled fresh (a ∷ []) f = f
joined_filled fresh (a ∷ b ∷ rest) f = ⊎_elim
    (λ h. (let both = and_both (a == 10) (is_blank_byte b) h in
    rw h ((λ _ e. cc), joined_filled false rest (subst (λ x. Filled x rest) (ne_eqb b 10 (blank_is_no_break b both.1)) f.1.1))))
    (λ h. rw h (f.0, joined_filled (a == 10) (b ∷ rest) f.1))
    (cases_Bool (a == 10 && is_blank_byte b))
  where
    and_both : (x y : Bool) → (x && y) ≡ true → (x ≡ true) × (y ≡ true)
    and_both true y h = (refl, h)
    and_both false y h = absurd (false≢true h)

all_joined : (texts : List (List ℕ)) → AllFilled texts → AllFilled (map joined texts)
all_joined [] all = tt
all_joined (text ∷ texts) all = (joined_filled true text all.0, all_joined texts all.1)

-- after all edits
chosen_filled : (wanted : Bool) (some other : List (List ℕ)) → AllFilled some → AllFilled other → AllFilled (if wanted then some else other)
chosen_filled true some other fs fo = fs
chosen_filled false some other fs fo = fo

finished_filled : (edits : Edits) (texts : List (List ℕ)) → AllFilled texts → AllFilled (finished edits texts)
finished_filled edits texts all =
    let unique = with_uniques edits.uniques texts in
    let left : AllFilled unique = uniques_filled edits.uniques texts all in
    let zapped = if edits.zap then each zapped_field unique else unique in
    let filled : AllFilled zapped = chosen_filled edits.zap (each zapped_field unique) unique (each_filled zapped_field (λ field f. zapped_filled field.key.kind field f) true unique left) left in
    chosen_filled edits.join (map joined zapped) zapped (all_joined zapped filled) filled

pub edited_filled : (edits : Edits) (head : List ℕ) → AddNoEmptyLine edits → AllFilled (edited_fields edits (texts_of head))
edited_filled edits head adds =
    let names = renamed edits.renames (texts_of head) in
    finished_filled edits (with_puts edits.puts names)
    (puts_filled edits.puts names adds.puts (renamed_filled edits.renames (texts_of head) adds.renames (texts_filled head)))

none_empty : (texts : List (List ℕ)) → AllFilled texts → (k : ℕ) (d : List ℕ) → k < length texts → has_empty_line (get_or texts k d) ≡ false
none_empty [] all k d less = absurd (omega (arith, less))
none_empty (text ∷ texts) all zero d less = none_from true text all.0
none_empty (text ∷ texts) all (suc k) d less = none_empty texts all.1 k d (omega (arith, less))

pub headers_stay_whole : HeadersStayWhole
headers_stay_whole edits head adds = λ k d less. none_empty (edited_fields edits (texts_of head)) (edited_filled edits head adds) k d less
