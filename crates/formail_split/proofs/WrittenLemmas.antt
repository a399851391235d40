-- What formail writes of a mail stands alone.
use Rattle.std.proofs.Common.{◌≡◌, ℕ, zero, suc, ◌-◌, ◌/◌, ◌%◌, ◌<◌, ℤ, Bool, true, false, ◌==◌, ◌&&◌, nat_eq, nat_lt, Option, Some, None, option_map, option_and_then, List, [], ◌∷◌, ◌++◌, length, get_or, codes, decimal, refl, sym, ap, subst, ◌∙◌, ⊎_elim, arith, append_assoc, if◌then◌else◌}
use Rattle.std.proofs.lemmas.Bool.{cases_Bool, or_from, or_parts, and_right, false≢true}
use Rattle.std.proofs.lemmas.Bool.Decides.{nat_tests}
use Rattle.std.proofs.lemmas.List.Folds.{list_any-append}
use Rattle.std.specs.Fmt.{digits, digits_onto, digit_glyph}
use Rattle.std.specs.List.{concat, list_any, list_all}
use Rattle.pm_message.specs.Calendar.{day_at}
use Rattle.pm_message.specs.Date.{weekday_names, month_names, weekday_of, month_of, two_places, clock_of, date_of, moved, from_line_of}
use Rattle.pm_message.specs.Field.{texts_of}
use Rattle.pm_message.specs.FromLine.{has_from_line, is_newline}
use Rattle.pm_message.specs.Lines.{lines}
use Rattle.pm_message.specs.Piece.{ended}
use Rattle.pm_message.specs.Split.{split_of}
use Rattle.pm_message.specs.declared.head.Message.{Message}
use Rattle.formail_edit.specs.Keyed.{keyed}
use Rattle.formail_edit.specs.Output.{front_of, edited}
use Rattle.formail_edit.specs.Sender.{is_visible, is_address, first_content, bracketed, address_of, sender_in, begins_from, line_at}
use Rattle.formail_edit.specs.Step.{edited_fields}
use Rattle.formail_edit.specs.declared.edits.Edits.{Edits}
use Rattle.formail_edit.proofs.EmptyLines.{Filled, AllFilled, filled-append, filled-concat, begins_line, edited_filled}
use Rattle.formail_split.specs.Children.{edited_at}
use Rattle.formail_split.specs.Mailboxes.{StandsAlone}
use Rattle.formail_split.specs.Written.{HidesLines, WriteMails, all_edited, EditedStandAlone, EditedAreMails}
use Rattle.formail_split.proofs.PartLemmas.{begins, NoBreak}
use Rattle.formail_split.proofs.Quiet.{sign, Quiet, quiet-filled, Shields, shielded, calm-shielded, begins_long}
use Rattle.formail_split.proofs.MailLemmas.{from_more, ended_alone, one_more, texts_are_mails}

-- a text without a newline
abbrev Clear : List ℕ → Type 0
Clear text = list_any is_newline text ≡ false

clear-append : (a b : List ℕ) → Clear a → Clear b → Clear (a ++ b)
clear-append a b first second =
    list_any-append is_newline a b ∙ or_from (list_any is_newline a) (list_any is_newline b) first second

either_clear : (test : Bool) (a b : List ℕ) → Clear a → Clear b → Clear (if test then a else b)
either_clear true a b first second = first
either_clear false a b first second = second

-- the digits of a number
digit_clear : (n : ℕ) → is_newline (digit_glyph false (n % 10)) ≡ false
digit_clear n = grind (arith, nat_tests)

digits_clear : (k n : ℕ) (acc : List ℕ) → Clear acc → Clear (digits_onto k 10 false n acc)
digits_clear zero n acc clear = clear
digits_clear (suc k) n acc clear =
    let d : ℕ = digit_glyph false (n % 10) in
    let more : Clear (d ∷ acc) = or_from (is_newline d) (list_any is_newline acc) (digit_clear n) clear in
    either_clear (n / 10 == 0) (d ∷ acc) (digits_onto k 10 false (n / 10) (d ∷ acc)) more (digits_clear k (n / 10) (d ∷ acc) more)

decimal_clear : (n : ℕ) → Clear (decimal n)
unfolding digits
decimal_clear n = digits_clear 64 n [] refl

-- the names of days and months
abbrev AllClear : List (List ℕ) → Type 0
AllClear [] = Unit {0}
AllClear (name ∷ names) = Clear name × AllClear names

name_clear : (names : List (List ℕ)) (k : ℕ) → AllClear names → Clear (get_or names k [])
name_clear [] k all = refl
name_clear (name ∷ names) zero all = all.0
name_clear (name ∷ names) (suc k) all = name_clear names k all.1

weekdays_clear : AllClear weekday_names
weekdays_clear = (refl, (refl, (refl, (refl, (refl, (refl, (refl, tt)))))))

months_clear : AllClear month_names
months_clear = (refl, (refl, (refl, (refl, (refl, (refl, (refl, (refl, (refl, (refl, (refl, (refl, tt))))))))))))

-- a date
places_clear : (filler : List ℕ) (number : ℕ) → Clear filler → Clear (two_places filler number)
places_clear filler number clear =
    either_clear (nat_lt number 10) (filler ++ decimal number) (decimal number) (clear-append filler (decimal number) clear (decimal_clear number)) (decimal_clear number)

between_clear : (a middle b : List ℕ) → Clear a → Clear middle → Clear b → Clear (a ++ middle ++ b)
between_clear a middle b first second third = clear-append (a ++ middle) b (clear-append a middle first second) third

clock_clear : (seconds : ℕ) → Clear (clock_of seconds)
clock_clear seconds =
    let hours : List ℕ = two_places (codes "0") (seconds / 3600) in
    let minutes : List ℕ = two_places (codes "0") (seconds / 60 % 60) in
    between_clear (hours ++ codes ":" ++ minutes) (codes ":") (two_places (codes "0") (seconds % 60))
    (between_clear hours (codes ":") minutes (places_clear (codes "0") (seconds / 3600) refl) refl (places_clear (codes "0") (seconds / 60 % 60) refl))
    refl (places_clear (codes "0") (seconds % 60) refl)

parts_clear : (weekday month day clock year : List ℕ) → Clear weekday → Clear month → Clear day → Clear clock → Clear year
    → Clear (weekday ++ codes " " ++ month ++ codes " " ++ day ++ codes " " ++ clock ++ codes " " ++ year)
parts_clear weekday month day clock year first second third fourth fifth =
    between_clear (weekday ++ codes " " ++ month ++ codes " " ++ day ++ codes " " ++ clock) (codes " ") year
    (between_clear (weekday ++ codes " " ++ month ++ codes " " ++ day) (codes " ") clock
    (between_clear (weekday ++ codes " " ++ month) (codes " ") day (between_clear weekday (codes " ") month first refl second) refl third)
    refl fourth)
    refl fifth

date_clear : (seconds : ℕ) → Clear (date_of seconds)
date_clear seconds =
    let date = day_at (seconds / 86_400) in
    parts_clear (weekday_of (seconds / 86_400)) (month_of date.month) (two_places (codes " ") date.day) (clock_of (seconds % 86_400)) (decimal date.year)
    (name_clear weekday_names (seconds / 86_400 % 7) weekdays_clear) (name_clear month_names (date.month - 1) months_clear)
    (places_clear (codes " ") date.day refl) (clock_clear (seconds % 86_400)) (decimal_clear date.year)

-- a sender
and_both : (x y : Bool) → (x && y) ≡ true → (x ≡ true) × (y ≡ true)
and_both true y h = (refl, h)
and_both false y h = absurd (false≢true h)

no_break : (b : ℕ) → is_visible b ≡ true → is_newline b ≡ false
no_break b visible = grind (arith, nat_tests)

visible_clear : (text : List ℕ) → list_all is_visible text ≡ true → Clear text
visible_clear [] visible = refl
visible_clear (b ∷ text) visible =
    let both = and_both (is_visible b) (list_all is_visible text) visible in
    or_from (is_newline b) (list_any is_newline text) (no_break b both.0) (visible_clear text both.1)

address_clear : (found : Option (List ℕ)) → Clear (address_of found)
address_clear None = refl
address_clear (Some text) = ⊎_elim
    (λ h. rw h (visible_clear text (and_both (nat_lt 0 (length text)) (list_all is_visible text) h).1))
    (λ h. rw h refl)
    (cases_Bool (is_address text))

sender_clear : (texts : List (List ℕ)) → Clear (sender_in texts)
sender_clear texts = address_clear (option_and_then bracketed (first_content (codes "Return-Path:") (keyed true texts)))

-- the line `From ` that is put in front
line_filled : (who : List ℕ) (moment : ℤ) → Clear who → Filled true (from_line_of who moment)
line_filled who moment clear =
    let date : List ℕ = date_of (moved moment) in
    begins_line (codes "From " ++ who ++ codes " " ++ date) (codes "\n")
    (between_clear (codes "From " ++ who) (codes " ") date (clear-append (codes "From ") who refl clear) refl (date_clear (moved moment)))
    (λ e. cc)
    ((λ t. absurd (false≢true t)), tt)

-- a header that has no empty line, and begins with a line `From `
record IsBegun (head : List ℕ) : Type 0 where
  pub filled : Filled true head
  pub begun : has_from_line head ≡ true

abbrev line_if : Bool → List ℕ → ℤ → Option (List ℕ)
line_if begun who moment = option_map (λ who. from_line_of who moment) (if begun then None else Some who)

begun_by : (begun : Bool) (texts : List (List ℕ)) (who : List ℕ) (moment : ℤ) → begins_from texts ≡ begun → AllFilled texts → Clear who
    → IsBegun (front_of (line_if begun who moment) ++ concat texts)
begun_by true [] who moment is all clear = absurd (false≢true is)
begun_by true (text ∷ texts) who moment is all clear =
    record { filled = filled-concat (text ∷ texts) all; begun = from_more text (concat texts) is }
begun_by false texts who moment is all clear = record {
  filled = filled-append true (from_line_of who moment) (concat texts) (line_filled who moment clear) (filled-concat texts all);
  begun = refl;
}

-- where it is due, it is put in front of a header that has none
line_is : (message : Message) (edits : Edits) (moment : ℤ) → WriteMails edits
    → line_at moment message edits ≡ line_if (begins_from (edited_fields edits (texts_of message.head))) (sender_in (texts_of message.head)) moment
line_is message edits moment writes = rw (writes.from_line, writes.no_takes) refl

-- the text of `-p` shields lines
lacks : (text : List ℕ) → Clear text → NoBreak text
lacks [] clear = tt
lacks (b ∷ text) clear =
    let both = or_parts (is_newline b) (list_any is_newline text) clear in
    ((λ e. absurd (false≢true (sym both.0 ∙ ap (λ x. x == 10) e))), lacks text both.1)

keeps : (prefix : List ℕ) → (prefix ≡ [] → ⊥) → begins prefix sign ≡ false → begins (prefix ++ sign) sign ≡ false
keeps [] some other = absurd (some refl)
keeps (a ∷ []) some other = and_right (nat_eq 70 a) false refl
keeps (a ∷ b ∷ []) some other =
    and_right (nat_eq 70 a) (nat_eq 114 b && false) (and_right (nat_eq 114 b) false refl)
keeps (a ∷ b ∷ c ∷ []) some other =
    and_right (nat_eq 70 a) (nat_eq 114 b && (nat_eq 111 c && false))
    (and_right (nat_eq 114 b) (nat_eq 111 c && false) (and_right (nat_eq 111 c) false refl))
keeps (a ∷ b ∷ c ∷ d ∷ []) some other =
    and_right (nat_eq 70 a) (nat_eq 114 b && (nat_eq 111 c && (nat_eq 109 d && false)))
    (and_right (nat_eq 114 b) (nat_eq 111 c && (nat_eq 109 d && false))
    (and_right (nat_eq 111 c) (nat_eq 109 d && false) (and_right (nat_eq 109 d) false refl)))
keeps (a ∷ b ∷ c ∷ d ∷ e ∷ rest) some other = begins_long sign (a ∷ b ∷ c ∷ d ∷ e ∷ rest) sign (omega arith) ∙ other

hides_shields : (prefix : List ℕ) → HidesLines prefix → Shields prefix
hides_shields prefix hides =
    record { lacks = lacks prefix hides.one_line; keeps = keeps prefix hides.some hides.other }

-- what is written of a mail
written_is : (message : Message) (edits : Edits) (from : Option (List ℕ)) → WriteMails edits
    → edited message edits from
    ≡ ended (front_of from ++ concat (edited_fields edits (texts_of message.head)) ++ codes "\n" ++ shielded edits.prefix (lines message.body))
written_is message edits from writes = rw (writes.no_takes, writes.from_line, writes.escaped) refl

pub edited_stand_alone : EditedStandAlone
edited_stand_alone edits moment mail writes =
    let message : Message = split_of mail in
    let texts : List (List ℕ) = edited_fields edits (texts_of message.head) in
    let who : List ℕ = sender_in (texts_of message.head) in
    let from : Option (List ℕ) = line_at moment message edits in
    let head : List ℕ = front_of from ++ concat texts in
    let body : List ℕ = shielded edits.prefix (lines message.body) in
    let rest : List ℕ = codes "\n" ++ body in
    let well : IsBegun head = subst (λ line. IsBegun (front_of line ++ concat texts)) (sym (line_is message edits moment writes))
    (begun_by (begins_from texts) texts who moment refl (edited_filled edits message.head writes.texts) (sender_clear (texts_of message.head))) in
    let is : edited message edits from ≡ ended (head ++ rest) =
    written_is message edits from writes ∙ ap ended (append_assoc head (codes "\n") body) in
    let quiet : Quiet true (head ++ rest) =
    quiet-filled true head rest well.filled ((λ _. refl), calm-shielded edits.prefix message.body (hides_shields edits.prefix writes.prefix)) in
    subst StandsAlone (sym is) (ended_alone (head ++ rest) (from_more head rest well.begun) quiet)

-- and so does each of several
all_alone : (edits : Edits) (moment : ℤ) (mails : List (List ℕ)) → ((mail : List ℕ) → StandsAlone (edited_at moment edits mail))
    → (k : ℕ) (d : List ℕ) → k < length (all_edited moment edits mails) → StandsAlone (get_or (all_edited moment edits mails) k d)
all_alone edits moment [] each k d less = absurd (omega (arith, less))
all_alone edits moment (mail ∷ mails) each zero d less = each mail
all_alone edits moment (mail ∷ mails) each (suc k) d less = all_alone edits moment mails each k d (omega (arith, less))

pub edited_are_mails : EditedStandAlone → EditedAreMails
edited_are_mails alone edits moment box mails writes between =
    texts_are_mails StandsAlone one_more box (all_edited moment edits mails) between
    (λ k d less. all_alone edits moment mails (λ mail. alone edits moment mail writes) k d less)
