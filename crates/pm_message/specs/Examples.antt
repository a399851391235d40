-- Mails in small examples: where the head ends, its fields, what conditions search, what a mailbox or a program gets, and
-- the line `From ` with its date.
use Rattle.std.specs.Prelude.{◌≡◌, ℕ, pos, negsuc, true, false, List, [], ◌∷◌, ◌++◌, codes}
use Rattle.std.specs.List.{filter, range_with_len}
use Rattle.pm_message.specs.Area.{area_of}
use Rattle.pm_message.specs.Calendar.{day_after, days_before}
use Rattle.pm_message.specs.Date.{date_of, from_line_of, moved}
use Rattle.pm_message.specs.Field.{fields_of, is_name_byte, key_of, texts_of}
use Rattle.pm_message.specs.FromLine.{makes_line, prepared_of, renewed_of}
use Rattle.pm_message.specs.Lines.{lines}
use Rattle.pm_message.specs.Piece.{piece_of}
use Rattle.pm_message.specs.Split.{split_of, whole_of}
use Rattle.pm_message.specs.declared.areas.Place.TheVariants.{H, B, Hb}
use Rattle.pm_message.specs.declared.date.Day.{Day}
use Rattle.pm_message.specs.declared.head.Message.{Message}
use Rattle.pm_message.specs.declared.head_fields.Field.{Field}
use Rattle.pm_message.specs.declared.head_fields.FieldKind.{FieldKind}
use Rattle.pm_message.specs.declared.head_fields.FieldKind.TheVariants as kind
use Rattle.pm_message.specs.declared.head_fields.Key.{Key}
use Rattle.pm_message.specs.declared.pieces.Feed.TheVariants.{Both, Head, Body}
use Rattle.pm_message.specs.declared.pieces.Kind.TheVariants.{MailboxFile, Other}
use Rattle.pm_message.specs.declared.renewal.Renew.TheVariants.{Keep, AddMissing, Sender, Date}

-- a mail of this head and body
abbrev pub mail : List ℕ → List ℕ → Message
mail head body = record { head = head; body = body }

-- Where the head ends.
pub record HeadExamples : Type 0 where
  -- each line has its newline, which only the last may lack
  pub three_lines : lines (codes "a\n\nb") ≡ codes "a\n" ∷ codes "\n" ∷ codes "b" ∷ []
  -- the head ends with the first empty line
  pub first_empty_line : split_of (codes "To: ann\n\nhi\n\nbye\n") ≡ mail (codes "To: ann\n\n") (codes "hi\n\nbye\n")
  -- where the first line is empty, the head is that line
  pub no_field : split_of (codes "\nhi\n") ≡ mail (codes "\n") (codes "hi\n")
  -- a line of blanks isn't empty, and a mail without an empty line is all head
  pub line_of_blanks : split_of (codes "To: ann\n \nhi\n") ≡ mail (codes "To: ann\n \nhi\n") []
  pub no_last_newline : split_of (codes "To: ann\nCc: bob") ≡ mail (codes "To: ann\nCc: bob") []
  pub no_bytes : split_of [] ≡ mail [] []
  -- both in one piece
  pub in_one_piece : whole_of (mail (codes "To: ann\n\n") (codes "hi")) ≡ codes "To: ann\n\nhi"

-- a key of this kind and length
abbrev pub key : FieldKind → ℕ → Key
key kind length = record { kind = kind; length = length }

-- a field of this kind, from one place to another, with its key up to the place between
abbrev pub field : FieldKind → ℕ → ℕ → ℕ → Field
field kind start key_end end = record { kind = kind; start = start; key_end = key_end; end = end }

-- The fields of a head.
pub record FieldExamples : Type 0 where
  -- a line that begins with a blank or a tab goes on with the field before it, and the empty line is in no field
  pub folded : texts_of (codes "To: ann\nSubject: a\n b\n\tc\nCc: bob\n\n")
      ≡ codes "To: ann\n" ∷ codes "Subject: a\n b\n\tc\n" ∷ codes "Cc: bob\n" ∷ []
  -- a last line without its newline gets one
  pub no_last_newline : texts_of (codes "To: ann\nCc: bob") ≡ codes "To: ann\n" ∷ codes "Cc: bob\n" ∷ []
  -- the first line begins a field, whatever it begins with
  pub first_line_is_indented : texts_of (codes " a\nTo: ann\n") ≡ codes " a\n" ∷ codes "To: ann\n" ∷ []
  pub no_field : texts_of (codes "\n") ≡ []
  pub no_bytes : texts_of [] ≡ []
  -- the key of a field is a name and its colon
  pub named : key_of false (codes "Subject: a: b\n") ≡ key kind.Named 8
  pub named_by_signs : key_of false (codes "!~:a\n") ≡ key kind.Named 3
  pub all_of_names : filter is_name_byte (range_with_len 0 256) ≡ range_with_len 33 25 ++ range_with_len 59 68
  -- a name has only bytes from `!` to `~` and no colon, and it isn't empty
  pub name_with_blank : key_of false (codes "To : ann\n") ≡ key kind.Other 0
  pub name_with_tab : key_of false (codes "To\t: ann\n") ≡ key kind.Other 0
  pub name_with_delete : key_of false (84 ∷ 127 ∷ codes ": ann\n") ≡ key kind.Other 0
  pub no_name : key_of false (codes ": ann\n") ≡ key kind.Other 0
  pub no_colon : key_of false (codes "Subject\n") ≡ key kind.Other 0
  -- the line `From ` has a key as the first field alone, and it isn't the field `From:`
  pub from_line : key_of true (codes "From ann Thu\n") ≡ key kind.FromLine 5
  pub later_from_line : key_of false (codes "From ann Thu\n") ≡ key kind.Other 0
  pub tab_after_from : key_of true (codes "From\tann\n") ≡ key kind.Other 0
  pub from_field : key_of true (codes "From: ann\n") ≡ key kind.Named 5
  -- fields stand one after the other
  pub places : fields_of (codes "From ann Thu\nTo: bob,\n cc\nsee below\n\n")
      ≡ field kind.FromLine 0 5 13 ∷ field kind.Named 13 16 26 ∷ field kind.Other 26 26 36 ∷ []

-- What conditions search, by the flags H and B.
pub record AreaExamples : Type 0 where
  -- H is the head without the newline of its empty line, B is the body, and HB is H, a newline and B
  pub head : area_of (mail (codes "To: ann\n\n") (codes "hi\n")) H ≡ codes "To: ann\n"
  pub body : area_of (mail (codes "To: ann\n\n") (codes "hi\n")) B ≡ codes "hi\n"
  pub both : area_of (mail (codes "To: ann\n\n") (codes "hi\n")) Hb ≡ codes "To: ann\n\nhi\n"
  -- in the head a newline and the blank or tab after it read as one blank
  pub folded : area_of (mail (codes "Subject: a\n b\n\tc\n\td\n\n") []) H ≡ codes "Subject: a b c d\n"
  pub folded_and_indented : area_of (mail (codes "Subject: a\n \t b\n\n") []) H ≡ codes "Subject: a \t b\n"
  pub folded_in_both : area_of (mail (codes "Subject: a\n b\n\n") (codes "c\n d\n")) Hb ≡ codes "Subject: a b\n\nc\n d\n"
  -- in the body they stay
  pub folded_in_body : area_of (mail (codes "To: ann\n\n") (codes "c\n d\n")) B ≡ codes "c\n d\n"
  -- a head without an empty line is searched as it is, and one that is an empty line has no bytes to search
  pub no_empty_line : area_of (mail (codes "To: ann\n") []) H ≡ codes "To: ann\n"
  pub no_last_newline : area_of (mail (codes "To: ann") []) H ≡ codes "To: ann"
  pub no_field : area_of (mail (codes "\n") (codes "hi\n")) H ≡ []
  pub no_field_in_both : area_of (mail (codes "\n") (codes "hi\n")) Hb ≡ codes "\nhi\n"
  pub no_head : area_of (mail [] []) H ≡ []

-- what a mailbox gets of both parts, without the flag `r`
abbrev pub to_mailbox : List ℕ → List ℕ → List ℕ
to_mailbox head body = piece_of (mail head body) Both MailboxFile false

-- What a mailbox or a program gets.
pub record PieceExamples : Type 0 where
  -- in a mailbox `>` is put before each line of the body that starts with `From `, and before no other
  pub escaped : to_mailbox (codes "To: ann\n\n") (codes "From a\nthe From line\n>From b\nFrom: c\n\nFrom d\n\n")
      ≡ codes "To: ann\n\n>From a\nthe From line\n>From b\nFrom: c\n\n>From d\n\n"
  pub begins_a_mail : to_mailbox (codes "From ann Thu\nFrom bob Thu\n\n") (codes "hi\n\n")
      ≡ codes "From ann Thu\nFrom bob Thu\n\nhi\n\n"
  -- it ends with an empty line: newlines are added until two are there
  pub no_newline : to_mailbox (codes "To: ann\n\n") (codes "hi") ≡ codes "To: ann\n\nhi\n\n"
  pub one_newline : to_mailbox (codes "To: ann\n\n") (codes "hi\n") ≡ codes "To: ann\n\nhi\n\n"
  pub two_newlines : to_mailbox (codes "To: ann\n\n") (codes "hi\n\n") ≡ codes "To: ann\n\nhi\n\n"
  pub three_newlines : to_mailbox (codes "To: ann\n\n") (codes "hi\n\n\n") ≡ codes "To: ann\n\nhi\n\n\n"
  pub no_field : to_mailbox (codes "\n") [] ≡ codes "\n\n"
  -- but no newline is added where there are no bytes, nor with the flag `r`
  pub no_bytes : to_mailbox [] [] ≡ []
  pub raw : piece_of (mail (codes "To: ann\n\n") (codes "From a")) Both MailboxFile true ≡ codes "To: ann\n\n>From a"
  -- the head or the body alone
  pub head_alone : piece_of (mail (codes "To: ann\n") (codes "hi")) Head MailboxFile false ≡ codes "To: ann\n\n"
  pub body_alone : piece_of (mail (codes "To: ann\n\n") (codes "From a\n")) Body MailboxFile false ≡ codes ">From a\n\n"
  -- a program gets the same bytes as they are
  pub both_as_they_are : piece_of (mail (codes "To: ann\n\n") (codes "From a")) Both Other false ≡ codes "To: ann\n\nFrom a"
  pub head_as_it_is : piece_of (mail (codes "To: ann") (codes "From a")) Head Other false ≡ codes "To: ann"
  pub body_as_it_is : piece_of (mail (codes "To: ann\n\n") (codes "From a")) Body Other false ≡ codes "From a"

-- The line `From ` in front of a mail, made at the beginning of 1970 for the user joe.
pub record FromLineExamples : Type 0 where
  -- a line that is asked for where it is missing is made where the first one doesn't start with `From `
  pub there_already : makes_line (codes "From ann Thu\nTo: bob\n") AddMissing ≡ false
  pub missing : makes_line (codes "To: bob\nFrom ann Thu\n") AddMissing ≡ true
  pub quoted : makes_line (codes ">From ann Thu\n") AddMissing ≡ true
  pub from_field : makes_line (codes "From: ann\n") AddMissing ≡ true
  pub small_letters : makes_line (codes "from ann Thu\n") AddMissing ≡ true
  -- one of a sender, or with a new date, is always made, and else none
  pub new_sender : makes_line (codes "From ann Thu\n") (Sender (codes "eve")) ≡ true
  pub new_date : makes_line (codes "From ann Thu\n") Date ≡ true
  pub kept : makes_line (codes "To: bob\n") Keep ≡ false
  -- what comes of the mail
  pub kept_mail : renewed_of (codes "To: bob\n") Keep (codes "joe") (pos 0) ≡ codes "To: bob\n"
  pub mail_with_line : renewed_of (codes "From ann Thu\nTo: bob\n") AddMissing (codes "joe") (pos 0)
      ≡ codes "From ann Thu\nTo: bob\n"
  pub added : renewed_of (codes "To: bob\n") AddMissing (codes "joe") (pos 0)
      ≡ codes "From joe Thu Jan  1 00:00:00 1970\nTo: bob\n"
  pub sender_added : renewed_of (codes "To: bob\n") (Sender (codes "eve")) (codes "joe") (pos 0)
      ≡ codes "From eve Thu Jan  1 00:00:00 1970\nTo: bob\n"
  -- an old line goes, and a new date keeps its sender, which ends at the next blank or the newline
  pub sender_replaced : renewed_of (codes "From ann Thu\nTo: bob\n") (Sender (codes "eve")) (codes "joe") (pos 0)
      ≡ codes "From eve Thu Jan  1 00:00:00 1970\nTo: bob\n"
  pub quoted_stays : renewed_of (codes ">From ann Thu\nTo: bob\n") (Sender (codes "eve")) (codes "joe") (pos 0)
      ≡ codes "From eve Thu Jan  1 00:00:00 1970\n>From ann Thu\nTo: bob\n"
  pub date_replaced : renewed_of (codes "From ann Mon\nTo: bob\n") Date (codes "joe") (pos 0)
      ≡ codes "From ann Thu Jan  1 00:00:00 1970\nTo: bob\n"
  pub sender_between_tabs : renewed_of (codes "From \t ann\tMon\nTo: bob\n") Date (codes "joe") (pos 0)
      ≡ codes "From ann Thu Jan  1 00:00:00 1970\nTo: bob\n"
  pub sender_ends_line : renewed_of (codes "From ann\nTo: bob\n") Date (codes "joe") (pos 0)
      ≡ codes "From ann Thu Jan  1 00:00:00 1970\nTo: bob\n"
  pub one_line : renewed_of (codes "From ann") Date (codes "joe") (pos 0) ≡ codes "From ann Thu Jan  1 00:00:00 1970\n"
  -- without one a new date asks for a line as if it were missing
  pub date_added : renewed_of (codes "To: bob\n") Date (codes "joe") (pos 0)
      ≡ codes "From joe Thu Jan  1 00:00:00 1970\nTo: bob\n"
  -- the new line is part of the head
  pub prepared : prepared_of (codes "\nhi\n") AddMissing (codes "joe") (pos 0)
      ≡ mail (codes "From joe Thu Jan  1 00:00:00 1970\n\n") (codes "hi\n")

-- a day of this year, month and day of the month
abbrev pub day : ℕ → ℕ → ℕ → Day
day year month day_of_month = record { year = year; month = month; day = day_of_month }

-- Dates, in UTC, of seconds since 1970.
pub record DateExamples : Type 0 where
  pub first_second : from_line_of (codes "joe") (pos 0) ≡ codes "From joe Thu Jan  1 00:00:00 1970\n"
  -- hours, minutes and seconds have two digits, and a day of one digit has a blank before it
  pub small_numbers : date_of 3_723 ≡ codes "Thu Jan  1 01:02:03 1970"
  pub last_second_of_a_day : date_of 86_399 ≡ codes "Thu Jan  1 23:59:59 1970"
  pub two_digits : date_of 777_600 ≡ codes "Sat Jan 10 00:00:00 1970"
  -- the days of the week
  pub friday : date_of 86_400 ≡ codes "Fri Jan  2 00:00:00 1970"
  pub saturday : date_of 172_800 ≡ codes "Sat Jan  3 00:00:00 1970"
  pub sunday : date_of 259_200 ≡ codes "Sun Jan  4 00:00:00 1970"
  pub monday : date_of 345_600 ≡ codes "Mon Jan  5 00:00:00 1970"
  pub tuesday : date_of 432_000 ≡ codes "Tue Jan  6 00:00:00 1970"
  pub wednesday : date_of 518_400 ≡ codes "Wed Jan  7 00:00:00 1970"
  -- the last second of each month, and the first of the next year
  pub january : date_of 2_678_399 ≡ codes "Sat Jan 31 23:59:59 1970"
  pub february : date_of 5_097_599 ≡ codes "Sat Feb 28 23:59:59 1970"
  pub march : date_of 7_775_999 ≡ codes "Tue Mar 31 23:59:59 1970"
  pub april : date_of 10_367_999 ≡ codes "Thu Apr 30 23:59:59 1970"
  pub may : date_of 13_046_399 ≡ codes "Sun May 31 23:59:59 1970"
  pub june : date_of 15_638_399 ≡ codes "Tue Jun 30 23:59:59 1970"
  pub july : date_of 18_316_799 ≡ codes "Fri Jul 31 23:59:59 1970"
  pub august : date_of 20_995_199 ≡ codes "Mon Aug 31 23:59:59 1970"
  pub september : date_of 23_587_199 ≡ codes "Wed Sep 30 23:59:59 1970"
  pub october : date_of 26_265_599 ≡ codes "Sat Oct 31 23:59:59 1970"
  pub november : date_of 28_857_599 ≡ codes "Mon Nov 30 23:59:59 1970"
  pub december : date_of 31_535_999 ≡ codes "Thu Dec 31 23:59:59 1970"
  pub next_year : date_of 31_536_000 ≡ codes "Fri Jan  1 00:00:00 1971"
  -- every fourth year is a leap year; of the centuries 2000 is one, and 2100 isn't
  pub leap_year : day_after (day 2004 2 28) ≡ day 2004 2 29
  pub leap_day : day_after (day 2004 2 29) ≡ day 2004 3 1
  pub leap_century : day_after (day 2000 2 28) ≡ day 2000 2 29
  pub other_century : day_after (day 2100 2 28) ≡ day 2100 3 1
  pub other_year : day_after (day 2003 2 28) ≡ day 2003 3 1
  -- how many days are between 1 January 1970 and a day
  pub first_day : days_before (day 1970 1 1) ≡ 0
  pub day_2004 : days_before (day 2004 2 29) ≡ 12_477
  -- a moment before 1970 is its first second, and one past the year 9998 is that year's last
  pub before : moved (negsuc 0) ≡ 0
  pub between : moved (pos 1_000_000_000) ≡ 1_000_000_000
  pub past : moved (pos 253_370_764_800) ≡ 253_370_764_799
