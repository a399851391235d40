-- Lines of logs, and what they tell.
use Rattle.std.specs.Prelude.{◌≡◌, ℕ, ◌-◌, ◌^◌, true, false, List, [], ◌∷◌, None, Some, codes}
use Rattle.log_summary.specs.Days.{month_of, day_of, day_of_line, day_written, is_earlier, is_before, awaited_after, from_day}
use Rattle.log_summary.specs.Folders.{folder}
use Rattle.log_summary.specs.LogLines.{delivery_in, message_in}
use Rattle.log_summary.specs.Messages.{kind}
use Rattle.log_summary.specs.Tallies.{Row, deliveries, grown, messages}
use Rattle.log_summary.specs.declared.date.Day.{Day}

-- a day of this year, month and day of the month
abbrev pub day : ℕ → ℕ → ℕ → Day
day year month day_of_month = record { year = year; month = month; day = day_of_month }

-- a name with its count and its bytes
abbrev pub row : List ℕ → ℕ → ℕ → Row
row name count bytes = record { name = name; count = count; bytes = bytes }

-- Which folder a line names, and which message it is.
pub record OfLines : Type 0 where
  -- the line of an abstract: the name, blanks and the size
  pub delivery : delivery_in (codes "  Folder: mbox\t\t\t    1234") ≡ Some (codes "mbox", 1234)
  pub name_with_blanks : delivery_in (codes "  Folder: my box 7 \t12") ≡ Some (codes "my box 7", 12)
  pub blank_before_size : delivery_in (codes "  Folder: mbox 3") ≡ Some (codes "mbox", 3)
  pub no_size : delivery_in (codes "  Folder: mbox") ≡ None
  pub no_number : delivery_in (codes "  Folder: mbox\t12a") ≡ None
  pub other_front : delivery_in (codes " Folder: mbox\t12") ≡ None
  pub subject : delivery_in (codes " Subject: Folder: mbox\t12") ≡ None
  -- a message of procmail
  pub message : message_in (codes "procmail: No delivery was made") ≡ Some (codes "No delivery was made")
  pub no_message : message_in (codes " procmail: x") ≡ None
  pub other_case : message_in (codes "Procmail: x") ≡ None
  -- its kind is the text before the first double quote, with `N` for each number
  pub kind_without_name : kind (codes "Couldn't write to \"mbox\" \"x\"") ≡ codes "Couldn't write to"
  pub kind_with_numbers : kind (codes "Program failure (127) of \"a 12\"") ≡ codes "Program failure (N) of"
  pub kind_of_two_numbers : kind (codes "12 bytes of 3 left in \"mbox\"") ≡ codes "N bytes of N left in"
  pub kind_at_the_end : kind (codes "Error 75") ≡ codes "Error N"
  pub kind_with_blanks : kind (codes "Lost \t ") ≡ codes "Lost"
  pub kind_of_a_name : kind (codes "\"mbox\"") ≡ []
  -- the files of a plain directory, of a maildir and of an MH directory count as their directory
  pub a_file : folder (codes "mail/mbox") ≡ codes "mail/mbox"
  pub no_slash : folder (codes "msg.1") ≡ codes "msg.1"
  pub plain_directory : folder (codes "a/msgs/msg.X_y-9") ≡ codes "a/msgs/"
  pub no_plain_name : folder (codes "msgs/msg.") ≡ codes "msgs/msg."
  pub no_plain_byte : folder (codes "msgs/msg.a.b") ≡ codes "msgs/msg.a.b"
  pub other_prefix : folder (codes "msgs/m.1") ≡ codes "msgs/m.1"
  pub maildir : folder (codes "Maildir/new/1700000000.42_1-2.host:2,S+%@") ≡ codes "Maildir/"
  pub in_cur : folder (codes "Maildir/cur/1700000000.42_1.host") ≡ codes "Maildir/cur/1700000000.42_1.host"
  pub no_maildir_byte : folder (codes "Maildir/new/a b") ≡ codes "Maildir/new/a b"
  pub no_maildir_name : folder (codes "Maildir/new/") ≡ codes "Maildir/new/"
  pub no_new : folder (codes "Renew/a.b") ≡ codes "Renew/a.b"
  pub mh : folder (codes "mh/12") ≡ codes "mh/."
  pub no_mh_number : folder (codes "mh/12a") ≡ codes "mh/12a"
  pub no_mh_name : folder (codes "mh/") ≡ codes "mh/"

-- From which line on a log counts.
pub record OfDays : Type 0 where
  pub january : month_of (codes "Jan") ≡ Some 1
  pub february : month_of (codes "Feb") ≡ Some 2
  pub march : month_of (codes "Mar") ≡ Some 3
  pub april : month_of (codes "Apr") ≡ Some 4
  pub may : month_of (codes "May") ≡ Some 5
  pub june : month_of (codes "Jun") ≡ Some 6
  pub july : month_of (codes "Jul") ≡ Some 7
  pub august : month_of (codes "Aug") ≡ Some 8
  pub september : month_of (codes "Sep") ≡ Some 9
  pub october : month_of (codes "Oct") ≡ Some 10
  pub november : month_of (codes "Nov") ≡ Some 11
  pub december : month_of (codes "Dec") ≡ Some 12
  pub other_case : month_of (codes "jan") ≡ None
  pub no_day : day_of [] ≡ None
  -- the moment stands at the end of the line `From `, whatever the sender is
  pub of_line : day_of_line (codes "From a@b.c Thu Jan  1 00:00:00 1970") ≡ Some (day 1970 1 1)
  pub of_long_sender : day_of_line (codes "From a b Sat Jan 31 23:59:59 2026") ≡ Some (day 2026 1 31)
  pub no_sender : day_of_line (codes "From Thu Jan  1 00:00:00 1970") ≡ Some (day 1970 1 1)
  pub too_short : day_of_line (codes "From Thu Jan  1 00:00:00 197") ≡ None
  pub other_line : day_of_line (codes " Subject: x Thu Jan  1 00:00:00 1970") ≡ None
  pub no_moment : day_of_line (codes "From a@b.c whenever it may be, or not") ≡ None
  -- a day as it is given
  pub written : day_written (codes "2026-01-31") ≡ Some (day 2026 1 31)
  pub too_long : day_written (codes "2026-01-311") ≡ None
  pub first_sign : day_written (codes "2026/01-31") ≡ None
  pub second_sign : day_written (codes "2026-01/31") ≡ None
  pub no_number : day_written (codes "2026-01-3x") ≡ None
  -- the year counts most, then the month
  pub year : is_earlier (day 2025 12 31) (day 2026 1 1) ≡ true
  pub later_year : is_earlier (day 2026 1 1) (day 2025 12 31) ≡ false
  pub month : is_earlier (day 2026 1 31) (day 2026 2 1) ≡ true
  pub later_month : is_earlier (day 2026 2 1) (day 2026 1 31) ≡ false
  pub day_before : is_earlier (day 2026 1 1) (day 2026 1 2) ≡ true
  pub same_day : is_earlier (day 2026 1 1) (day 2026 1 1) ≡ false
  -- the lines from the first mail of that day or a later one on, also those of mails without a day
  pub all_lines : from_day None (codes "a" ∷ []) ≡ codes "a" ∷ []
  pub from_first : from_day (Some (day 2026 1 2)) (codes "From a Thu Jan  1 00:00:00 2026" ∷ codes "b"
      ∷ codes "From c Fri Jan  2 00:00:00 2026" ∷ codes "d" ∷ codes "From e Thu Jan  1 00:00:00 2026" ∷ [])
      ≡ codes "From c Fri Jan  2 00:00:00 2026" ∷ codes "d" ∷ codes "From e Thu Jan  1 00:00:00 2026" ∷ []
  pub no_line : from_day (Some (day 2026 1 2)) (codes "a" ∷ codes "From a Thu Jan  1 00:00:00 2026" ∷ []) ≡ []
  pub still_awaited : awaited_after (Some (day 2026 1 2)) None ≡ Some (day 2026 1 2)
  pub has_come : awaited_after (Some (day 2026 1 2)) (Some (day 2026 1 2)) ≡ None
  pub came_before : awaited_after None None ≡ None
  pub without_a_day : is_before (day 1970 1 1) None ≡ true

-- How the lines of a log are summed up.
pub record OfSums : Type 0 where
  -- folders stand in the order of their first mails, with the number of their mails and the sum of their sizes
  pub folders : deliveries [] (codes "  Folder: mbox\t10" ∷ codes "  Folder: d/msg.a\t1" ∷ codes "  Folder: mbox\t5" ∷ codes "x"
      ∷ codes "  Folder: d/msg.b\t2" ∷ [])
      ≡ row (codes "mbox") 2 15 ∷ row (codes "d/") 2 3 ∷ []
  pub after_others : deliveries (row (codes "a") 1 1 ∷ []) (codes "  Folder: b\t2" ∷ []) ≡ row (codes "a") 1 1 ∷ row (codes "b") 1 2 ∷ []
  -- messages of one kind count together, without bytes
  pub kinds : messages [] (codes "procmail: Skipped \"a\"" ∷ codes "procmail: Value of 12 bytes is too long" ∷ codes "procmail: Skipped \"b\""
      ∷ codes "  Folder: mbox\t10" ∷ [])
      ≡ row (codes "Skipped") 2 0 ∷ row (codes "Value of N bytes is too long") 1 0 ∷ []
  -- a number stays at 2^64 - 1
  pub begins : grown 7 None ≡ 7
  pub grows : grown 7 (Some 5) ≡ 12
  pub stays : grown 2 (Some (2 ^ 64 - 2)) ≡ 2 ^ 64 - 1
