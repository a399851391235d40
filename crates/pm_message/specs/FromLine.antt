-- The line `From ` that begins a mail, and the mail with a new one.
use Rattle.std.specs.Prelude.{ℕ, ℤ, ◌==◌, ◌||◌, ◌++◌, List, drop, Bool, true, false, not, nat_eq, codes, if◌then◌else◌}
use Rattle.std.specs.List.{starts_with, before_first, after_first, position_or_len}
use Rattle.pm_bytes.specs.Letter.{is_blank_byte}
use Rattle.pm_message.specs.Date.{from_line_of}
use Rattle.pm_message.specs.Split.{split_of}
use Rattle.pm_message.specs.declared.head.Message.{Message}
use Rattle.pm_message.specs.declared.renewal.Renew.{Renew}
use Rattle.pm_message.specs.declared.renewal.Renew.TheVariants.{Keep, AddMissing, Sender, Date}

-- the first line starts with `From `
abbrev pub has_from_line : List ℕ → Bool
has_from_line bytes = starts_with nat_eq bytes (codes "From ")

-- whether a From line is made: always for a sender of its own or a new date, else where one is missing and wanted
abbrev pub makes_line : List ℕ → Renew → Bool
makes_line bytes Keep = false
makes_line bytes AddMissing = not (has_from_line bytes)
makes_line bytes (Sender who) = true
makes_line bytes Date = true

-- the byte ends a line
abbrev pub is_newline : ℕ → Bool
is_newline byte = byte == 10

-- the mail without its first line, where that starts with `From `
abbrev pub without_line : List ℕ → List ℕ
without_line bytes = if has_from_line bytes then after_first is_newline bytes else bytes

-- the byte is no blank
abbrev pub is_no_blank : ℕ → Bool
is_no_blank byte = not (is_blank_byte byte)

-- a word ends before a blank or a newline
abbrev pub ends_word : ℕ → Bool
ends_word byte = is_blank_byte byte || is_newline byte

-- the bytes without the blanks at their front
abbrev pub after_blanks : List ℕ → List ℕ
after_blanks bytes = drop (position_or_len is_no_blank bytes) bytes

-- the sender of a line `From `: the bytes after `From ` and blanks, up to the next blank or newline
abbrev pub sender_of : List ℕ → List ℕ
sender_of bytes = before_first ends_word (after_blanks (drop 5 bytes))

-- whom a new line is from: the sender that is given, for a new date the one that was, else the one of this name
abbrev pub who_of : List ℕ → Renew → List ℕ → List ℕ
who_of bytes Keep logname = logname
who_of bytes AddMissing logname = logname
who_of bytes (Sender who) logname = who
who_of bytes Date logname = if has_from_line bytes then sender_of bytes else logname

-- where a line is made, it stands before the mail without its old one
abbrev pub renewed_of : List ℕ → Renew → List ℕ → ℤ → List ℕ
renewed_of bytes renew logname moment =
    if makes_line bytes renew then from_line_of (who_of bytes renew logname) moment ++ without_line bytes
    else bytes

-- the head and the body of the mail with its From line as it is asked for
abbrev pub prepared_of : List ℕ → Renew → List ℕ → ℤ → Message
prepared_of bytes renew logname moment = split_of (renewed_of bytes renew logname moment)
