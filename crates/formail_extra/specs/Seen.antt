-- A field's content in one line, and the identifier of a mail.
use Rattle.std.specs.Prelude.{ℕ, true, ◌-◌, nat_eq, nat_lt, Option, Some, None, option_map, option_and_then, List, take, drop, length, codes, if◌then◌else◌}
use Rattle.std.specs.List.{ends_with, prefix_len, suffix_len}
use Rattle.pm_bytes.specs.Letter.{is_blank_byte}
use Rattle.pm_message.specs.Field.{texts_of}
use Rattle.pm_message.specs.declared.head.Message.{Message}
use Rattle.formail_edit.specs.Keyed.{keyed}
use Rattle.formail_edit.specs.Step.{joined}
use Rattle.formail_edit.specs.Sender.{first_content}

-- a content without its last newline
abbrev pub without_newline : List ℕ → List ℕ
without_newline text = if ends_with nat_eq text (codes "\n") then take (length text - 1) text else text

-- a text without the blanks at its end
abbrev pub without_blanks_after : List ℕ → List ℕ
without_blanks_after text = take (length text - suffix_len is_blank_byte text) text

-- and without the blanks at both ends
abbrev pub without_blanks : List ℕ → List ℕ
without_blanks text = without_blanks_after (drop (prefix_len is_blank_byte text) text)

-- a field's content in one line
abbrev pub line_of : List ℕ → List ℕ
line_of content = without_blanks (without_newline (joined content))

-- nothing counts as none
abbrev pub unless_empty : List ℕ → Option (List ℕ)
unless_empty text = if nat_lt 0 (length text) then Some text else None

-- the content of the first field that the name means, in one line; none where that is empty
abbrev pub line_in : List ℕ → List (List ℕ) → Option (List ℕ)
line_in name texts =
    option_and_then (λ content. unless_empty (line_of content)) (first_content name (keyed true texts))

-- so many bytes of an identifier count
abbrev pub longest_id : ℕ
longest_id = 4096

-- the identifier of a mail: at most 4,096 bytes of its first `Message-ID:`
abbrev pub identifier_of : Message → Option (List ℕ)
identifier_of message = option_map (take longest_id) (line_in (codes "Message-ID:") (texts_of message.head))
