-- What a file holds, as the reply of its reading says.
use Rattle.std.specs.Prelude.{◌≤◌, ℕ, List, length, Option, Some, None}
use Rattle.pm_journal.specs.declared.acts.Reply.{Reply}
use Rattle.pm_journal.specs.declared.acts.Reply.TheVariants.{Content as ReplyContent, Missing as ReplyMissing, NotPlain as ReplyNotPlain, TooLong as ReplyTooLong, Faulted as ReplyFaulted}
use Rattle.pm_journal.specs.declared.reading.ReadEnd.{ReadEnd}
use Rattle.pm_journal.specs.declared.reading.ReadEnd.TheVariants.{Content, Missing, NotPlain, TooLong, Faulted}

-- what a reading that ended so answers
abbrev pub read_reply : ReadEnd → Reply
read_reply (Content bytes) = ReplyContent bytes
read_reply Missing = ReplyMissing
read_reply NotPlain = ReplyNotPlain
read_reply (TooLong n) = ReplyTooLong n
read_reply Faulted = ReplyFaulted

-- the bytes of a file that was read
abbrev pub content_of : Reply → Option (List ℕ)
content_of (ReplyContent bytes) = Some bytes
content_of other = None

-- no more bytes than a file may have
abbrev pub FitsFile : Option (List ℕ) → Type 0
FitsFile None = Unit {0}
FitsFile (Some bytes) = length bytes ≤ 1048576
