-- The readers of flags, and of a text to a line's end, which count whether a word can begin.
use Rattle.std.specs.Prelude.{ℕ, if◌then◌else◌, nat_eq, Bool, false, true, ◌||◌}
use Rattle.pm_bytes.specs.Letter.{is_blank_byte}
use Rattle.pm_bytes.specs.Alphabet.{NEWLINE, HASH, COLON}
use Rattle.pm_recipe.specs.Places.{Places}
use Rattle.pm_recipe.specs.declared.line_words.InFlags.{InFlags}
use Rattle.pm_recipe.specs.declared.line_words.InTail.{InTail}

-- whether flags end before this byte; a `#` that begins a word begins a comment
abbrev pub flag_ends : InFlags → ℕ → Bool
flag_ends InFlags.Fresh byte = nat_eq byte NEWLINE || nat_eq byte COLON || nat_eq byte HASH
flag_ends InFlags.Word byte = nat_eq byte NEWLINE || nat_eq byte COLON

-- among flags
abbrev pub flag_places : Places InFlags
flag_places = record {
  joins = λ place. true;
  ends = flag_ends;
  after = λ place byte. if is_blank_byte byte then InFlags.Fresh else InFlags.Word;
}

-- in a comment lines aren't joined
abbrev pub tail_joins : InTail → Bool
tail_joins InTail.Comment = false
tail_joins _ = true

-- a `#` that begins a word begins a comment
abbrev pub tail_after : InTail → ℕ → InTail
tail_after InTail.Fresh byte = if nat_eq byte HASH then InTail.Comment else if is_blank_byte byte then InTail.Fresh else InTail.Word
tail_after InTail.Word byte = if is_blank_byte byte then InTail.Fresh else InTail.Word
tail_after InTail.Comment byte = InTail.Comment

-- in a text to a line's end
abbrev pub tail_places : Places InTail
tail_places = record { joins = tail_joins; ends = λ place byte. nat_eq byte NEWLINE; after = tail_after }
