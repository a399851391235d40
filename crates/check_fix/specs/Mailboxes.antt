-- Mailboxes, as docs/MOVING.md, "Actions", has them.
use Rattle.std.specs.Prelude.{ℕ, Bool, not, ◌||◌, ◌&&◌, List, [], ◌++◌, length, nat_eq, codes, if◌then◌else◌}
use Rattle.std.specs.List.{list_any}
use Rattle.pm_bytes.specs.Alphabet.{BACKQUOTE, BACKSLASH, DOUBLE_QUOTE, HASH, SINGLE_QUOTE}
use Rattle.pm_bytes.specs.Letter.{is_blank_byte}
use Rattle.check_fix.specs.Edits.{edit_at}
use Rattle.check_fix.specs.Parts.{from_blank, from_part}
use Rattle.check_fix.specs.declared.edits.Edit.{Edit}

-- a quote, a backslash or a `#`
abbrev pub is_special : ℕ → Bool
is_special byte =
    nat_eq byte DOUBLE_QUOTE || nat_eq byte SINGLE_QUOTE || nat_eq byte BACKQUOTE || nat_eq byte BACKSLASH || nat_eq byte HASH

-- a text without such a byte
abbrev pub is_simple : List ℕ → Bool
is_simple text = not (list_any is_special text)

-- `my mail`: `my`
abbrev pub several_edits : ℕ → List ℕ → List Edit
several_edits first text =
    if is_simple text then edit_at first text (from_blank text) (length (from_blank text)) [] else []

-- `mbox#1`: `mbox #1`
abbrev pub hash_edits : ℕ → List ℕ → List Edit
hash_edits first text = edit_at first text (from_part (codes "#") text) 0 (codes " ")

-- one word
abbrev pub is_word : List ℕ → Bool
is_word text = is_simple text && not (list_any is_blank_byte text)

-- `list-$MATCH`: `"list-$MATCH"`
abbrev pub match_edits : ℕ → List ℕ → List Edit
match_edits first text =
    if is_word text then edit_at first text text (length text) ((codes "\"" ++ text) ++ codes "\"") else []
