-- The line on which a recipe begins.
use Rattle.std.specs.Prelude.{ℕ, List, [], ◌∷◌, if◌then◌else◌, nat_eq, nat_lt, Bool, false, true, not, ◌&&◌, ◌||◌, take, drop, length, Option, Some, None, codes}
use Rattle.std.specs.List.{list_any}
use Rattle.pm_recipe.specs.Bytes.{begins_with}
use Rattle.pm_recipe.specs.Places.{far, text_after, rest_of}
use Rattle.pm_recipe.specs.declared.runs.Run.TheVariants as Run
use Rattle.pm_recipe.specs.declared.runs.UpTo.TheVariants as UpTo
use Rattle.pm_recipe.specs.declared.line_words.InFlags.TheVariants as InFlags
use Rattle.pm_recipe.specs.declared.line_words.InTail.TheVariants as InTail
use Rattle.pm_recipe.specs.declared.words.InWord.TheVariants as InWord
use Rattle.pm_recipe.specs.Runs.{run_places, up_to_places}
use Rattle.pm_recipe.specs.LineWords.{flag_places, tail_places}
use Rattle.pm_recipe.specs.WordPlaces.{word_places, is_quote}
use Rattle.pm_bytes.specs.Alphabet.{NEWLINE, HASH, COLON, ZERO}
use Rattle.pm_recipe.specs.declared.tree.Flags.{Flags}

-- a word; one that begins with `#` is a comment, and the word is empty
abbrev pub word_length : List ℕ → ℕ
word_length text = if begins_with HASH text then 0 else far word_places InWord.Plain text

-- whether a quote of the word isn't closed
abbrev pub is_unclosed : List ℕ → Bool
is_unclosed text = not (begins_with HASH text) && is_quote (rest_of word_places false InWord.Plain text)

-- a newline, a comment or the end
abbrev pub ends_statement : List ℕ → Bool
ends_statement [] = true
ends_statement (byte ∷ bytes) = nat_eq byte NEWLINE || nat_eq byte HASH

-- whether a colon and a zero begin the text
abbrev pub begins_recipe : List ℕ → Bool
begins_recipe text = begins_with COLON text && begins_with ZERO (text_after run_places Run.Joins (drop 1 text))

-- what follows the zero
abbrev pub after_zero : List ℕ → List ℕ
after_zero text = drop 1 (text_after run_places Run.Joins (drop 1 text))

-- the bytes after the zero among which the flags stand
abbrev pub flags_part : List ℕ → List ℕ
flags_part text = take (far flag_places InFlags.Word (after_zero text)) (after_zero text)

-- what follows the flags
abbrev pub after_flags : List ℕ → List ℕ
after_flags text = text_after flag_places InFlags.Word (after_zero text)

-- a second colon begins a lock
abbrev pub has_lock : List ℕ → Bool
has_lock text = begins_with COLON (after_flags text)

-- from the lock's text on
abbrev pub lock_part : List ℕ → List ℕ
lock_part text = text_after run_places Run.Blanks (drop 1 (after_flags text))

-- what follows the lock's text
abbrev pub after_lock : List ℕ → List ℕ
after_lock text = drop (word_length (lock_part text)) (lock_part text)

-- what follows the line
abbrev pub behind_colon : List ℕ → List ℕ
behind_colon text = if has_lock text then text_after tail_places InTail.Fresh (after_lock text) else text_after up_to_places UpTo.Newline (after_flags text)

-- the lock's text as written, where there is a lock
abbrev pub lock_of : List ℕ → Option (List ℕ)
lock_of text = if has_lock text then Some (take (word_length (lock_part text)) (lock_part text)) else None

-- another byte than a blank or a letter among the flags, or another text than a comment after the lock
abbrev pub has_junk : List ℕ → Bool
has_junk text =
    nat_lt (far run_places Run.Letters (flags_part text)) (length (flags_part text))
    || (has_lock text && not (ends_statement (text_after run_places Run.Blanks (after_lock text))))

-- whether the flag of a letter is among these bytes
abbrev pub has_letter : List ℕ → List ℕ → Bool
has_letter letter text = list_any (λ byte. begins_with byte letter) text

-- the flags H B D h b f c w W i r A a E e
abbrev pub flags_of : List ℕ → Flags
flags_of text = record {
  search_head = has_letter (codes "H") text;
  search_body = has_letter (codes "B") text;
  distinguish = has_letter (codes "D") text;
  feed_head = has_letter (codes "h") text;
  feed_body = has_letter (codes "b") text;
  filter = has_letter (codes "f") text;
  copy = has_letter (codes "c") text;
  wait = has_letter (codes "w") text;
  wait_quiet = has_letter (codes "W") text;
  ignore = has_letter (codes "i") text;
  raw = has_letter (codes "r") text;
  and_chain = has_letter (codes "A") text;
  and_ok = has_letter (codes "a") text;
  or_else = has_letter (codes "E") text;
  on_error = has_letter (codes "e") text;
}
