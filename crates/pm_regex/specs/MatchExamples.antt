-- What each part of an expression matches (procmailrc(5), "Extended regular expressions").
use Rattle.std.specs.Prelude.{ℕ, Bool, List, [], ◌∷◌, ◌≡◌, true, false, not, nat_eq, map, codes}
use Rattle.std.specs.List.{filter, range_with_len}
use Rattle.pm_regex.specs.Bytes.{first_of}
use Rattle.pm_regex.specs.Re.{Re, one, seq, either, times, nothing}
use Rattle.pm_regex.specs.declared.op.Atom.TheVariants.{Byte, Any, LineStart, LineEnd, WordStart, WordEnd, AreaStart, AreaEnd}
use Rattle.pm_regex.specs.declared.op.Times.TheVariants.{Star, Plus, Maybe}
use Rattle.pm_regex.specs.Matching.{At, atom_passes, atom_takes, other_case, set_takes}
use Rattle.pm_regex.specs.Found.{place_after}

-- the byte that is this text
abbrev pub byte : List ℕ → ℕ
byte text = first_of text

-- the bytes that a test refuses
abbrev pub refused : (ℕ → Bool) → List ℕ
refused test = filter (λ b. not (test b)) (range_with_len 0 256)

-- an area of two lines, whose bytes have the places 0 to 3
abbrev pub lines : List ℕ
lines = codes "a\nb\n"

-- the ranges of `[a-cX]`
abbrev pub ranges : List (ℕ × ℕ)
ranges = (97, 99) ∷ (88, 88) ∷ []

-- which bytes a part takes
pub record OfBytes : Type 0 where
  -- a byte is itself, and where case doesn't count the other case of a letter
  pub same : atom_takes false (Byte (byte (codes "a"))) (byte (codes "a")) ≡ true
  pub other : atom_takes true (Byte (byte (codes "a"))) (byte (codes "b")) ≡ false
  pub capital : atom_takes true (Byte (byte (codes "a"))) (byte (codes "A")) ≡ true
  pub small : atom_takes true (Byte (byte (codes "Z"))) (byte (codes "z")) ≡ true
  pub distinguished : atom_takes false (Byte (byte (codes "a"))) (byte (codes "A")) ≡ false
  pub no_letter : atom_takes true (Byte (byte (codes "@"))) (byte (codes "`")) ≡ false
  pub no_letter_too : atom_takes true (Byte (byte (codes "["))) (byte (codes "{")) ≡ false
  pub letters : refused (λ b. nat_eq (other_case b) b) ≡ codes "ABCDEFGHIJKLMNOPQRSTUVWXYZabcdefghijklmnopqrstuvwxyz"
  pub other_cases : map other_case (codes "AMZamz") ≡ codes "amzAMZ"
  -- a dot is any byte but a newline
  pub no_other : refused (atom_takes false Any) ≡ codes "\n"
  pub any : atom_takes false Any (byte (codes " ")) ≡ true
  pub any_byte : atom_takes false Any 255 ≡ true
  pub any_newline : atom_takes false Any (byte (codes "\n")) ≡ false
  -- the start of a line, and its end, may take a newline, and nothing else
  pub start_takes_newline : atom_takes false LineStart (byte (codes "\n")) ≡ true
  pub start_takes_no_letter : atom_takes false LineStart (byte (codes "a")) ≡ false
  pub end_takes_newline : atom_takes false LineEnd (byte (codes "\n")) ≡ true
  pub end_takes_no_letter : atom_takes false LineEnd (byte (codes "a")) ≡ false
  -- the edges of words take a byte that is no letter, no digit and no underscore
  pub in_words : refused (atom_takes false WordStart) ≡ codes "0123456789ABCDEFGHIJKLMNOPQRSTUVWXYZ_abcdefghijklmnopqrstuvwxyz"
  pub in_words_too : refused (atom_takes false WordEnd) ≡ refused (atom_takes false WordStart)
  pub blank_before_word : atom_takes false WordStart (byte (codes " ")) ≡ true
  pub minus_before_word : atom_takes false WordStart (byte (codes "-")) ≡ true
  pub letter_before_word : atom_takes false WordStart (byte (codes "z")) ≡ false
  pub capital_before_word : atom_takes false WordStart (byte (codes "Z")) ≡ false
  pub digit_before_word : atom_takes false WordStart (byte (codes "9")) ≡ false
  pub underscore_before_word : atom_takes false WordStart (byte (codes "_")) ≡ false
  pub newline_after_word : atom_takes false WordEnd (byte (codes "\n")) ≡ true
  pub letter_after_word : atom_takes false WordEnd (byte (codes "a")) ≡ false
  pub digit_after_word : atom_takes false WordEnd (byte (codes "0")) ≡ false
  -- the ends of the area take none
  pub area_start : atom_takes false AreaStart (byte (codes "\n")) ≡ false
  pub area_end : atom_takes false AreaEnd (byte (codes "\n")) ≡ false
  -- a bracket expression takes its members, where case doesn't count in either case
  pub member : set_takes false false ranges (byte (codes "b")) ≡ true
  pub last_of_range : set_takes false false ranges (byte (codes "c")) ≡ true
  pub single_member : set_takes false false ranges (byte (codes "X")) ≡ true
  pub no_member : set_takes false false ranges (byte (codes "d")) ≡ false
  pub other_case_of_member : set_takes false false ranges (byte (codes "x")) ≡ false
  pub folded_member : set_takes true false ranges (byte (codes "x")) ≡ true
  pub folded_range : set_takes true false ranges (byte (codes "B")) ≡ true
  -- with a `^` all others, but no newline
  pub not_member : set_takes false true ranges (byte (codes "b")) ≡ false
  pub not_no_member : set_takes false true ranges (byte (codes "x")) ≡ true
  pub not_folded_member : set_takes true true ranges (byte (codes "x")) ≡ false
  pub not_newline : set_takes false true ranges (byte (codes "\n")) ≡ false

-- where a part matches nothing
pub record OfPlaces : Type 0 where
  -- `^` at the front and after a newline
  pub line_start : atom_passes LineStart lines 0 ≡ true
  pub in_line : atom_passes LineStart lines 1 ≡ false
  pub next_line_start : atom_passes LineStart lines 2 ≡ true
  pub after_last_newline : atom_passes LineStart lines 4 ≡ true
  -- `$` at the end alone: before a newline it takes that newline
  pub line_end : atom_passes LineEnd lines 4 ≡ true
  pub before_newline : atom_passes LineEnd lines 1 ≡ false
  -- `\<` at the front and `\>` at the end
  pub first_word : atom_passes WordStart lines 0 ≡ true
  pub second_word : atom_passes WordStart lines 2 ≡ false
  pub no_word : atom_passes WordStart lines 4 ≡ false
  pub last_word : atom_passes WordEnd lines 4 ≡ true
  pub first_word_end : atom_passes WordEnd lines 1 ≡ false
  pub word_at_front : atom_passes WordEnd lines 0 ≡ false
  -- `^^` at the front or at the end
  pub area_start : atom_passes AreaStart lines 0 ≡ true
  pub no_area_start : atom_passes AreaStart lines 2 ≡ false
  pub area_end : atom_passes AreaEnd lines 4 ≡ true
  pub no_area_end : atom_passes AreaEnd lines 1 ≡ false
  -- a byte and a dot match nothing nowhere
  pub byte_passes : atom_passes (Byte (byte (codes "a"))) lines 1 ≡ false
  pub any_passes : atom_passes Any lines 4 ≡ false
  -- where the matches are counted, the next one is searched at the end of the one before, or one further where that was empty
  pub after_match : place_after 3 5 ≡ 5
  pub after_empty_match : place_after 3 3 ≡ 4

-- the expressions `a` and `b`
abbrev pub a : Re
a = one (Byte (byte (codes "a")))

abbrev pub b : Re
b = one (Byte (byte (codes "b")))

-- from where to where an expression matches
pub record OfExpressions : Type 0 where
  pub empty : At false nothing (codes "ab") 1 1
  -- one part after the other, and either of two
  pub both : At false (seq a b) (codes "ab") 0 2
  pub left : At false (either a b) (codes "ab") 0 1
  pub right : At false (either a b) (codes "ab") 1 2
  -- a star repeats a part any number of times, a plus once at least, and a question mark at most once
  pub star_of_none : At false (times Star a) (codes "aab") 2 2
  pub star_of_two : At false (times Star a) (codes "aab") 0 2
  pub plus_of_one : At false (times Plus a) (codes "aab") 1 2
  pub plus_of_two : At false (times Plus a) (codes "aab") 0 2
  pub maybe_none : At false (times Maybe a) (codes "aab") 2 2
  pub maybe_one : At false (times Maybe a) (codes "aab") 0 1
