-- Runs of bytes in the words of the language: names, blanks and lines, with joins in them.
use Rattle.std.specs.Prelude.{ℕ, List, [], ◌∷◌, ◌++◌, ◌≡◌, nat_eq, if◌then◌else◌, Bool, true, false, not, ◌&&◌, ◌||◌}
use Rattle.pm_bytes.specs.Letter.{is_blank_byte, is_name_byte}
use Rattle.pm_recipe.specs.Joins.{is_join}
use Rattle.pm_recipe.specs.Front.{ends_line}
use Rattle.pm_recipe.specs.Spans.{newlines}
use Rattle.pm_bytes.specs.Alphabet.{NEWLINE, BACKSLASH, COLON, HASH}

-- a byte is allowed, or is the backslash or the newline of a join
abbrev pub belongs : (ℕ → Bool) → ℕ → ℕ → List ℕ → Bool
belongs allowed before byte bytes = allowed byte || is_join byte bytes || (nat_eq before BACKSLASH && nat_eq byte NEWLINE)

-- a run of allowed bytes and joins, after one byte and before others: it goes as far as it can
abbrev pub IsRun : (ℕ → Bool) → ℕ → List ℕ → List ℕ → Type 0
IsRun allowed before [] [] = Unit {0}
IsRun allowed before [] (byte ∷ bytes) = belongs allowed before byte bytes ≡ false
IsRun allowed before (byte ∷ text) behind = (belongs allowed before byte (text ++ behind) ≡ true) × IsRun allowed byte text behind

-- any byte but a newline
abbrev pub in_line : ℕ → Bool
in_line byte = not (nat_eq byte NEWLINE)

-- joins alone
abbrev pub in_join : ℕ → Bool
in_join byte = false

-- a line up to its end: the end of the text or a newline that isn't joined
abbrev pub IsLine : ℕ → List ℕ → List ℕ → Type 0
IsLine before text behind = IsRun in_line before text behind

-- blanks, as many as stand here
abbrev pub AreBlanks : ℕ → List ℕ → List ℕ → Type 0
AreBlanks before text behind = IsRun is_blank_byte before text behind

-- the bytes of a name, as many as stand here
abbrev pub IsName : List ℕ → List ℕ → Type 0
IsName text behind = IsRun is_name_byte 0 text behind

-- joins, as many as stand here
abbrev pub AreJoins : ℕ → List ℕ → List ℕ → Type 0
AreJoins before text behind = IsRun in_join before text behind

-- whether a byte is one of a join
abbrev pub joins : ℕ → ℕ → List ℕ → Bool
joins before byte bytes = is_join byte bytes || (nat_eq before BACKSLASH && nat_eq byte NEWLINE)

-- a run of words, in which it counts whether a word can begin: after a blank, joins apart
abbrev pub AreWords : (Bool → ℕ → Bool) → Bool → ℕ → List ℕ → List ℕ → Type 0
AreWords allowed fresh before [] [] = Unit {0}
AreWords allowed fresh before [] (byte ∷ bytes) = belongs (allowed fresh) before byte bytes ≡ false
AreWords allowed fresh before (byte ∷ text) behind =
    (belongs (allowed fresh) before byte (text ++ behind) ≡ true)
    × AreWords allowed (if joins before byte (text ++ behind) then fresh else is_blank_byte byte) byte text behind

-- among flags: any byte but a newline, a colon, and a `#` that begins a word
abbrev pub in_flags : Bool → ℕ → Bool
in_flags fresh byte = not (nat_eq byte NEWLINE || nat_eq byte COLON || (fresh && nat_eq byte HASH))

-- in a text to a line's end: any byte but a newline, and a `#` that begins a word
abbrev pub in_words : Bool → ℕ → Bool
in_words fresh byte = not (nat_eq byte NEWLINE || (fresh && nat_eq byte HASH))

-- the rest of a line, up to its newline as written
pub record IsRest (text : List ℕ) (behind : List ℕ) : Type 0 where
  pub inside : newlines text ≡ 0
  pub ends : ends_line behind ≡ true

-- words, and then a comment or nothing, to a line's end
pub record IsTail (fresh : Bool) (before : ℕ) (text : List ℕ) (behind : List ℕ) : Type 0 where
  pub words : List ℕ
  pub comment : List ℕ
  pub text_is : text ≡ words ++ comment
  pub worded : AreWords in_words fresh before words (comment ++ behind)
  pub rest : IsRest comment behind
