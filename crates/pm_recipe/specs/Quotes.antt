-- A word of an rcfile in the words of the language: bytes, bytes after a backslash, and quotes.
use Rattle.std.specs.Prelude.{ℕ, List, [], ◌∷◌, ◌++◌, ◌≡◌, nat_eq, Bool, true, false, not, ◌&&◌, ◌⊎◌}
use Rattle.pm_bytes.specs.Letter.{is_space_byte}
use Rattle.pm_recipe.specs.Bytes.{begins_with}
use Rattle.pm_recipe.specs.Front.{ends_name}
use Rattle.pm_bytes.specs.Alphabet.{HASH, SINGLE_QUOTE, DOUBLE_QUOTE, BACKQUOTE, BACKSLASH}

-- what stands in backquotes: a byte, or a backslash and the byte that it takes along
pub data Mark : Type 0 where
  Plain : ℕ → Mark
  Taken : ℕ → Mark

-- what stands in double quotes
pub data Inner : Type 0 where
  Plain : ℕ → Inner
  Taken : ℕ → Inner
  Command : List Mark → Inner

-- a part of a word: a byte, a backslash and the byte that it takes along, and the three kinds of quotes.
-- A backslash takes a newline along too: two lines are joined.
pub data Part : Type 0 where
  Plain : ℕ → Part
  Taken : ℕ → Part
  Single : List ℕ → Part
  Double : List Inner → Part
  Command : List Mark → Part

-- the bytes of marks, which a backquote ends
abbrev pub marks_text : List Mark → List ℕ → List ℕ
marks_text [] rest = BACKQUOTE ∷ rest
marks_text (Mark.Plain byte ∷ marks) rest = byte ∷ marks_text marks rest
marks_text (Mark.Taken byte ∷ marks) rest = BACKSLASH ∷ (byte ∷ marks_text marks rest)

-- the bytes in double quotes, which a double quote ends
abbrev pub inners_text : List Inner → List ℕ → List ℕ
inners_text [] rest = DOUBLE_QUOTE ∷ rest
inners_text (Inner.Plain byte ∷ inners) rest = byte ∷ inners_text inners rest
inners_text (Inner.Taken byte ∷ inners) rest = BACKSLASH ∷ (byte ∷ inners_text inners rest)
inners_text (Inner.Command marks ∷ inners) rest = BACKQUOTE ∷ marks_text marks (inners_text inners rest)

-- the bytes of a word, before others
abbrev pub word_text : List Part → List ℕ → List ℕ
word_text [] rest = rest
word_text (Part.Plain byte ∷ parts) rest = byte ∷ word_text parts rest
word_text (Part.Taken byte ∷ parts) rest = BACKSLASH ∷ (byte ∷ word_text parts rest)
word_text (Part.Single bytes ∷ parts) rest = SINGLE_QUOTE ∷ (bytes ++ (SINGLE_QUOTE ∷ word_text parts rest))
word_text (Part.Double inners ∷ parts) rest = DOUBLE_QUOTE ∷ inners_text inners (word_text parts rest)
word_text (Part.Command marks ∷ parts) rest = BACKQUOTE ∷ marks_text marks (word_text parts rest)

-- in backquotes a byte is no backquote and no backslash
abbrev pub are_marks : List Mark → Bool
are_marks [] = true
are_marks (Mark.Plain byte ∷ marks) = not (nat_eq byte BACKSLASH) && not (nat_eq byte BACKQUOTE) && are_marks marks
are_marks (Mark.Taken byte ∷ marks) = are_marks marks

-- in double quotes a byte is no quote of these two kinds and no backslash
abbrev pub are_inners : List Inner → Bool
are_inners [] = true
are_inners (Inner.Plain byte ∷ inners) =
    not (nat_eq byte BACKSLASH) && not (nat_eq byte DOUBLE_QUOTE) && not (nat_eq byte BACKQUOTE) && are_inners inners
are_inners (Inner.Taken byte ∷ inners) = are_inners inners
are_inners (Inner.Command marks ∷ inners) = are_marks marks && are_inners inners

-- in single quotes there is no single quote
abbrev pub are_single : List ℕ → Bool
are_single [] = true
are_single (byte ∷ bytes) = not (nat_eq byte SINGLE_QUOTE) && are_single bytes

-- outside quotes a byte is no blank, no newline, no backslash and no quote
abbrev pub are_parts : List Part → Bool
are_parts [] = true
are_parts (Part.Plain byte ∷ parts) =
    not (is_space_byte byte) && not (nat_eq byte BACKSLASH) && not (nat_eq byte SINGLE_QUOTE) && not (nat_eq byte DOUBLE_QUOTE) && not (nat_eq byte BACKQUOTE)
    && are_parts parts
are_parts (Part.Taken byte ∷ parts) = are_parts parts
are_parts (Part.Single bytes ∷ parts) = are_single bytes && are_parts parts
are_parts (Part.Double inners ∷ parts) = are_inners inners && are_parts parts
are_parts (Part.Command marks ∷ parts) = are_marks marks && are_parts parts

-- a word ends before a blank, a newline or the end; at the end of the text a backslash has nothing to take along
pub record IsWord (word : List ℕ) (behind : List ℕ) : Type 0 where
  pub parts : List Part
  pub last : List ℕ
  pub word_is : word ≡ word_text parts last
  pub good : are_parts parts ≡ true
  pub ends : ((last ≡ []) × (ends_name behind ≡ true)) ⊎ ((last ≡ BACKSLASH ∷ []) × (behind ≡ []))

-- a word; one that begins with `#` is a comment, and there is none
pub data IsValue (word : List ℕ) (behind : List ℕ) : Type 0 where
  Empty : word ≡ [] → begins_with HASH behind ≡ true → IsValue word behind
  Word : begins_with HASH (word ++ behind) ≡ false → IsWord word behind → IsValue word behind
