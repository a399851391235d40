-- Words as they are gathered from what the tokens give.
use Rattle.std.specs.Prelude.{ℕ, ◌+◌, List, [], ◌∷◌, ◌++◌, if◌then◌else◌, Bool, Option, Some, None, length, sum_by, fold}

-- a byte of a word, a blank or a newline outside quotes, or quotes, which make a word even where they are empty
pub data Element : Type 0 where
  Byte : ℕ → Element
  Blank : ℕ → Element
  Quote : Element

-- the words that are whole, and the one that has begun
pub record Fields : Type 0 where
  pub done : List (List ℕ)
  pub current : Option (List ℕ)

-- the bytes of a word that may have begun
abbrev pub bytes_of : Option (List ℕ) → List ℕ
bytes_of None = []
bytes_of (Some word) = word

-- one word if it has begun, and none else
abbrev pub words_of : Option (List ℕ) → List (List ℕ)
words_of None = []
words_of (Some word) = word ∷ []

-- with a byte more at the word's end
abbrev pub with_byte : Fields → ℕ → Fields
with_byte fields byte = record { done = fields.done; current = Some (bytes_of fields.current ++ byte ∷ []) }

-- with a word that has begun
abbrev pub begun : Fields → Fields
begun fields = record { done = fields.done; current = Some (bytes_of fields.current) }

-- with the word ended, if one has begun
abbrev pub ended : Fields → Fields
ended fields = record { done = fields.done ++ words_of fields.current; current = None }

-- where words are split a blank ends one, and else it is a byte of the only one
abbrev pub with_element : Bool → Fields → Element → Fields
with_element splits fields (Byte byte) = with_byte fields byte
with_element splits fields (Blank byte) = if splits then ended fields else with_byte fields byte
with_element splits fields Quote = begun fields

-- with all of these elements, one after another
abbrev pub gathered : Bool → Fields → List Element → Fields
gathered splits fields elements = fold (with_element splits) fields elements

-- how many words have begun
abbrev pub count_of : Option (List ℕ) → ℕ
count_of None = 0
count_of (Some word) = 1

-- the length of an expansion: all bytes, and where words are split their number
abbrev pub size : Bool → Fields → ℕ
size splits fields =
    sum_by length fields.done + length (bytes_of fields.current) + (if splits then length fields.done + count_of fields.current else 0)

-- the words, where nothing follows
abbrev pub all_words : Fields → List (List ℕ)
all_words fields = fields.done ++ words_of fields.current

-- the greatest length of an expansion, 1 MiB
abbrev pub most_length : ℕ
most_length = 1048576
