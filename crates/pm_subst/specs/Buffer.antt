-- How the buffer stands for words.
use Rattle.std.specs.Prelude.{List, ◌≡◌, ◌≤◌, ◌-◌, ◌^◌, is_some, min}
use Rattle.pm_subst.specs.declared.buffer.Buffer.{Buffer}
use Rattle.pm_subst.specs.Fields.{Fields, Element, size, most_length, bytes_of, gathered}

-- the buffer has the length of these words, and up to the limit the words
pub record Holds (buffer : Buffer) (fields : Fields) : Type 0 where
  pub length_is : buffer.length ≡ min (size buffer.splits fields) (2 ^ 64 - 1)
  pub begun_is : buffer.begun ≡ is_some fields.current
  pub done_is : size buffer.splits fields ≤ most_length → buffer.done.items ≡ fields.done
  pub current_is : size buffer.splits fields ≤ most_length → buffer.current.items ≡ bytes_of fields.current

-- whatever words the buffer held before, now it holds the changed ones
abbrev pub Changes : Buffer → Buffer → (Fields → Fields) → Type 0
Changes old new change = (fields : Fields) → Holds old fields → Holds new (change fields)

-- now it holds these elements more
abbrev pub Gathers : Buffer → Buffer → List Element → Type 0
Gathers old new elements = (fields : Fields) → Holds old fields → Holds new (gathered old.splits fields elements)
