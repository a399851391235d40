-- What of a mail conditions search (procmailrc(5), "Recipe flags").
use Rattle.std.specs.Prelude.{ℕ, ◌-◌, ◌||◌, ◌&&◌, Bool, List, [], ◌∷◌, ◌++◌, length, take, nat_eq, codes, bytes_eq, if◌then◌else◌}
use Rattle.std.specs.List.{ends_with}
use Rattle.pm_bytes.specs.Alphabet.{NEWLINE}
use Rattle.pm_bytes.specs.Letter.{is_blank_byte}
use Rattle.pm_message.specs.declared.head.Message.{Message}
use Rattle.pm_message.specs.declared.areas.Place.{Place}
use Rattle.pm_message.specs.declared.areas.Place.TheVariants.{H, B, Hb}

-- the last line is empty, with its newline
abbrev pub ends_empty : List ℕ → Bool
ends_empty text = bytes_eq text (codes "\n") || ends_with nat_eq text (codes "\n\n")

-- the head without the newline of the empty line that ends it
abbrev pub without_empty_line : List ℕ → List ℕ
without_empty_line head = if ends_empty head then take (length head - 1) head else head

-- a newline reads as one space together with the blank after it, so that a folded field is one line
abbrev pub unfolded : List ℕ → List ℕ
unfolded [] = []
unfolded (byte ∷ []) = byte ∷ []
unfolded (byte ∷ next ∷ rest) =
    if nat_eq byte NEWLINE && is_blank_byte next then codes " " ++ unfolded rest else byte ∷ unfolded (next ∷ rest)

-- the head as conditions search it
abbrev pub head_area : Message → List ℕ
head_area message = unfolded (without_empty_line message.head)

-- what is searched: the head's area, the body, or the head's area, a newline and the body
abbrev pub area_of : Message → Place → List ℕ
area_of message H = head_area message
area_of message B = message.body
area_of message Hb = head_area message ++ codes "\n" ++ message.body
