-- Sets whose ranges mean something else (procmailrc(5), "Regular expressions").
use Rattle.std.specs.Prelude.{ℕ, ◌+◌, Bool, false, not, ◌||◌, ◌&&◌, List, [], ◌∷◌, drop, take, Option, Some, None, nat_eq, nat_lt, if◌then◌else◌, codes, position}
use Rattle.std.specs.List.{starts_with}
use Rattle.pm_bytes.specs.Alphabet.{BACKSLASH}
use Rattle.check_moving.specs.Text.{has_part}

-- a `-` with a byte after it: right behind a range it begins no other one
abbrev pub goes_on : List ℕ → Bool
goes_on (dash ∷ (byte ∷ rest)) = nat_eq dash 45
goes_on _ = false

-- one of the members is a range down to a lesser byte, or a range that a `-` goes on from
abbrev pub has_range : List ℕ → Bool
has_range (first ∷ (dash ∷ (last ∷ rest))) =
    if nat_eq dash 45 then nat_lt last first || goes_on rest || has_range rest else has_range (dash ∷ (last ∷ rest))
has_range _ = false

-- a set's text without the `^` that negates it
abbrev pub after_caret : List ℕ → List ℕ
after_caret text = if starts_with nat_eq text (codes "^") then drop 1 text else text

-- the first byte, and so many after it
abbrev pub members_to : List ℕ → Option ℕ → List ℕ
members_to text None = []
members_to text (Some place) = take (place + 1) text

-- the members of a set: its first byte, also if that is a `]`, and those up to the next `]`
abbrev pub members_of : List ℕ → List ℕ
members_of text = members_to text (position (λ byte. nat_eq byte 93) (drop 1 text))

-- members that a variable doesn't change
abbrev pub is_differing : List ℕ → Bool
is_differing members = has_range members && not (has_part (codes "$") members)

-- such a set follows a `[`
abbrev pub begins_differing : List ℕ → Bool
begins_differing text = is_differing (members_of (after_caret text))

-- such a set stands somewhere; a `[` behind a backslash begins none
abbrev pub has_set : Bool → List ℕ → Bool
has_set escaped [] = false
has_set escaped (byte ∷ rest) =
    (not escaped && nat_eq byte 91 && begins_differing rest) || has_set (not escaped && nat_eq byte BACKSLASH) rest
