-- How far a reader comes in a text, from the place where it stands.
use Rattle.std.specs.Prelude.{ℕ, ◌+◌, List, [], ◌∷◌, if◌then◌else◌, nat_eq, Bool, false, not, ◌&&◌, ◌||◌, take, drop}
use Rattle.pm_recipe.specs.Bytes.{begins_with}
use Rattle.pm_bytes.specs.Alphabet.{NEWLINE, BACKSLASH}

-- the places of one reader: where a backslash before a newline joins two lines, which bytes are no part any more of what is
-- read, and the place after a byte that is part of it
pub record Places (Place : Type 0) : Type 0 where
  pub joins : Place → Bool
  pub ends : Place → ℕ → Bool
  pub after : Place → ℕ → Place

-- whether the backslash in front of these bytes joins two lines
abbrev pub joins_before : {Place : Type 0} → Places Place → Place → ℕ → List ℕ → Bool
joins_before places place byte bytes = places.joins place && nat_eq byte BACKSLASH && begins_with NEWLINE bytes

-- the place after a byte; a join changes none
abbrev pub place_after : {Place : Type 0} → Places Place → Bool → Place → ℕ → List ℕ → Place
place_after places joined place byte bytes = if joined || joins_before places place byte bytes then place else places.after place byte

-- how many bytes are read from a place; the first may be the newline of a join
abbrev pub reach_of : {Place : Type 0} → Places Place → Bool → Place → List ℕ → ℕ
reach_of places joined place [] = 0
reach_of places joined place (byte ∷ bytes) =
    if not joined && not (joins_before places place byte bytes) && places.ends place byte then 0
    else reach_of places (joins_before places place byte bytes && not joined) (place_after places joined place byte bytes) bytes + 1

-- the place in which it ends
abbrev pub rest_of : {Place : Type 0} → Places Place → Bool → Place → List ℕ → Place
rest_of places joined place [] = place
rest_of places joined place (byte ∷ bytes) =
    if not joined && not (joins_before places place byte bytes) && places.ends place byte then place
    else rest_of places (joins_before places place byte bytes && not joined) (place_after places joined place byte bytes) bytes

-- how far a reader comes from this place
abbrev pub far : {Place : Type 0} → Places Place → Place → List ℕ → ℕ
far places place text = reach_of places false place text

-- what is read
abbrev pub passed : {Place : Type 0} → Places Place → Place → List ℕ → List ℕ
passed places place text = take (far places place text) text

-- what stands after there
abbrev pub text_after : {Place : Type 0} → Places Place → Place → List ℕ → List ℕ
text_after places place text = drop (far places place text) text
