-- Texts without the joins of their lines.
use Rattle.std.specs.Prelude.{ℕ, List, [], ◌∷◌, if◌then◌else◌, nat_eq, Bool, false, true, ◌&&◌}
use Rattle.pm_bytes.specs.Letter.{is_blank_byte}
use Rattle.pm_recipe.specs.Bytes.{begins_with, is_empty}
use Rattle.pm_bytes.specs.Alphabet.{NEWLINE, BACKSLASH}

-- whether a backslash stands before a newline
abbrev pub is_join : ℕ → List ℕ → Bool
is_join byte bytes = nat_eq byte BACKSLASH && begins_with NEWLINE bytes

-- one line of lines that are joined: each backslash before a newline is gone, and that newline
abbrev pub unjoined : List ℕ → List ℕ
unjoined [] = []
unjoined (byte ∷ []) = byte ∷ []
unjoined (byte ∷ (next ∷ bytes)) = if is_join byte (next ∷ bytes) then unjoined bytes else byte ∷ unjoined (next ∷ bytes)

-- a text without its joins and the blanks after each join; the flag says whether a join is right before it
abbrev pub without_indents : Bool → List ℕ → List ℕ
without_indents behind [] = []
without_indents behind (byte ∷ []) = if behind && is_blank_byte byte then [] else byte ∷ []
without_indents behind (byte ∷ (next ∷ bytes)) =
    if is_join byte (next ∷ bytes) then without_indents true bytes else
    if behind && is_blank_byte byte then without_indents true (next ∷ bytes) else byte ∷ without_indents false (next ∷ bytes)

-- one line of lines that are joined, without the blanks at the beginnings of the later ones
abbrev pub unindented : List ℕ → List ℕ
unindented text = without_indents false text

-- without the blanks at the end
abbrev pub before_blanks : List ℕ → List ℕ
before_blanks [] = []
before_blanks (byte ∷ bytes) = if is_blank_byte byte && is_empty (before_blanks bytes) then [] else byte ∷ before_blanks bytes
