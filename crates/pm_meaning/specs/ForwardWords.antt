-- The words of a text, one at a time.
use Rattle.std.specs.Prelude.{ℕ, List, [], ◌∷◌, if◌then◌else◌}
use Rattle.pm_meaning.specs.Texts.{is_empty}

-- the text as one word, or none where it is empty
abbrev pub if_any : List ℕ → List (List ℕ)
if_any text = if is_empty text then [] else text ∷ []
