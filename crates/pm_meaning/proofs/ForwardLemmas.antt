-- The words that blanks part, gathered byte by byte.
use Rattle.std.specs.Prelude.{ℕ, List, [], ◌∷◌, ◌++◌, not, filter}
use Rattle.pm_meaning.specs.Forwards.{between_blanks}
use Rattle.pm_meaning.specs.Texts.{is_empty}

-- these bytes in front of the first of these texts
abbrev pub onto_front : List ℕ → List (List ℕ) → List (List ℕ)
onto_front word [] = word ∷ []
onto_front word (text ∷ texts) = (word ++ text) ∷ texts

-- the words of what is ahead, of whose first one these bytes are known
abbrev pub words_on : List ℕ → List ℕ → List (List ℕ)
words_on word ahead = filter (λ w. not (is_empty w)) (onto_front word (between_blanks ahead))
