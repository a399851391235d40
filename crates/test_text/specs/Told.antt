-- Destinations and a status as they are told to people.
use Rattle.std.specs.Prelude.{ℕ, List, [], ◌∷◌, ◌++◌, Option, Some, None, codes, decimal}

-- each name with a comma before it
abbrev pub listed : List (List ℕ) → List ℕ
listed [] = []
listed (name ∷ names) = codes ", " ++ name ++ listed names

-- names with commas between them
abbrev pub told_names : List (List ℕ) → List ℕ
told_names [] = codes "nothing"
told_names (name ∷ names) = name ++ listed names

abbrev pub status_told : Option ℕ → List ℕ
status_told None = []
status_told (Some status) = codes ", status " ++ decimal status

-- where mail goes, and with which status the run ends
abbrev pub told : List (List ℕ) → Option ℕ → List ℕ
told names status = told_names names ++ status_told status
