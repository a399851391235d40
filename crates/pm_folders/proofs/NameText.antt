-- Texts in a row.
use Rattle.std.proofs.Common.{◌≡◌, ℕ, List, ◌∷◌, ◌++◌, append_assoc}
use Rattle.pm_journal.specs.Naming.{stem, mark}

in_a_row : (base stem mark dot host : List ℕ) → (base ++ 47 ∷ stem) ++ mark ++ (dot ++ host) ≡ base ++ 47 ∷ (stem ++ mark ++ dot ++ host)
in_a_row base stem mark dot host = simp append_assoc
