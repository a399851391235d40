-- The letters of flags, and how texts begin.
use Rattle.std.specs.Prelude.{ℕ, List, [], ◌∷◌, nat_eq, Bool, false, true, codes}
use Rattle.std.specs.List.{list_any}

-- whether a text begins with this byte
abbrev pub begins_with : ℕ → List ℕ → Bool
begins_with wanted [] = false
begins_with wanted (byte ∷ bytes) = nat_eq byte wanted

-- one of the letters H B D h b f c w W i r A a E e
abbrev pub is_flag_letter : ℕ → Bool
is_flag_letter byte = list_any (λ letter. nat_eq letter byte) (codes "HBDhbfcwWirAaEe")

-- whether there is no byte
abbrev pub is_empty : List ℕ → Bool
is_empty [] = true
is_empty (byte ∷ bytes) = false
