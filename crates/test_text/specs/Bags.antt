-- Two lists of names without regard to their order.
use Rattle.std.specs.Prelude.{ℕ, Bool, true, false, ◌&&◌, List, [], ◌∷◌, count_by, bytes_eq, nat_le, if◌then◌else◌}

-- how often a name stands in a list
abbrev pub times : List ℕ → List (List ℕ) → ℕ
times name names = count_by (λ other. bytes_eq other name) names

-- a name, before these ones, that the others have no more
unfoldable pub is_over : List ℕ → List (List ℕ) → List (List ℕ) → Bool
is_over name rest others = nat_le (times name others) (times name rest)

-- what the first list has more often than the second
abbrev pub left_over : List (List ℕ) → List (List ℕ) → List (List ℕ)
left_over [] others = []
left_over (name ∷ names) others =
    if is_over name names others then name ∷ left_over names others else left_over names others

-- a list without a name
abbrev pub is_none : List (List ℕ) → Bool
is_none [] = true
is_none (name ∷ names) = false

-- each list has what the other has
abbrev pub is_same : List (List ℕ) → List (List ℕ) → Bool
is_same names others = is_none (left_over names others) && is_none (left_over others names)
