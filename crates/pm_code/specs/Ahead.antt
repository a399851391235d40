-- What stands ahead in flat code, block by block, read from its end.
use Rattle.std.specs.Prelude.{ℕ, zero, suc, Bool, true, false, ◌&&◌, nat_eq, List, [], ◌∷◌, Option, Some, None}
use Rattle.pm_recipe.specs.Tree.{Trees, nil, cons, ◌⧺◌, Tree, Recipe, Act, Block}
use Rattle.pm_code.specs.Flat.{Flat, Does, Enters, Leaves}

-- the first of the lists, and those after it
abbrev pub first : List Trees → Trees
first [] = nil
first (trees ∷ lists) = trees

-- all but the first
abbrev pub others : {A : Type 0} → List A → List A
others [] = []
others (x ∷ xs) = xs

-- with these statements in front
abbrev pub onto : Trees → List Trees → List Trees
onto trees lists = (trees ⧺ first lists) ∷ others lists

-- the statements up to the end of the innermost open block, those after it up to the end of the next, and so on
abbrev pub lists_of : List Flat → List Trees
lists_of [] = nil ∷ []
lists_of (Does tree ∷ steps) = cons tree (first (lists_of steps)) ∷ others (lists_of steps)
lists_of (Enters top end ∷ steps) =
    cons (Recipe top (Block (first (lists_of steps)))) (first (others (lists_of steps))) ∷ others (others (lists_of steps))
lists_of (Leaves enter ∷ steps) = nil ∷ lists_of steps

-- the places at which the open blocks end, the innermost first
abbrev pub ends_of : ℕ → List Flat → List ℕ
ends_of at [] = []
ends_of at (Does tree ∷ steps) = ends_of (suc at) steps
ends_of at (Enters top end ∷ steps) = others (ends_of (suc at) steps)
ends_of at (Leaves enter ∷ steps) = at ∷ ends_of (suc at) steps

-- this place is the first of these
abbrev pub is_first : ℕ → List ℕ → Bool
is_first end [] = false
is_first end (e ∷ es) = nat_eq e end

-- a statement without a block
abbrev pub has_no_block : Act → Bool
has_no_block (Block trees) = false
has_no_block other = true

-- a statement that is one step
abbrev pub is_single : Tree → Bool
is_single (Recipe top act) = has_no_block act
is_single other = true

-- each block ends where its beginning says, and no other step has one
abbrev pub ends_right : ℕ → List Flat → Bool
ends_right at [] = true
ends_right at (Does tree ∷ steps) = is_single tree && ends_right (suc at) steps
ends_right at (Enters top end ∷ steps) = is_first end (ends_of (suc at) steps) && ends_right (suc at) steps
ends_right at (Leaves enter ∷ steps) = ends_right (suc at) steps

-- the lists after the first so many
abbrev pub past : ℕ → List Trees → List Trees
past zero lists = lists
past (suc k) lists = past k (others lists)

-- the place with this number, from 0
abbrev pub nth : ℕ → List ℕ → Option ℕ
nth k [] = None
nth zero (place ∷ places) = Some place
nth (suc k) (place ∷ places) = nth k places
