-- What entries and lines that are read say.
use Rattle.std.proofs.Common.{◌≡◌, ◌⊎◌, inr, ℕ, ◌<◌, Bool, true, false, ◌&&◌, cond, List, [], ◌∷◌, ◌++◌, length, codes, refl, ap, arith}
use Rattle.pm_bytes.specs.Name.{is_usable}
use Rattle.pm_start.specs.Entry.{Lacks, HasUnusable, IsFirstLine, IsMachineName, name_in}

pub is_machine_name : (text line name : List ℕ) → IsFirstLine text line → name ≡ name_in line → IsMachineName text name
is_machine_name text line name first is = record { line = line; first = first; name_is = is }

-- a line that can be a name
pub name_in_line : (line : List ℕ) → 0 < length line → is_usable line ≡ true → name_in line ≡ line
name_in_line [] some usable = absurd (omega (arith, some))
name_in_line (b ∷ more) some usable = ap (λ u. cond u (b ∷ more) (codes "localhost")) usable

-- a line that can't
pub name_in_other : (line : List ℕ) → is_usable line ≡ false → name_in line ≡ codes "localhost"
name_in_other [] usable = refl
name_in_other (b ∷ more) usable = ap (λ u. cond u (b ∷ more) (codes "localhost")) usable

both_false : (a b : Bool) → b ≡ false → (a && b) ≡ false
both_false true b h = h
both_false false b h = refl

pub unusable_name : (entry name value : List ℕ) → entry ≡ name ++ 61 ∷ value → Lacks 61 name → is_usable name ≡ false → Lacks 61 entry ⊎ HasUnusable entry
unusable_name entry name value whole first bad =
    inr (record { name = name; value = value; entry_is = record { whole = whole; first = first }; unusable = ap (λ a. a && is_usable value) bad })

pub unusable_value : (entry name value : List ℕ) → entry ≡ name ++ 61 ∷ value → Lacks 61 name → is_usable value ≡ false → Lacks 61 entry ⊎ HasUnusable entry
unusable_value entry name value whole first bad =
    inr (record { name = name; value = value; entry_is = record { whole = whole; first = first }; unusable = both_false (is_usable name) (is_usable value) bad })

pub first_of_cut : (text line rest : List ℕ) → text ≡ line ++ 10 ∷ rest → Lacks 10 line → IsFirstLine text line
first_of_cut text line rest whole lacks = (lacks, inr (rest, whole))
