-- How an entry of the environment and a line of a file are read.
use Rattle.std.specs.Prelude.{◌≡◌, ◌⊎◌, ℕ, false, ◌&&◌, ◌==◌, cond, List, [], ◌∷◌, ◌++◌, codes}
use Rattle.std.specs.List.{list_any}
use Rattle.pm_bytes.specs.Name.{is_usable}

-- the byte doesn't stand in these bytes
abbrev pub Lacks : ℕ → List ℕ → Type 0
Lacks sign bytes = list_any (λ b. b == sign) bytes ≡ false

-- the entry is the name, an equals sign and the value; the name ends before the first equals sign
pub record IsEntry (entry name value : List ℕ) : Type 0 where
  pub whole : entry ≡ name ++ (codes "=" ++ value)
  pub first : Lacks 61 name

-- the entry's name or its value can't be a name
pub record HasUnusable (entry : List ℕ) : Type 0 where
  pub name : List ℕ
  pub value : List ℕ
  pub entry_is : IsEntry entry name value
  pub unusable : (is_usable name && is_usable value) ≡ false

-- the line is the text up to its first line feed, or the whole text where it has none
abbrev pub IsFirstLine : List ℕ → List ℕ → Type 0
IsFirstLine text line = Lacks 10 line × ((line ≡ text) ⊎ ((rest : List ℕ) × (text ≡ line ++ (codes "\n" ++ rest))))

-- a machine's name is what stands in this line, where it can be a name and isn't empty, else `localhost`
abbrev pub name_in : List ℕ → List ℕ
name_in [] = codes "localhost"
name_in (b ∷ more) = cond (is_usable (b ∷ more)) (b ∷ more) (codes "localhost")

-- the machine's name is what stands in the first line of this text
pub record IsMachineName (text name : List ℕ) : Type 0 where
  pub line : List ℕ
  pub first : IsFirstLine text line
  pub name_is : name ≡ name_in line
