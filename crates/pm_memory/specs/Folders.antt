-- What stands directly in a folder, by the whole names of a tree.
use Rattle.std.specs.Prelude.{◌≡◌, ℕ, List, Option, Some, None, true, false, ◌⊎◌}
use Rattle.pm_bytes.specs.Name.{is_usable}
use Rattle.pm_host.specs.World.{Nodes, StandsIn, inside, is_part}
use Rattle.pm_host.specs.declared.nodes.Node.{Node}
use Rattle.pm_host.specs.declared.nodes.Node.TheVariants.{File as AFile, Folder as AFolder}

-- the name is that of this part directly in the folder, or of none
abbrev pub IsPartIn : List ℕ → List ℕ → Option (List ℕ) → Type 0
IsPartIn folder name (Some part) = (name ≡ inside folder part) × (is_part part ≡ true)
IsPartIn folder name None = (part : List ℕ) → is_part part ≡ true → name ≡ inside folder part → ⊥

-- a file stands there, or nothing
abbrev pub NoFolder : Option Node → Type 0
NoFolder (Some (AFile f)) = Unit {0}
NoFolder (Some AFolder) = ⊥
NoFolder None = Unit {0}

-- something stands directly in the folder whose last part can't be a name
pub record HasUnusable (nodes : Nodes) (folder : List ℕ) : Type 0 where
  pub part : List ℕ
  pub stands : StandsIn nodes folder part
  pub unusable : is_usable part ≡ false

-- no folder stands there, or one whose names can't all be told
abbrev pub CantList : Nodes → List ℕ → Type 0
CantList nodes folder = NoFolder (nodes folder) ⊎ HasUnusable nodes folder
