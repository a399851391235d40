-- What a run made of names, over a tree that is only read.
use Rattle.std.specs.Prelude.{◌≡◌, ℕ, ℤ, pos, ◌-ℤ◌, min, List, [], ◌++◌, length, take, cond, Option, Some, None, String, string_bytes, bytes_eq}
use Rattle.std.specs.Global.{Global}
use Rattle.std.specs.BTreeMap.{BTreeMap, get_by_text}
use Rattle.pm_host.specs.World.{World, age_at, later_moment, grown, kept}
use Rattle.pm_host.specs.declared.nodes.Node.{Node}
use Rattle.pm_host.specs.declared.nodes.Node.TheVariants.{File as AFile, Folder as AFolder}
use Rattle.pm_overlay.specs.declared.changed.Changed.{Changed}
use Rattle.pm_overlay.specs.declared.changed.Changed.TheVariants.{Gone, Folder as NewFolder, New, Grown as GrownFile}

-- what the run made of each name that it changed
abbrev pub Changes : Type 0
Changes = BTreeMap (String Global) Changed

-- the moment at which a file of the base counts as made: its age before the base's moment
abbrev pub made_at : ℤ → ℤ → ℤ
made_at moment made = moment -ℤ pos (age_at moment made)

-- what the base has at a name
abbrev pub unchanged : Option Node → ℤ → Option Node
unchanged (Some (AFile f)) moment = Some (AFile (record { bytes = f.bytes; made = made_at moment f.made }))
unchanged (Some AFolder) moment = Some AFolder
unchanged None moment = None

-- the first bytes of a file of the base, and more after them
abbrev pub front_with : Option Node → ℤ → ℕ → List ℕ → Option Node
front_with (Some (AFile f)) moment len more = Some (AFile (record { bytes = take len f.bytes ++ more; made = made_at moment f.made }))
front_with (Some AFolder) moment len more = None
front_with None moment len more = None

-- what the run made of a name, over this base
abbrev pub changed : Changed → World → Option Node
changed Gone w = None
changed NewFolder w = Some AFolder
changed (New f) w = Some (AFile f)
changed (GrownFile g) w = front_with (w.nodes (string_bytes g.from)) w.moment g.kept g.more

-- what stands at a name: what the run made of it, or what the base has
abbrev pub stands : Option Changed → World → List ℕ → Option Node
stands (Some c) w name = changed c w
stands None w name = unchanged (w.nodes name) w.moment

-- the base with the changes of the run, after so many seconds of sleep
abbrev pub over : Changes → ℕ → World → World
over changes slept w = record { nodes = λ name. stands (get_by_text changes name) w name; moment = later_moment w.moment slept; others = []; children = []; inputs = [] }

-- the same was made of the name
abbrev pub AsChanged : Changed → Changed → Type 0
AsChanged this other = (w : World) → changed this w ≡ changed other w

-- so many of the first bytes of the base's file
abbrev pub IsGrownFrom : List ℕ → ℕ → Changed → Type 0
IsGrownFrom name len c = (w : World) → changed c w ≡ front_with (w.nodes name) w.moment len []

-- one name has another change, and each other name has what it had
abbrev pub Puts : List ℕ → Changed → Changes → Changes → Type 0
Puts name this old new = (q : List ℕ) → get_by_text new q ≡ cond (bytes_eq name q) (Some this) (get_by_text old q)

-- how many of the first bytes are there, where a file stands
abbrev pub bytes_at_front : Option Node → ℕ → ℕ
bytes_at_front (Some (AFile f)) len = min len (length f.bytes)
bytes_at_front (Some AFolder) len = 0
bytes_at_front None len = 0

-- how many bytes of a file of the base are at the front of what the run made of a name
abbrev pub front_length : Changed → World → ℕ
front_length Gone w = 0
front_length NewFolder w = 0
front_length (New f) w = 0
front_length (GrownFile g) w = bytes_at_front (w.nodes (string_bytes g.from)) g.kept

-- the file has the piece at its end
abbrev pub Lengthens : List ℕ → Changed → Changed → Type 0
Lengthens piece old new = (w : World) → changed new w ≡ grown (changed old w) piece

-- The file has its first bytes alone. `front` is how many bytes it had of the base.
abbrev pub Shortens : ℕ → ℕ → Changed → Changed → Type 0
Shortens front len old new = (w : World) → front ≡ front_length old w → changed new w ≡ kept (changed old w) len
