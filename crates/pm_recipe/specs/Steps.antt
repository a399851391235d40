-- What a step of the builder does.
use Rattle.std.specs.Prelude.{ℕ, ◌+◌, ◌-◌, List, ◌∷◌, ◌≡◌, Bool, true, false, None, length, is_some}
use Rattle.pm_recipe.specs.declared.building.Builder.{Builder}
use Rattle.pm_recipe.specs.declared.building.Level as level
use Rattle.pm_recipe.specs.declared.building.Begun as begun
use Rattle.pm_recipe.specs.Tree.{Trees, nil, Recipe, Block}
use Rattle.pm_recipe.specs.Item.{Item}
use Rattle.pm_recipe.specs.Item.Item.{Nothing, Begins, Judges, Opens, Closes}
use Rattle.pm_recipe.specs.Build.{Ahead, before, put, first, others, plain, top_of}
use Rattle.pm_recipe.specs.Builder.{built_of, begun_of, level_of, joined, joins, settled}

-- how many blocks are open after an item
abbrev pub depth_after : Item → ℕ → ℕ
depth_after Opens depth = depth + 1
depth_after Closes depth = depth - 1
depth_after _ depth = depth

-- whether a recipe has begun after an item
abbrev pub begun_after : Item → Bool → Bool
begun_after Nothing begun = begun
begun_after (Begins head junk) begun = true
begun_after (Judges condition) begun = begun
begun_after _ begun = false

-- an item goes from what is ahead to what is built
pub record Builds (old : Builder) (new : Builder) (item : Item) : Type 0 where
  pub depth : length new.levels.items ≡ depth_after item (length old.levels.items)
  pub begun : is_some new.begun ≡ begun_after item (is_some old.begun)
  pub built : (ahead : Ahead) → joins new (settled (begun_of new.begun) ahead) ≡ joins old (settled (begun_of old.begun) (before item ahead))

-- statements that are put before what is ahead stand after what is done
pub record Puts (old : Builder) (new : Builder) (put : List Trees → List Trees) : Type 0 where
  pub levels : new.levels.items ≡ old.levels.items
  pub begun : new.begun ≡ old.begun
  pub joins : (lists : List Trees) → joins new lists ≡ joins old (put lists)

-- no action comes for the recipe that has begun
pub record GivesUp (old : Builder) (new : Builder) : Type 0 where
  pub levels : new.levels.items ≡ old.levels.items
  pub begun : new.begun ≡ None
  pub joins : (lists : List Trees) → joins new lists ≡ joins old (settled (begun_of old.begun) (plain lists))

-- this recipe has opened a block
pub record Opened (old : Builder) (new : Builder) (recipe : begun.Begun) : Type 0 where
  pub levels : length new.levels.items ≡ length old.levels.items + 1
  pub begun : new.begun ≡ old.begun
  pub joins : (lists : List Trees)
      → joins new lists ≡ joins old (put (Recipe (top_of recipe.head recipe.conditions.items) (Block (first lists))) (others lists))

-- the block of this level has ended
pub record Closed (old : Builder) (new : Builder) (level : level.Level) : Type 0 where
  pub levels : new.levels.items ≡ old.levels.items
  pub begun : new.begun ≡ old.begun
  pub joins : (lists : List Trees) → joins new lists ≡ joined (level_of level ∷ (built_of old).levels) old.done (nil ∷ lists)
