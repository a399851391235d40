-- What a builder stands for.
use Rattle.std.specs.Prelude.{ℕ, List, [], map, Option, Some, None, ◌≡◌, length, ◌∷◌, is_some}
use Rattle.pm_recipe.specs.declared.building.Builder.{Builder}
use Rattle.pm_recipe.specs.declared.building.Head.{Head}
use Rattle.pm_recipe.specs.declared.building.Level as level
use Rattle.pm_recipe.specs.declared.building.Begun as begun
use Rattle.pm_recipe.specs.declared.fronts.Situation.{Situation}
use Rattle.pm_recipe.specs.declared.tree.Condition.{Condition}
use Rattle.pm_recipe.specs.Tree.{Trees, Tree, nil, cons, ◌⧺◌}
use Rattle.pm_recipe.specs.Tree as tree
use Rattle.pm_recipe.specs.Build.{Ahead, ahead_of, first, others, put, recipe_of, top_of}
use Rattle.pm_recipe.specs.Item.{Item}
use Rattle.pm_recipe.specs.Ends.{Blocks, outermost}
use Rattle.pm_recipe.specs.declared.ends.Unended.{Unended}

-- a block that is open, with what stands before it, and its recipe's head
pub record Level : Type 0 where
  pub done : Trees
  pub head : Head
  pub conditions : List Condition

-- the recipe whose block this is
abbrev pub block_of : Level → Trees → Tree
block_of level block = tree.Recipe (top_of level.head level.conditions) (tree.Block block)

-- the whole, of what is done and what is ahead
abbrev pub joined : List Level → Trees → List Trees → Trees
joined [] done lists = done ⧺ first lists
joined (level ∷ levels) done lists =
    joined levels (level.done ⧺ cons (block_of level (done ⧺ first lists)) nil) (others lists)

-- a recipe that has begun, and its conditions so far
pub record Begun : Type 0 where
  pub head : Head
  pub conditions : List Condition

-- the statements ahead, with the recipe that has begun in front
abbrev pub settled : Option Begun → Ahead → List Trees
settled None ahead = ahead.lists
settled (Some begun) ahead = put (recipe_of begun.head begun.conditions ahead.recipe) ahead.lists

-- the open blocks, the statements after them, and the recipe that has begun
pub record Built : Type 0 where
  pub levels : List Level
  pub done : Trees
  pub begun : Option Begun

-- the whole tree, where these items follow
abbrev pub whole : Built → List Item → Trees
whole built items = joined built.levels built.done (settled built.begun (ahead_of items))

-- a level of the code
abbrev pub level_of : level.Level → Level
level_of level = record { done = level.done; head = level.head; conditions = level.conditions.items }

-- a recipe of the code that has begun
abbrev pub begun_of : Option begun.Begun → Option Begun
begun_of None = None
begun_of (Some begun) = Some (record { head = begun.head; conditions = begun.conditions.items })

-- what the code's builder has built
abbrev pub built_of : Builder → Built
built_of builder = record { levels = map level_of builder.levels.items; done = builder.done; begun = begun_of builder.begun }

-- the whole, where these lists stand ahead of what is done
abbrev pub joins : Builder → List Trees → Trees
joins builder lists = joined (built_of builder).levels builder.done lists

-- a builder is in this situation
pub record Suits (builder : Builder) (situation : Situation) : Type 0 where
  pub begun : is_some builder.begun ≡ situation.in_recipe
  pub levels : length builder.levels.items ≡ situation.depth

-- what the code keeps of so many open blocks, of whose lines it has the outermost
pub record Stands (unended : Unended) (depth : ℕ) (blocks : Blocks) : Type 0 where
  pub colon : unended.colon ≡ blocks.colon
  pub stopped : unended.stopped ≡ blocks.stopped
  pub lines : length blocks.lines ≡ depth
  pub outermost : (line : ℕ) (lines : List ℕ) → blocks.lines ≡ line ∷ lines → unended.outermost ≡ outermost line lines
