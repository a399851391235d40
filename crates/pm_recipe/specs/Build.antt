-- The tree of a list of items, from the right: a list of statements for each block that is open here, and the action that comes.
use Rattle.std.specs.Prelude.{ℕ, List, [], ◌∷◌, ◌++◌, if◌then◌else◌, Bool, Option, Some, None}
use Rattle.pm_recipe.specs.declared.tree.Condition.{Condition as Judged}
use Rattle.pm_recipe.specs.declared.building.Head.{Head}
use Rattle.pm_recipe.specs.Item.{Item}
use Rattle.pm_recipe.specs.Item.Item.{Nothing, Begins, Judges, Does, Opens, Fails, Closes, States}
use Rattle.pm_recipe.specs.Tree as tree
use Rattle.pm_recipe.specs.Tree.{Top, Trees, Tree, Act, nil, cons}

-- how a recipe ends: with an action, or with a brace too deep, on this line and with this text
pub data Ending : Type 0 where
  Acts : Act → Ending
  Breaks : ℕ → List ℕ → Ending

-- the conditions that are still to come for a recipe, and its end
pub record Rest : Type 0 where
  pub conditions : List Judged
  pub ending : Ending

-- what stands from here on: the end of a recipe, and the lists of the open blocks, the innermost first
pub record Ahead : Type 0 where
  pub recipe : Option Rest
  pub lists : List Trees

-- the statements of the innermost block
abbrev pub first : List Trees → Trees
first [] = nil
first (trees ∷ lists) = trees

-- those of the blocks around it
abbrev pub others : List Trees → List Trees
others [] = []
others (trees ∷ lists) = lists

-- with a statement in front
abbrev pub put : Tree → List Trees → List Trees
put tree lists = cons tree (first lists) ∷ others lists

-- no recipe's end is to come
abbrev pub plain : List Trees → Ahead
plain lists = record { recipe = None; lists = lists }

-- what a recipe does before its action
abbrev pub top_of : Head → List Judged → Top
top_of head conditions = record { flags = head.flags; lock = head.lock; conditions = conditions }

-- a recipe of this colon line and these conditions, or what stands in its place
abbrev pub ended : Head → List Judged → Ending → Tree
ended head conditions (Acts act) = tree.Recipe (top_of head conditions) act
ended head conditions (Breaks line text) = tree.Defect line text

-- where no action comes, a defect with the colon line's text
abbrev pub recipe_of : Head → List Judged → Option Rest → Tree
recipe_of head conditions None = tree.Defect head.line head.text
recipe_of head conditions (Some rest) = ended head (conditions ++ rest.conditions) rest.ending

-- a colon line that isn't understood whole is told before its recipe
abbrev pub with_junk : Head → Bool → List Trees → List Trees
with_junk head junk lists = if junk then put (tree.Defect head.line head.text) lists else lists

-- with a condition in front
abbrev pub with_condition : Judged → Option Rest → Option Rest
with_condition condition None = None
with_condition condition (Some rest) = Some (record { conditions = condition ∷ rest.conditions; ending = rest.ending })

-- an action, with no condition before it
abbrev pub acts : Act → List Trees → Ahead
acts act lists = record { recipe = Some (record { conditions = []; ending = Acts act }); lists = lists }

-- a brace too deep in an action's place, with no condition before it
abbrev pub fails : ℕ → List ℕ → List Trees → Ahead
fails line text lists = record { recipe = Some (record { conditions = []; ending = Breaks line text }); lists = lists }

-- what stands from an item on, of what stands after it
abbrev pub before : Item → Ahead → Ahead
before Nothing ahead = ahead
before (Begins head junk) ahead = plain (with_junk head junk (put (recipe_of head [] ahead.recipe) ahead.lists))
before (Judges condition) ahead = record { recipe = with_condition condition ahead.recipe; lists = ahead.lists }
before (Does act) ahead = acts act ahead.lists
before Opens ahead = acts (tree.Block (first ahead.lists)) (others ahead.lists)
before (Fails line text) ahead = fails line text ahead.lists
before Closes ahead = plain (nil ∷ ahead.lists)
before (States tree) ahead = plain (put tree ahead.lists)

-- what stands from the first of these items on
abbrev pub ahead_of : List Item → Ahead
ahead_of [] = plain []
ahead_of (item ∷ items) = before item (ahead_of items)

-- the statements of items
abbrev pub tree_of_items : List Item → Trees
tree_of_items items = first (ahead_of items).lists
