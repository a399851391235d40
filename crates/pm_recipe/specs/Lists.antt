-- The statements of an rcfile as a grammar of its items: one constructor for each form (procmailrc(5)).
use Rattle.std.specs.Prelude.{ℕ, List, [], ◌∷◌, ◌++◌, Bool, true, false}
use Rattle.pm_recipe.specs.declared.tree.Condition.{Condition}
use Rattle.pm_recipe.specs.declared.building.Head.{Head}
use Rattle.pm_recipe.specs.Item.{Item}
use Rattle.pm_recipe.specs.Item.Item.{Nothing, Begins, Judges, Does, Opens, Fails, Closes, States}
use Rattle.pm_recipe.specs.Tree.{Trees, Tree, Act, nil, cons, Recipe, Block, Defect}

-- conditions, and what stands between them
pub data Conditions : List Item → List Condition → Type 0 where
  Last : Conditions [] []
  Between : (items : List Item) (conditions : List Condition) → Conditions items conditions → Conditions (Nothing ∷ items) conditions
  One : (condition : Condition) (items : List Item) (conditions : List Condition) → Conditions items conditions → Conditions (Judges condition ∷ items) (condition ∷ conditions)

-- a colon line that isn't understood whole is told before its recipe
abbrev pub told : Bool → Head → Trees → Trees
told true head trees = cons (Defect head.line head.text) trees
told false head trees = trees

-- the recipe of a colon line
abbrev pub recipe : Head → List Condition → Act → Tree
recipe head conditions act = Recipe (record { flags = head.flags; lock = head.lock; conditions = conditions }) act

mutual
  -- statements of one level: a recipe, one whose action is wanting, one with a brace too deep in its action's place
  pub data Lists : List Item → Trees → Type 0 where
    End : Lists [] nil
    Gap : (items : List Item) (trees : Trees) → Lists items trees → Lists (Nothing ∷ items) trees
    Statement : (tree : Tree) (items : List Item) (trees : Trees) → Lists items trees → Lists (States tree ∷ items) (cons tree trees)
    Ruled : (head : Head) (junk : Bool) (conditions action items : List Item) (judged : List Condition) (act : Act) (trees : Trees)
        → Conditions conditions judged → Acts action act → Lists items trees
        → Lists (Begins head junk ∷ (conditions ++ (action ++ items))) (told junk head (cons (recipe head judged act) trees))
    Wanting : (head : Head) (junk : Bool) (conditions items : List Item) (judged : List Condition) (trees : Trees)
        → Conditions conditions judged → Lists items trees
        → Lists (Begins head junk ∷ (conditions ++ items)) (told junk head (cons (Defect head.line head.text) trees))
    Deep : (head : Head) (junk : Bool) (conditions items : List Item) (judged : List Condition) (line : ℕ) (text : List ℕ) (trees : Trees)
        → Conditions conditions judged → Lists items trees
        → Lists (Begins head junk ∷ (conditions ++ (Fails line text ∷ items))) (told junk head (cons (Defect line text) trees))

  -- an action: one that is no block, or the statements between braces
  pub data Acts : List Item → Act → Type 0 where
    Plain : (act : Act) → Acts (Does act ∷ []) act
    Braces : (items : List Item) (trees : Trees) → Lists items trees → Acts (Opens ∷ (items ++ (Closes ∷ []))) (Block trees)
