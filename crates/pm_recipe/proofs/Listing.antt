-- What the grammar of items lists is the tree that is built of them.
use Rattle.std.proofs.Common.{◌≡◌, ℕ, List, [], ◌∷◌, ◌++◌, Bool, true, false, Option, Some, None, refl, ap, sym, ◌∙◌, append_assoc, append-nil}
use Rattle.pm_recipe.specs.declared.tree.Condition.{Condition}
use Rattle.pm_recipe.specs.declared.building.Head.{Head}
use Rattle.pm_recipe.specs.Item.{Item}
use Rattle.pm_recipe.specs.Item.Item.{Begins, Opens, Fails, Closes}
use Rattle.pm_recipe.specs.Tree.{Trees, Tree, Act, cons, ◌⧺◌, Block, Defect}
use Rattle.pm_recipe.specs.Build.{Rest, ahead_of, first, others, put, recipe_of, with_junk, with_condition, tree_of_items}
use Rattle.pm_recipe.specs.Build.Ending.{Acts as Ends}
use Rattle.pm_recipe.specs.Lists.{Conditions, Lists, Acts, told, recipe}
use Rattle.pm_recipe.specs.Lists.Conditions.{Last, Between, One}
use Rattle.pm_recipe.specs.Lists.Lists.{End, Gap, Statement, Ruled, Wanting, Deep}
use Rattle.pm_recipe.specs.Lists.Acts.{Plain, Braces}
use Rattle.pm_recipe.proofs.Append.{to_nil}

-- where statements stand before others
record AreBefore (items : List Item) (trees : Trees) (more : List Item) : Type 0 where
  recipe_is : (ahead_of (items ++ more)).recipe ≡ None
  first_is : first (ahead_of (items ++ more)).lists ≡ trees ⧺ first (ahead_of more).lists
  others_are : others (ahead_of (items ++ more)).lists ≡ others (ahead_of more).lists

-- where an action stands before others
record IsActBefore (items : List Item) (act : Act) (more : List Item) : Type 0 where
  recipe_is : (ahead_of (items ++ more)).recipe ≡ Some (record { conditions = []; ending = Ends act })
  first_is : first (ahead_of (items ++ more)).lists ≡ first (ahead_of more).lists
  others_are : others (ahead_of (items ++ more)).lists ≡ others (ahead_of more).lists

-- the end of a recipe after conditions
abbrev with_all : List Condition → Option Rest → Option Rest
with_all conditions None = None
with_all conditions (Some rest) = Some (record { conditions = conditions ++ rest.conditions; ending = rest.ending })

one-more : (condition : Condition) (conditions : List Condition) (rest : Option Rest)
    → with_condition condition (with_all conditions rest) ≡ with_all (condition ∷ conditions) rest
one-more condition conditions None = refl
one-more condition conditions (Some rest) = refl

none-more : (rest : Option Rest) → rest ≡ with_all [] rest
none-more None = refl
none-more (Some rest) = refl

-- where conditions stand before others
record AreJudgedBefore (items : List Item) (conditions : List Condition) (more : List Item) : Type 0 where
  recipe_is : (ahead_of (items ++ more)).recipe ≡ with_all conditions (ahead_of more).recipe
  lists_are : (ahead_of (items ++ more)).lists ≡ (ahead_of more).lists

judged-before : (items : List Item) (conditions : List Condition) (more : List Item) → Conditions items conditions → AreJudgedBefore items conditions more
judged-before _ _ more Last = record { recipe_is = none-more (ahead_of more).recipe; lists_are = refl }
judged-before _ _ more (Between items conditions c) =
    let b = judged-before items conditions more c in record { recipe_is = b.recipe_is; lists_are = b.lists_are }
judged-before _ _ more (One condition items conditions c) =
    let b = judged-before items conditions more c in
    record {
      recipe_is = ap (λ r. with_condition condition r) b.recipe_is ∙ one-more condition conditions (ahead_of more).recipe;
      lists_are = b.lists_are;
    }

told-first : (junk : Bool) (head : Head) (trees : Trees) (lists : List Trees) (inner : Trees) → first lists ≡ trees ⧺ inner
    → first (with_junk head junk lists) ≡ told junk head trees ⧺ inner
told-first true head trees lists inner is = ap (λ t. cons (Defect head.line head.text) t) is
told-first false head trees lists inner is = is

told-others : (junk : Bool) (head : Head) (lists : List Trees) → others (with_junk head junk lists) ≡ others lists
told-others true head lists = refl
told-others false head lists = refl

-- a colon line and its conditions before what ends the recipe
begun-before : (head : Head) (junk : Bool) (conditions items : List Item) (judged : List Condition) (tree : Tree) (trees : Trees) (more : List Item)
    → Conditions conditions judged → recipe_of head [] (with_all judged (ahead_of (items ++ more)).recipe) ≡ tree
    → first (ahead_of (items ++ more)).lists ≡ trees ⧺ first (ahead_of more).lists
    → others (ahead_of (items ++ more)).lists ≡ others (ahead_of more).lists
    → AreBefore (Begins head junk ∷ (conditions ++ items)) (told junk head (cons tree trees)) more
begun-before head junk conditions items judged tree trees more c is first_is others_are =
    let rest : List Item = conditions ++ (items ++ more) in
    let rest_is : (conditions ++ items) ++ more ≡ rest = append_assoc conditions items more in
    let j = judged-before conditions judged (items ++ more) c in
    let inner = first (ahead_of more).lists in
    let lists = put (recipe_of head [] (ahead_of rest).recipe) (ahead_of rest).lists in
    let lists_is : first lists ≡ cons tree trees ⧺ inner =
    ap (λ r. cons (recipe_of head [] r) (first (ahead_of rest).lists)) j.recipe_is
    ∙ ap (λ t. cons t (first (ahead_of rest).lists)) is ∙ ap (λ t. cons tree t) (ap first j.lists_are ∙ first_is) in
    record {
      recipe_is = refl;
      first_is = ap (λ xs. first (ahead_of (Begins head junk ∷ xs)).lists) rest_is ∙ told-first junk head (cons tree trees) lists inner lists_is;
      others_are = ap (λ xs. others (ahead_of (Begins head junk ∷ xs)).lists) rest_is ∙ told-others junk head lists ∙ ap others j.lists_are ∙ others_are;
    }

-- a recipe before others
ruled : (head : Head) (junk : Bool) (conditions action items : List Item) (judged : List Condition) (act : Act) (trees : Trees) (more : List Item)
    → Conditions conditions judged → IsActBefore action act (items ++ more) → AreBefore items trees more
    → AreBefore (Begins head junk ∷ (conditions ++ (action ++ items))) (told junk head (cons (recipe head judged act) trees)) more
ruled head junk conditions action items judged act trees more c a b =
    let rest_is : (action ++ items) ++ more ≡ action ++ (items ++ more) = append_assoc action items more in
    begun-before head junk conditions (action ++ items) judged (recipe head judged act) trees more c
    (ap (λ xs. recipe_of head [] (with_all judged (ahead_of xs).recipe)) rest_is ∙ ap (λ r. recipe_of head [] (with_all judged r)) a.recipe_is
    ∙ ap (λ cs. recipe head cs act) (append-nil judged))
    (ap (λ xs. first (ahead_of xs).lists) rest_is ∙ a.first_is ∙ b.first_is)
    (ap (λ xs. others (ahead_of xs).lists) rest_is ∙ a.others_are ∙ b.others_are)

wanting : (head : Head) (junk : Bool) (conditions items : List Item) (judged : List Condition) (trees : Trees) (more : List Item)
    → Conditions conditions judged → AreBefore items trees more
    → AreBefore (Begins head junk ∷ (conditions ++ items)) (told junk head (cons (Defect head.line head.text) trees)) more
wanting head junk conditions items judged trees more c b =
    begun-before head junk conditions items judged (Defect head.line head.text) trees more c
    (ap (λ r. recipe_of head [] (with_all judged r)) b.recipe_is) b.first_is b.others_are

deep : (head : Head) (junk : Bool) (conditions items : List Item) (judged : List Condition) (line : ℕ) (text : List ℕ) (trees : Trees) (more : List Item)
    → Conditions conditions judged → AreBefore items trees more
    → AreBefore (Begins head junk ∷ (conditions ++ (Fails line text ∷ items))) (told junk head (cons (Defect line text) trees)) more
deep head junk conditions items judged line text trees more c b =
    begun-before head junk conditions (Fails line text ∷ items) judged (Defect line text) trees more c refl b.first_is b.others_are

-- a block before others
braces : (items : List Item) (trees : Trees) (more : List Item) → AreBefore items trees (Closes ∷ more) → IsActBefore (Opens ∷ (items ++ (Closes ∷ []))) (Block trees) more
braces items trees more b =
    let rest_is : (items ++ (Closes ∷ [])) ++ more ≡ items ++ (Closes ∷ more) = append_assoc items (Closes ∷ []) more in
    let block_is : first (ahead_of (items ++ (Closes ∷ more))).lists ≡ trees = b.first_is ∙ to_nil trees in
    let some : Trees → Option Rest = λ t. Some (record { conditions = []; ending = Ends (Block t) }) in
    record {
      recipe_is = ap (λ xs. (ahead_of (Opens ∷ xs)).recipe) rest_is ∙ ap some block_is;
      first_is = ap (λ xs. first (ahead_of (Opens ∷ xs)).lists) rest_is ∙ ap first b.others_are;
      others_are = ap (λ xs. others (ahead_of (Opens ∷ xs)).lists) rest_is ∙ ap others b.others_are;
    }

mutual
  listed : (items : List Item) (trees : Trees) (more : List Item) → Lists items trees → (ahead_of more).recipe ≡ None → AreBefore items trees more
  listed _ _ more End none = record { recipe_is = none; first_is = refl; others_are = refl }
  listed _ _ more (Gap items trees l) none =
      let b = listed items trees more l none in record { recipe_is = b.recipe_is; first_is = b.first_is; others_are = b.others_are }
  listed _ _ more (Statement tree items trees l) none =
      let b = listed items trees more l none in record { recipe_is = refl; first_is = ap (λ t. cons tree t) b.first_is; others_are = b.others_are }
  listed _ _ more (Ruled head junk conditions action items judged act trees c a l) none =
      ruled head junk conditions action items judged act trees more c (acted action act (items ++ more) a) (listed items trees more l none)
  listed _ _ more (Wanting head junk conditions items judged trees c l) none = wanting head junk conditions items judged trees more c (listed items trees more l none)
  listed _ _ more (Deep head junk conditions items judged line text trees c l) none =
      deep head junk conditions items judged line text trees more c (listed items trees more l none)

  acted : (items : List Item) (act : Act) (more : List Item) → Acts items act → IsActBefore items act more
  acted _ _ more (Plain act) = record { recipe_is = refl; first_is = refl; others_are = refl }
  acted _ _ more (Braces items trees l) = braces items trees more (listed items trees (Closes ∷ more) l refl)

pub lists-tree : (items : List Item) (trees : Trees) → Lists items trees → trees ≡ tree_of_items items
lists-tree items trees l =
    let b = listed items trees [] l refl in
    sym (ap (λ xs. first (ahead_of xs).lists) (sym (append-nil items)) ∙ b.first_is ∙ to_nil trees)
