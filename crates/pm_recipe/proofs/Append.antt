-- Lists of statements one after another.
use Rattle.std.proofs.Common.{◌≡◌, refl, ap, sym, ◌∙◌, List, [], ◌∷◌, ◌++◌, ℕ, ◌<◌, ◌+◌, length, take, get_or}
use Rattle.std.proofs.lemmas.List.{take_more}
use Rattle.pm_recipe.specs.declared.tree.Statement.{Statement}
use Rattle.pm_recipe.specs.Tree.{Trees, nil, cons, ◌⧺◌}
use Rattle.pm_recipe.specs.View.{trees_of, tree_of}

pub trees_of-append : (xs ys : List Statement) → trees_of (xs ++ ys) ≡ trees_of xs ⧺ trees_of ys
trees_of-append [] ys = refl
trees_of-append (x ∷ xs) ys = ap (cons (tree_of x)) (trees_of-append xs ys)

pub trees_of-more : (items : List Statement) (i : ℕ) (d : Statement) → i < length items
    → trees_of (take i items) ⧺ cons (tree_of (get_or items i d)) nil ≡ trees_of (take (i + 1) items)
trees_of-more items i d h = sym (ap trees_of (take_more items i d h) ∙ trees_of-append (take i items) (get_or items i d ∷ []))

pub assoc : (a b c : Trees) → (a ⧺ b) ⧺ c ≡ a ⧺ (b ⧺ c)
assoc nil b c = refl
assoc (cons tree trees) b c = ap (cons tree) (assoc trees b c)

pub to_nil : (a : Trees) → a ⧺ nil ≡ a
to_nil nil = refl
to_nil (cons tree trees) = ap (cons tree) (to_nil trees)

-- a copy more, of copies that are equal to these statements
pub copied-more : (old new : List Statement) (copy one : Statement) (items more : List Statement) → new ≡ old ++ (copy ∷ []) → trees_of old ≡ trees_of items
    → tree_of copy ≡ tree_of one → trees_of items ⧺ cons (tree_of one) nil ≡ trees_of more → trees_of new ≡ trees_of more
copied-more old new copy one items more push same is next =
    ap trees_of push ∙ trees_of-append old (copy ∷ []) ∙ ap (λ t. t ⧺ cons (tree_of copy) nil) same ∙ ap (λ t. trees_of items ⧺ cons t nil) is ∙ next
