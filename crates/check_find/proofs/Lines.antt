-- The lines of defects, one statement after another.
use Rattle.std.proofs.Common.{◌≡◌, ℕ, zero, suc, ◌+◌, ◌<◌, List, [], ◌∷◌, ◌++◌, refl, ap, sym, ◌∙◌, length, take, get_or, arith, append_assoc, append-nil}
use Rattle.pm_recipe.specs.declared.tree.Statement.{Statement}
use Rattle.pm_recipe.specs.Tree.{Trees, nil, cons, ◌⧺◌, trees_size, tree_size}
use Rattle.pm_recipe.specs.View.{trees_of, tree_of}
use Rattle.pm_recipe.proofs.Append.{trees_of-more}
use Rattle.check_find.specs.Statements.{defect_lines, defects_in}

lines-append : (a b : Trees) → defect_lines (a ⧺ b) ≡ defect_lines a ++ defect_lines b
lines-append nil b = refl
lines-append (cons tree trees) b =
    ap (λ l. defects_in tree ++ l) (lines-append trees b) ∙ sym (append_assoc (defects_in tree) (defect_lines trees) (defect_lines b))

-- one statement more
pub lines-more : (old now new : List ℕ) (items : List Statement) (i : ℕ) (d : Statement) → i < length items → now ≡ old ++ defect_lines (trees_of (take i items))
    → new ≡ now ++ defects_in (tree_of (get_or items i d)) → new ≡ old ++ defect_lines (trees_of (take (i + 1) items))
lines-more old now new items i d h e k =
    let front = trees_of (take i items) in
    let tree = tree_of (get_or items i d) in
    k ∙ ap (λ l. l ++ defects_in tree) e ∙ append_assoc old (defect_lines front) (defects_in tree)
    ∙ ap (λ l. old ++ (defect_lines front ++ l)) (sym (append-nil (defects_in tree)))
    ∙ ap (λ l. old ++ l) (sym (lines-append front (cons tree nil)))
    ∙ ap (λ t. old ++ defect_lines t) (trees_of-more items i d h)

-- a statement is smaller than the list that it stands in
pub one-smaller : (items : List Statement) (i : ℕ) (d : Statement) → i < length items → tree_size (tree_of (get_or items i d)) < trees_size (trees_of items)
one-smaller [] i d h = absurd (omega arith)
one-smaller (s ∷ ss) zero d h = omega arith
one-smaller (s ∷ ss) (suc i) d h = omega (arith, one-smaller ss i d (omega arith))
