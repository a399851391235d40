-- What is done and what is ahead, one statement further.
use Rattle.std.proofs.Common.{◌≡◌, ap, sym, ◌∙◌, List, [], ◌∷◌, length, map, arith}
use Rattle.pm_recipe.specs.declared.tree.Condition.{Condition}
use Rattle.pm_recipe.specs.declared.building.Head.{Head}
use Rattle.pm_recipe.specs.Tree.{Trees, Tree, Recipe, Block, nil, cons, ◌⧺◌}
use Rattle.pm_recipe.specs.Build.{put, first, others, top_of}
use Rattle.pm_recipe.specs.Builder.{Level, joined, block_of}
use Rattle.pm_recipe.proofs.Append.{assoc, to_nil}

pub joined-put : (levels : List Level) (done : Trees) (tree : Tree) (lists : List Trees)
    → joined levels (done ⧺ cons tree nil) lists ≡ joined levels done (put tree lists)
joined-put [] done tree lists = assoc done (cons tree nil) (first lists)
joined-put (level ∷ levels) done tree lists =
    ap (λ block. joined levels (level.done ⧺ cons (block_of level block) nil) (others lists)) (assoc done (cons tree nil) (first lists))

pub joined-open : (levels : List Level) (done : Trees) (head : Head) (conditions : List Condition) (lists : List Trees)
    → joined (record { done = done; head = head; conditions = conditions } ∷ levels) nil lists
    ≡ joined levels done (put (Recipe (top_of head conditions) (Block (first lists))) (others lists))
joined-open levels done head conditions lists = joined-put levels done (Recipe (top_of head conditions) (Block (first lists))) (others lists)

pub joined-close : (levels : List Level) (level : Level) (done : Trees) (lists : List Trees)
    → joined levels level.done (put (block_of level done) lists) ≡ joined (level ∷ levels) done (nil ∷ lists)
joined-close levels level done lists =
    sym (joined-put levels level.done (block_of level done) lists)
    ∙ ap (λ block. joined levels (level.done ⧺ cons (block_of level block) nil) lists) (sym (to_nil done))

pub joined-empty : {L : Type 0} (f : L → Level) (items : List L) (done : Trees) → length items ≡ 0 → joined (map f items) done [] ≡ done
joined-empty f [] done h = to_nil done
joined-empty f (item ∷ items) done h = absurd (omega arith)
