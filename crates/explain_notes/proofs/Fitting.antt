-- The recipes of steps, beside the lines of the same steps.
use Rattle.std.proofs.Common.{◌≡◌, ℕ, zero, suc, ◌+◌, List, [], ◌∷◌, ◌++◌, map, length, slice_get, Option, Some, None, refl, ap, sym, ◌∙◌, subst, append_assoc}
use Rattle.pm_code.specs.Flat.{Flat, Leaves, written, written_one, written_recipe}
use Rattle.pm_recipe.specs.Build.{put}
use Rattle.pm_recipe.specs.Tree.{Top, Trees, nil, cons, Tree, Assign, Unset, Recipe, Defect, Act, Mailbox, Pipe, Capture, Forward, WriteOut, Block}
use Rattle.explain_notes.specs.RcLaws.{top_of, AreLinesOf, HasLines}
use Rattle.explain_notes.specs.RcLines.{Lines}
use Rattle.explain_notes.specs.Steps.{flat}

-- a recipe has its lines
abbrev pub FitsOne : Option Top → Option Lines → Type 0
FitsOne None lines = Unit {0}
FitsOne (Some top) None = ⊥
FitsOne (Some top) (Some lines) = AreLinesOf lines top

-- each one has
abbrev pub Fits : List (Option Top) → List (Option Lines) → Type 0
Fits [] lines = Unit {0}
Fits (top ∷ tops) [] = FitsOne top None × Fits tops []
Fits (top ∷ tops) (one ∷ lines) = FitsOne top one × Fits tops lines

-- a step more that is no recipe
pub fits-none : (tops : List (Option Top)) (lines : List (Option Lines)) → Fits tops lines → Fits (tops ++ None ∷ []) lines
fits-none [] [] h = (tt, tt)
fits-none [] (one ∷ lines) h = (tt, tt)
fits-none (top ∷ tops) [] h = (h.0, fits-none tops [] h.1)
fits-none (top ∷ tops) (one ∷ lines) h = (h.0, fits-none tops lines h.1)

-- those in front
pub fits-front : (front behind : List (Option Top)) (lines : List (Option Lines)) → Fits (front ++ behind) lines → Fits front lines
fits-front [] behind lines h = tt
fits-front (top ∷ front) behind [] h = (h.0, fits-front front behind [] h.1)
fits-front (top ∷ front) behind (one ∷ lines) h = (h.0, fits-front front behind lines h.1)

none_some : (top : Top) → None ≡ Some top → ⊥
none_some top e = cc

one-at : (one : Option Lines) (top : Top) → FitsOne (Some top) one → HasLines one top
one-at None top h = absurd h
one-at (Some lines) top h = (lines, refl, h)

-- the one at a place
pub fits-at : (tops : List (Option Top)) (lines : List (Option Lines)) (place : ℕ) (top : Top) → Fits tops lines
    → flat (slice_get tops place) ≡ Some top → HasLines (flat (slice_get lines place)) top
fits-at [] lines place top h e = absurd (none_some top e)
fits-at (one ∷ tops) [] zero top h e = absurd (subst (λ t. FitsOne t None) e h.0)
fits-at (one ∷ tops) [] (suc place) top h e = fits-at tops [] place top h.1 e
fits-at (one ∷ tops) (line ∷ lines) zero top h e = one-at line top (subst (λ t. FitsOne t line) e h.0)
fits-at (one ∷ tops) (line ∷ lines) (suc place) top h e = fits-at tops lines place top h.1 e

abbrev mutual
  -- for each step of statements the recipe that it is
  pub tops_of : Trees → List (Option Top)
  tops_of nil = []
  tops_of (cons tree trees) = tree_tops tree ++ tops_of trees

  pub tree_tops : Tree → List (Option Top)
  tree_tops (Recipe top act) = recipe_tops top act
  tree_tops other = None ∷ []

  pub recipe_tops : Top → Act → List (Option Top)
  recipe_tops top (Block trees) = Some top ∷ tops_of trees ++ None ∷ []
  recipe_tops top act = Some top ∷ []

tops-append : (front behind : List Flat) → map top_of (front ++ behind) ≡ map top_of front ++ map top_of behind
tops-append [] behind = refl
tops-append (step ∷ front) behind = ap (λ (ts : List (Option Top)). top_of step ∷ ts) (tops-append front behind)

mutual
  pub tops-written : (at : ℕ) (trees : Trees) → map top_of (written at trees) ≡ tops_of trees
  tops-written at nil = refl
  tops-written at (cons tree trees) =
      let next = at + length (written_one at tree) in
      tops-append (written_one at tree) (written next trees)
      ∙ ap (λ (ts : List (Option Top)). ts ++ map top_of (written next trees)) (tops-one at tree)
      ∙ ap (λ (ts : List (Option Top)). tree_tops tree ++ ts) (tops-written next trees)

  tops-one : (at : ℕ) (tree : Tree) → map top_of (written_one at tree) ≡ tree_tops tree
  tops-one at (Assign name value) = refl
  tops-one at (Unset name) = refl
  tops-one at (Defect line text) = refl
  tops-one at (Recipe top act) = tops-recipe at top act

  tops-recipe : (at : ℕ) (top : Top) (act : Act) → map top_of (written_recipe at top act) ≡ recipe_tops top act
  tops-recipe at top (Mailbox text) = refl
  tops-recipe at top (Pipe line) = refl
  tops-recipe at top (Capture name line) = refl
  tops-recipe at top (Forward text) = refl
  tops-recipe at top WriteOut = refl
  tops-recipe at top (Block trees) =
      ap (λ (ts : List (Option Top)). Some top ∷ ts)
      (tops-append (written (at + 1) trees) (Leaves at ∷ [])
      ∙ ap (λ (ts : List (Option Top)). ts ++ None ∷ []) (tops-written (at + 1) trees))

-- the steps of open blocks, the innermost first, each with its end
abbrev pub stack_tops : List Trees → List (Option Top)
stack_tops [] = []
stack_tops (trees ∷ lists) = tops_of trees ++ None ∷ stack_tops lists

-- a statement in front of the innermost
pub fits-put : (tree : Tree) (lists : List Trees) (lines : List (Option Lines)) → Fits (tree_tops tree ++ stack_tops lists) lines
    → Fits (stack_tops (put tree lists)) lines
fits-put tree [] lines h = fits-none (tree_tops tree ++ []) lines h
fits-put tree (trees ∷ lists) lines h =
    subst (λ (ts : List (Option Top)). Fits ts lines) (sym (append_assoc (tree_tops tree) (tops_of trees) (None ∷ stack_tops lists))) h
