-- What stands ahead in code that is written from statements.
use Rattle.std.proofs.Common.{◌≡◌, refl, ap, sym, ◌∙◌, List, [], ◌∷◌, ◌++◌, ℕ, zero, suc, ◌+◌, true, ◌&&◌, nat_eq, eq-eqb, Some, length, arith, append_assoc, append-nil, length-append, add-zero, add_assoc}
use Rattle.pm_recipe.specs.Tree.{Top, Trees, nil, cons, ◌⧺◌, Tree, Assign, Unset, Recipe, Defect, Act, Mailbox, Pipe, Capture, Forward, WriteOut, Block}
use Rattle.pm_code.specs.Flat.{Flat, Does, Enters, Leaves, written, written_one, written_recipe}
use Rattle.pm_code.specs.Ahead.{first, others, onto, lists_of, ends_of, is_first, ends_right, nth}
use Rattle.pm_code.specs.Laws.{EndsThere}

-- a statement in front of the first list
abbrev put : Tree → List Trees → List Trees
put tree lists = cons tree (first lists) ∷ others lists

pub onto_nil : (steps : List Flat) → onto nil (lists_of steps) ≡ lists_of steps
onto_nil [] = refl
onto_nil (Does tree ∷ steps) = refl
onto_nil (Enters top end ∷ steps) = refl
onto_nil (Leaves enter ∷ steps) = refl

mutual
  pub lists-written : (at : ℕ) (trees : Trees) (more : List Flat) → lists_of (written at trees ++ more) ≡ onto trees (lists_of more)
  lists-written at nil more = sym (onto_nil more)
  lists-written at (cons tree trees) more =
      let next = at + length (written_one at tree) in
      ap lists_of (append_assoc (written_one at tree) (written next trees) more)
      ∙ lists-one at tree (written next trees ++ more) ∙ ap (put tree) (lists-written next trees more)

  lists-one : (at : ℕ) (tree : Tree) (more : List Flat) → lists_of (written_one at tree ++ more) ≡ put tree (lists_of more)
  lists-one at (Assign name value) more = refl
  lists-one at (Unset name) more = refl
  lists-one at (Defect line text) more = refl
  lists-one at (Recipe top act) more = lists-recipe at top act more

  lists-recipe : (at : ℕ) (top : Top) (act : Act) (more : List Flat) → lists_of (written_recipe at top act ++ more) ≡ put (Recipe top act) (lists_of more)
  lists-recipe at top (Mailbox text) more = refl
  lists-recipe at top (Pipe line) more = refl
  lists-recipe at top (Capture name line) more = refl
  lists-recipe at top (Forward text) more = refl
  lists-recipe at top WriteOut more = refl
  lists-recipe at top (Block trees) more =
      let inner = written (at + 1) trees in
      let end = at + 1 + length inner in
      ap (λ l. lists_of (Enters top end ∷ l)) (append_assoc inner (Leaves at ∷ []) more)
      ∙ ap (λ ls. cons (Recipe top (Block (first ls))) (first (others ls)) ∷ others (others ls)) (lists-written (at + 1) trees (Leaves at ∷ more))
      ∙ ap (λ t. cons (Recipe top (Block t)) (first (lists_of more)) ∷ others (lists_of more)) (after_nil trees)

  pub after_nil : (trees : Trees) → trees ⧺ nil ≡ trees
  after_nil nil = refl
  after_nil (cons tree trees) = ap (cons tree) (after_nil trees)

one_on : (n : ℕ) → n + 1 ≡ suc n
one_on n = omega arith

block_length : (at : ℕ) (inner : List Flat) → suc (at + 1 + length inner) ≡ at + suc (length (inner ++ Leaves at ∷ []))
block_length at inner = omega (arith, length-append inner (Leaves at ∷ []))

mutual
  pub ends-written : (at : ℕ) (trees : Trees) (more : List Flat) → ends_of at (written at trees ++ more) ≡ ends_of (at + length (written at trees)) more
  ends-written at nil more = ap (λ n. ends_of n more) (sym (add-zero at))
  ends-written at (cons tree trees) more =
      let one = written_one at tree in
      let next = at + length one in
      ap (ends_of at) (append_assoc one (written next trees) more)
      ∙ ends-one at tree (written next trees ++ more) ∙ ends-written next trees more
      ∙ ap (λ n. ends_of n more) (add_assoc at (length one) (length (written next trees)) ∙ ap (λ n. at + n) (sym (length-append one (written next trees))))

  ends-one : (at : ℕ) (tree : Tree) (more : List Flat) → ends_of at (written_one at tree ++ more) ≡ ends_of (at + length (written_one at tree)) more
  ends-one at (Assign name value) more = ap (λ n. ends_of n more) (sym (one_on at))
  ends-one at (Unset name) more = ap (λ n. ends_of n more) (sym (one_on at))
  ends-one at (Defect line text) more = ap (λ n. ends_of n more) (sym (one_on at))
  ends-one at (Recipe top act) more = ends-recipe at top act more

  ends-recipe : (at : ℕ) (top : Top) (act : Act) (more : List Flat) → ends_of at (written_recipe at top act ++ more) ≡ ends_of (at + length (written_recipe at top act)) more
  ends-recipe at top (Mailbox text) more = ap (λ n. ends_of n more) (sym (one_on at))
  ends-recipe at top (Pipe line) more = ap (λ n. ends_of n more) (sym (one_on at))
  ends-recipe at top (Capture name line) more = ap (λ n. ends_of n more) (sym (one_on at))
  ends-recipe at top (Forward text) more = ap (λ n. ends_of n more) (sym (one_on at))
  ends-recipe at top WriteOut more = ap (λ n. ends_of n more) (sym (one_on at))
  ends-recipe at top (Block trees) more =
      let inner = written (at + 1) trees in
      let end = at + 1 + length inner in
      ap (λ l. others (ends_of (suc at) l)) (append_assoc inner (Leaves at ∷ []) more)
      ∙ ap (λ n. others (ends_of n (inner ++ Leaves at ∷ more))) (sym (one_on at))
      ∙ ap others (ends-written (at + 1) trees (Leaves at ∷ more))
      ∙ ap (λ n. ends_of n more) (block_length at inner)

same_place : (n : ℕ) → nat_eq n n ≡ true
same_place n = eq-eqb n n refl

mutual
  pub right-written : (at : ℕ) (trees : Trees) (more : List Flat) → ends_right at (written at trees ++ more) ≡ ends_right (at + length (written at trees)) more
  right-written at nil more = ap (λ n. ends_right n more) (sym (add-zero at))
  right-written at (cons tree trees) more =
      let one = written_one at tree in
      let next = at + length one in
      ap (ends_right at) (append_assoc one (written next trees) more)
      ∙ right-one at tree (written next trees ++ more) ∙ right-written next trees more
      ∙ ap (λ n. ends_right n more) (add_assoc at (length one) (length (written next trees)) ∙ ap (λ n. at + n) (sym (length-append one (written next trees))))

  right-one : (at : ℕ) (tree : Tree) (more : List Flat) → ends_right at (written_one at tree ++ more) ≡ ends_right (at + length (written_one at tree)) more
  right-one at (Assign name value) more = ap (λ n. ends_right n more) (sym (one_on at))
  right-one at (Unset name) more = ap (λ n. ends_right n more) (sym (one_on at))
  right-one at (Defect line text) more = ap (λ n. ends_right n more) (sym (one_on at))
  right-one at (Recipe top act) more = right-recipe at top act more

  right-recipe : (at : ℕ) (top : Top) (act : Act) (more : List Flat) → ends_right at (written_recipe at top act ++ more) ≡ ends_right (at + length (written_recipe at top act)) more
  right-recipe at top (Mailbox text) more = ap (λ n. ends_right n more) (sym (one_on at))
  right-recipe at top (Pipe line) more = ap (λ n. ends_right n more) (sym (one_on at))
  right-recipe at top (Capture name line) more = ap (λ n. ends_right n more) (sym (one_on at))
  right-recipe at top (Forward text) more = ap (λ n. ends_right n more) (sym (one_on at))
  right-recipe at top WriteOut more = ap (λ n. ends_right n more) (sym (one_on at))
  right-recipe at top (Block trees) more =
      let inner = written (at + 1) trees in
      let end = at + 1 + length inner in
      let rest = Leaves at ∷ more in
      ap (λ l. is_first end (ends_of (suc at) l) && ends_right (suc at) l) (append_assoc inner (Leaves at ∷ []) more)
      ∙ ap (λ n. is_first end (ends_of n (inner ++ rest)) && ends_right n (inner ++ rest)) (sym (one_on at))
      ∙ ap (λ es. is_first end es && ends_right (at + 1) (inner ++ rest)) (ends-written (at + 1) trees rest)
      ∙ ap (λ b. b && ends_right (at + 1) (inner ++ rest)) (same_place end)
      ∙ right-written (at + 1) trees rest
      ∙ ap (λ n. ends_right n more) (block_length at inner)

-- the code of statements ends where its blocks say
pub right-whole : (trees : Trees) → ends_right 0 (written 0 trees) ≡ true
right-whole trees = ap (ends_right 0) (sym (append-nil (written 0 trees))) ∙ right-written 0 trees []

-- what is ahead of the code of statements is these statements
pub lists-whole : (trees : Trees) → lists_of (written 0 trees) ≡ trees ∷ []
lists-whole trees = ap lists_of (sym (append-nil (written 0 trees))) ∙ lists-written 0 trees [] ∙ ap (λ t. t ∷ []) (after_nil trees)

nth-others : (k : ℕ) (es : List ℕ) → nth k (others es) ≡ nth (suc k) es
nth-others zero [] = refl
nth-others (suc k) [] = refl
nth-others zero (e ∷ es) = refl
nth-others (suc k) (e ∷ es) = refl

first_place : (e at : ℕ) → Some at ≡ Some e → e ≡ at + 0
first_place e at h = let s : at ≡ e = cc in omega (arith, s)

pub ends_there : (k at e : ℕ) (steps : List Flat) → nth k (ends_of at steps) ≡ Some e → EndsThere at k e steps
ends_there zero at e [] h = absurd (cc)
ends_there (suc k) at e [] h = absurd (cc)
ends_there k at e (Does tree ∷ steps) h =
    let t = ends_there k (suc at) e steps h in
    record { far = suc t.far; place = omega (arith, t.place); within = omega (arith, t.within); behind = t.behind }
ends_there k at e (Enters top end ∷ steps) h =
    let t = ends_there (suc k) (suc at) e steps (sym (nth-others k (ends_of (suc at) steps)) ∙ h) in
    record { far = suc t.far; place = omega (arith, t.place); within = omega (arith, t.within); behind = t.behind }
ends_there zero at e (Leaves enter ∷ steps) h = record { far = 0; place = first_place e at h; within = omega arith; behind = refl }
ends_there (suc k) at e (Leaves enter ∷ steps) h =
    let t = ends_there k (suc at) e steps h in
    record { far = suc t.far; place = omega (arith, t.place); within = omega (arith, t.within); behind = t.behind }
