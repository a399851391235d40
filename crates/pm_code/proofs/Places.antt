-- What stands between two places of code that is written from statements, and what stands ahead there.
use Rattle.std.proofs.Common.{◌≡◌, refl, ap, sym, ◌∙◌, subst, List, [], ◌∷◌, ◌++◌, ℕ, zero, suc, ◌+◌, Some, length, drop, arith, append_assoc, append-nil, length-append, add-zero, add_assoc}
use Rattle.std.specs.Prelude.{slice_get}
use Rattle.pm_recipe.specs.Tree.{Top, Trees, nil, cons, ◌⧺◌, Tree, Assign, Unset, Recipe, Defect, Act, Mailbox, Pipe, Capture, Forward, WriteOut, Block}
use Rattle.pm_code.specs.Flat.{Flat, Does, Enters, Leaves, written, written_one, written_recipe}
use Rattle.pm_code.specs.Ahead.{first, others, onto, lists_of}
use Rattle.pm_code.specs.Between.{IsBetween, StandsAt, Nothing, Single, Blocked}
use Rattle.pm_code.proofs.Reading.{onto_nil, after_nil}

seam_of : (before more : List Flat) (x : Flat) → slice_get (before ++ x ∷ more) (length before) ≡ Some x
seam_of [] more x = refl
seam_of (b ∷ before) more x = seam_of before more x

-- the step after the first ones
pub seam : (steps before more : List Flat) (at : ℕ) (x : Flat) → at ≡ length before → steps ≡ before ++ x ∷ more → StandsAt steps at x
seam steps before more at x h e = rw (e, h) (seam_of before more x)

-- the step at a place is the first from there on
from_here : (steps : List Flat) (at : ℕ) (x : Flat) → StandsAt steps at x → drop at steps ≡ x ∷ drop (suc at) steps
from_here [] at x h = absurd (cc)
from_here (s ∷ steps) zero x h = let e : s ≡ x = cc in ap (λ y. y ∷ steps) e
from_here (s ∷ steps) (suc at) x h = from_here steps at x h

one_more : (at : ℕ) → at + 1 ≡ suc at
one_more at = omega arith

from_at : (steps : List Flat) (at : ℕ) (x : Flat) → StandsAt steps at x → drop at steps ≡ x ∷ drop (at + 1) steps
from_at steps at x h = from_here steps at x h ∙ ap (λ n. x ∷ drop n steps) (sym (one_more at))

mutual
  pub between-written : (steps before after : List Flat) (at : ℕ) (trees : Trees) → at ≡ length before → steps ≡ before ++ (written at trees ++ after)
      → IsBetween steps at (at + length (written at trees)) trees
  between-written steps before after at nil h e = subst (λ n. IsBetween steps at n nil) (sym (add-zero at)) (Nothing at)
  between-written steps before after at (cons tree trees) h e =
      let one = written_one at tree in
      let next = at + length one in
      let rest = written next trees in
      let whole : steps ≡ before ++ (one ++ (rest ++ after)) = e ∙ ap (λ l. before ++ l) (append_assoc one rest after) in
      let here : next ≡ length (before ++ one) = ap (λ n. n + length one) h ∙ sym (length-append before one) in
      let more = between-written steps (before ++ one) after next trees here (whole ∙ sym (append_assoc before one (rest ++ after))) in
      let far : next + length rest ≡ at + length (one ++ rest) = add_assoc at (length one) (length rest) ∙ ap (λ n. at + n) (sym (length-append one rest)) in
      between-one steps before (rest ++ after) at (at + length (one ++ rest)) tree trees h whole (subst (λ n. IsBetween steps next n trees) far more)

  between-one : (steps before more : List Flat) (at end : ℕ) (tree : Tree) (trees : Trees) → at ≡ length before → steps ≡ before ++ (written_one at tree ++ more)
      → IsBetween steps (at + length (written_one at tree)) end trees → IsBetween steps at end (cons tree trees)
  between-one steps before more at end (Assign name value) trees h e rest = Single at end _ trees (seam steps before more at _ h e) refl rest
  between-one steps before more at end (Unset name) trees h e rest = Single at end _ trees (seam steps before more at _ h e) refl rest
  between-one steps before more at end (Defect line text) trees h e rest = Single at end _ trees (seam steps before more at _ h e) refl rest
  between-one steps before more at end (Recipe top act) trees h e rest = between-recipe steps before more at end top act trees h e rest

  between-recipe : (steps before more : List Flat) (at end : ℕ) (top : Top) (act : Act) (trees : Trees) → at ≡ length before → steps ≡ before ++ (written_recipe at top act ++ more)
      → IsBetween steps (at + length (written_recipe at top act)) end trees → IsBetween steps at end (cons (Recipe top act) trees)
  between-recipe steps before more at end top (Mailbox text) trees h e rest = Single at end _ trees (seam steps before more at _ h e) refl rest
  between-recipe steps before more at end top (Pipe line) trees h e rest = Single at end _ trees (seam steps before more at _ h e) refl rest
  between-recipe steps before more at end top (Capture name line) trees h e rest = Single at end _ trees (seam steps before more at _ h e) refl rest
  between-recipe steps before more at end top (Forward text) trees h e rest = Single at end _ trees (seam steps before more at _ h e) refl rest
  between-recipe steps before more at end top WriteOut trees h e rest = Single at end _ trees (seam steps before more at _ h e) refl rest
  between-recipe steps before more at end top (Block inner) trees h e rest =
      let body = written (at + 1) inner in
      let leave = at + 1 + length body in
      let opening = Enters top leave in
      let whole : steps ≡ before ++ opening ∷ (body ++ Leaves at ∷ more) = e ∙ ap (λ l. before ++ opening ∷ l) (append_assoc body (Leaves at ∷ []) more) in
      let behind : at + 1 ≡ length (before ++ opening ∷ []) = ap (λ n. n + 1) h ∙ sym (length-append before (opening ∷ [])) in
      let inside : steps ≡ (before ++ opening ∷ []) ++ (body ++ Leaves at ∷ more) = whole ∙ sym (append_assoc before (opening ∷ []) (body ++ Leaves at ∷ more)) in
      let closing : steps ≡ ((before ++ opening ∷ []) ++ body) ++ Leaves at ∷ more = inside ∙ sym (append_assoc (before ++ opening ∷ []) body (Leaves at ∷ more)) in
      let there : leave ≡ length ((before ++ opening ∷ []) ++ body) = ap (λ n. n + length body) behind ∙ sym (length-append (before ++ opening ∷ []) body) in
      let far : at + suc (length (body ++ Leaves at ∷ [])) ≡ leave + 1 = omega (arith, length-append body (Leaves at ∷ [])) in
      Blocked at leave end top inner trees (seam steps before _ at opening h whole) (between-written steps (before ++ opening ∷ []) (Leaves at ∷ more) (at + 1) inner behind inside)
      (seam steps ((before ++ opening ∷ []) ++ body) more leave (Leaves at) there closing) (subst (λ n. IsBetween steps n end trees) far rest)

none_before : (n : ℕ) → 0 + n ≡ n
none_before n = omega arith

-- the code of statements has them between its ends
pub between-whole : (trees : Trees) → IsBetween (written 0 trees) 0 (length (written 0 trees)) trees
between-whole trees =
    subst (λ n. IsBetween (written 0 trees) 0 n trees) (none_before (length (written 0 trees)))
    (between-written (written 0 trees) [] [] 0 trees refl (sym (append-nil (written 0 trees))))

pub between_code : (trees : Trees) (steps : List Flat) (len : ℕ) → steps ≡ written 0 trees → len ≡ length steps → IsBetween steps 0 len trees
between_code trees steps len e n =
    subst (λ k. IsBetween steps 0 k trees) (sym n) (subst (λ s. IsBetween s 0 (length s) trees) (sym e) (between-whole trees))

-- what stands ahead at a place are the statements up to another one, and then what stands ahead there
pub between-ahead : (steps : List Flat) (at end : ℕ) (trees : Trees) → IsBetween steps at end trees → lists_of (drop at steps) ≡ onto trees (lists_of (drop end steps))
between-ahead steps n e l (Nothing at) = sym (onto_nil (drop at steps))
between-ahead steps n e l (Single at end tree trees here single rest) =
    ap lists_of (from_at steps at (Does tree) here) ∙ ap (λ l. cons tree (first l) ∷ others l) (between-ahead steps (at + 1) end trees rest)
between-ahead steps n e l (Blocked at leave end top inner trees here body there rest) =
    let closing : lists_of (drop leave steps) ≡ nil ∷ lists_of (drop (leave + 1) steps) = ap lists_of (from_at steps leave (Leaves at) there) in
    let inside : lists_of (drop (at + 1) steps) ≡ inner ∷ lists_of (drop (leave + 1) steps) =
    between-ahead steps (at + 1) leave inner body ∙ ap (onto inner) closing ∙ ap (λ t. t ∷ lists_of (drop (leave + 1) steps)) (after_nil inner) in
    ap lists_of (from_at steps at (Enters top leave) here)
    ∙ ap (λ l. cons (Recipe top (Block (first l))) (first (others l)) ∷ others (others l)) inside
    ∙ ap (λ l. cons (Recipe top (Block inner)) (first l) ∷ others l) (between-ahead steps (leave + 1) end trees rest)

-- how many statements are in a list
abbrev count : Trees → ℕ
count nil = 0
count (cons tree trees) = suc (count trees)

count-join : (a b : Trees) → count (a ⧺ b) ≡ count a + count b
count-join nil b = omega arith
count-join (cons tree trees) b = let e = count-join trees b in omega (arith, e)

-- what stands before the same rest is the same
pub same_front : (a b rest : Trees) → a ⧺ rest ≡ b ⧺ rest → a ≡ b
same_front nil nil rest h = refl
same_front nil (cons tree trees) rest h = let e = ap count h ∙ count-join (cons tree trees) rest in absurd (omega (arith, e))
same_front (cons tree trees) nil rest h = let e = ap count (sym h) ∙ count-join (cons tree trees) rest in absurd (omega (arith, e))
same_front (cons tree trees) (cons other others) rest h =
    let t : tree ≡ other = cc in
    let r : trees ⧺ rest ≡ others ⧺ rest = cc in
    ap (λ x. cons x trees) t ∙ ap (cons other) (same_front trees others rest r)

-- between two places stand no other statements
pub between-once : (steps : List Flat) (at end : ℕ) (a b : Trees) → IsBetween steps at end a → IsBetween steps at end b → a ≡ b
between-once steps at end a b x y =
    let e = sym (between-ahead steps at end a x) ∙ between-ahead steps at end b y in
    same_front a b (first (lists_of (drop end steps))) (ap first e)
