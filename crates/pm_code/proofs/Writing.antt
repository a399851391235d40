-- Code that is written one statement after another.
use Rattle.std.proofs.Common.{◌≡◌, ap, sym, ◌∙◌, List, [], ◌∷◌, ◌++◌, ℕ, ◌<◌, ◌+◌, length, take, set, get_or, zero, suc, arith, append_assoc, append-nil, length-append, add-zero, add_assoc}
use Rattle.std.proofs.Math.Seq.{set-append_seam}
use Rattle.pm_recipe.specs.declared.tree.Statement.{Statement}
use Rattle.pm_recipe.specs.Tree.{Top, Trees, nil, cons, ◌⧺◌, Block, trees_size, tree_size}
use Rattle.pm_recipe.specs.View.{trees_of, tree_of}
use Rattle.pm_recipe.proofs.Append.{trees_of-more}
use Rattle.pm_code.specs.Flat.{Flat, Enters, Leaves, written, written_one, written_recipe}

pub written-append : (at : ℕ) (a b : Trees) → written at (a ⧺ b) ≡ written at a ++ written (at + length (written at a)) b
written-append at nil b = ap (λ n. written n b) (sym (add-zero at))
written-append at (cons tree trees) b =
    let one = written_one at tree in
    let next = at + length one in
    ap (λ l. one ++ l) (written-append next trees b)
    ∙ sym (append_assoc one (written next trees) (written (next + length (written next trees)) b))
    ∙ ap (λ n. (one ++ written next trees) ++ written n b) (add_assoc at (length one) (length (written next trees)) ∙ ap (λ n. at + n) (sym (length-append one (written next trees))))

-- one statement more
pub put_more : (old now new : List Flat) (items : List Statement) (i n m : ℕ) (d : Statement) → i < length items → n ≡ length old → m ≡ length now
    → now ≡ old ++ written n (trees_of (take i items)) → new ≡ now ++ written_one m (tree_of (get_or items i d)) → new ≡ old ++ written n (trees_of (take (i + 1) items))
put_more old now new items i n m d h eo mo e k =
    let front = written n (trees_of (take i items)) in
    let tree = tree_of (get_or items i d) in
    let place : m ≡ n + length front = mo ∙ ap length e ∙ length-append old front ∙ ap (λ l. l + length front) (sym eo) in
    let one : written (n + length front) (cons tree nil) ≡ written_one m tree = append-nil (written_one (n + length front) tree) ∙ ap (λ p. written_one p tree) (sym place) in
    k ∙ ap (λ l. l ++ written_one m tree) e ∙ append_assoc old front (written_one m tree)
    ∙ ap (λ l. old ++ (front ++ l)) (sym one)
    ∙ ap (λ l. old ++ l) (sym (written-append n (trees_of (take i items)) (cons tree nil)))
    ∙ ap (λ l. old ++ written n l) (trees_of-more items i d h)

behind : (k n i : ℕ) → n ≡ k → k + suc i ≡ n + 1 + i
behind k n i e = omega arith

-- a block
pub put_block : (old begun whole new : List Flat) (top : Top) (trees : Trees) (n m end : ℕ) (x : Flat) → n ≡ length old → begun ≡ old ++ x ∷ [] → m ≡ length begun
    → whole ≡ begun ++ written m trees → end ≡ length whole → new ≡ set whole n (Enters top end) ++ Leaves n ∷ [] → new ≡ old ++ written_recipe n top (Block trees)
put_block old begun whole new top trees n m end x io b mo w eo e =
    let more : m ≡ n + 1 = mo ∙ ap length b ∙ length-append old (x ∷ []) ∙ ap (λ l. l + 1) (sym io) in
    let inner = written (n + 1) trees in
    let split : whole ≡ old ++ x ∷ inner = w ∙ ap (λ l. l ++ written m trees) b ∙ append_assoc old (x ∷ []) (written m trees) ∙ ap (λ p. old ++ x ∷ written p trees) more in
    let far : end ≡ n + 1 + length inner = eo ∙ ap length split ∙ length-append old (x ∷ inner) ∙ behind (length old) n (length inner) io in
    e ∙ ap (λ l. l ++ Leaves n ∷ []) (ap (λ p. set whole p (Enters top end)) io ∙ ap (λ l. set l (length old) (Enters top end)) split ∙ set-append_seam old x inner (Enters top end))
    ∙ append_assoc old (Enters top end ∷ inner) (Leaves n ∷ [])
    ∙ ap (λ p. old ++ Enters top p ∷ (inner ++ Leaves n ∷ [])) far

pub one_smaller : (items : List Statement) (i : ℕ) (d : Statement) → i < length items → tree_size (tree_of (get_or items i d)) < trees_size (trees_of items)
one_smaller [] i d h = absurd (omega arith)
one_smaller (s ∷ ss) zero d h = omega arith
one_smaller (s ∷ ss) (suc i) d h = omega (arith, one_smaller ss i d (omega arith))
