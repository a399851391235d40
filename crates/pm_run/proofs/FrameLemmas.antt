-- How the items of an rcfile go on.
use Rattle.std.proofs.Common.{◌≡◌, ◌<◌, ◌+◌, ◌∙◌, ℕ, zero, suc, List, [], ◌∷◌, ◌++◌, Bool, true, false, ◌&&◌, Some, length, drop, length-drop, refl, sym, ap, subst, arith}
use Rattle.std.proofs.lemmas.Bool.{eqb-true}
use Rattle.std.proofs.lemmas.List.{drop-drop}
use Rattle.pm_recipe.specs.Tree.{Top, Trees, nil, cons, Tree, Recipe, Block}
use Rattle.pm_code.specs.Flat.{Flat, Does, Enters, Leaves, flats_of}
use Rattle.pm_code.specs.Ahead.{first, others, lists_of, ends_of, is_first, is_single, ends_right, nth}
use Rattle.pm_code.specs.Laws.{EndsThere}
use Rattle.pm_code.proofs.Reading.{ends_there}
use Rattle.pm_meaning.specs.Running.{Item, Do, ahead, locks_of, locks_in_file, behind_file}
use Rattle.pm_run.specs.Frames.{weave, end_of, block_locks, outer_items, outer_locks}
use Rattle.pm_run.specs.declared.frames.Open.{Open}
use Rattle.pm_run.specs.declared.frames.Waiting.{Waiting}

-- a statement in front
weave_put : (tree : Tree) (lists : List Trees) (blocks : List Open) (rest : List Item) → weave (cons tree (first lists) ∷ others lists) blocks rest ≡ Do tree ∷ weave lists blocks rest
weave_put tree lists [] rest = refl
weave_put tree lists (block ∷ blocks) rest = refl

-- a list that is missing is an empty one
weave_none : (blocks : List Open) (rest : List Item) → weave [] blocks rest ≡ weave (nil ∷ []) blocks rest
weave_none [] rest = refl
weave_none (block ∷ blocks) rest = refl

pub weave_does : (ahead : List Flat) (tree : Tree) (more : List Flat) (blocks : List Open) (rest : List Item) → ahead ≡ Does tree ∷ more → weave (lists_of ahead) blocks rest ≡ Do tree ∷ weave (lists_of more) blocks rest
weave_does ahead tree more blocks rest e = ap (λ d. weave (lists_of d) blocks rest) e ∙ weave_put tree (lists_of more) blocks rest

pub weave_enters : (ahead : List Flat) (top : Top) (end : ℕ) (more : List Flat) (blocks : List Open) (rest : List Item) → ahead ≡ Enters top end ∷ more
    → weave (lists_of ahead) blocks rest ≡ Do (Recipe top (Block (first (lists_of more)))) ∷ weave (others (lists_of more)) blocks rest
weave_enters ahead top end more blocks rest e = ap (λ d. weave (lists_of d) blocks rest) e ∙ weave_put (Recipe top (Block (first (lists_of more)))) (others (lists_of more)) blocks rest

-- a block that ends with the code
pub weave_stops : (ahead : List Flat) (block : Open) (blocks : List Open) (rest : List Item) → ahead ≡ [] → weave (lists_of ahead) (block ∷ blocks) rest ≡ end_of block ∷ weave (lists_of ahead) blocks rest
weave_stops ahead block blocks rest e =
    ap (λ d. weave (lists_of d) (block ∷ blocks) rest) e ∙ ap (λ l. end_of block ∷ l) (weave_none blocks rest) ∙ ap (λ d. end_of block ∷ weave (lists_of d) blocks rest) (sym e)

-- without a block the rcfile ends there
pub weave_over : (ahead : List Flat) (rest : List Item) → ahead ≡ [] → weave (lists_of ahead) [] rest ≡ rest
weave_over ahead rest e = ap (λ d. weave (lists_of d) [] rest) e

locks_ahead : (trees : Trees) (rest : List Item) → locks_of (ahead trees rest) ≡ locks_of rest
locks_ahead nil rest = refl
locks_ahead (cons tree trees) rest = locks_ahead trees rest

-- what is left has the locks of the open blocks, and then those of the rest
locks_woven : (lists : List Trees) (blocks : List Open) (rest : List Item) → locks_of (weave lists blocks rest) ≡ block_locks blocks ++ locks_of rest
locks_woven lists [] rest = locks_ahead (first lists) rest
locks_woven lists (block ∷ blocks) rest = locks_ahead (first lists) (end_of block ∷ weave (others lists) blocks rest) ∙ ap (λ l. block.lock ∷ l) (locks_woven (others lists) blocks rest)

pub locks_outside : (ws : List Waiting) → locks_of (outer_items ws) ≡ outer_locks ws
locks_outside [] = refl
locks_outside (w ∷ ws) = locks_woven (lists_of (drop w.place (flats_of w.code.steps.items))) w.blocks.items (outer_items ws) ∙ ap (λ l. block_locks w.blocks.items ++ l) (locks_outside ws)

pub locks_all : (lists : List Trees) (blocks : List Open) (ws : List Waiting) → locks_of (weave lists blocks (outer_items ws)) ≡ block_locks blocks ++ outer_locks ws
locks_all lists blocks ws = locks_woven lists blocks (outer_items ws) ∙ ap (λ l. block_locks blocks ++ l) (locks_outside ws)

-- the current rcfile has the locks of its own blocks
in_file_ahead : (trees : Trees) (rest : List Item) → locks_in_file (ahead trees rest) ≡ locks_in_file rest
in_file_ahead nil rest = refl
in_file_ahead (cons tree trees) rest = in_file_ahead trees rest

in_file_outside : (ws : List Waiting) → locks_in_file (outer_items ws) ≡ []
in_file_outside [] = refl
in_file_outside (w ∷ ws) = refl

pub in_file_woven : (lists : List Trees) (blocks : List Open) (ws : List Waiting) → locks_in_file (weave lists blocks (outer_items ws)) ≡ block_locks blocks
in_file_woven lists [] ws = in_file_ahead (first lists) (outer_items ws) ∙ in_file_outside ws
in_file_woven lists (block ∷ blocks) ws = in_file_ahead (first lists) (end_of block ∷ weave (others lists) blocks (outer_items ws)) ∙ ap (λ l. block.lock ∷ l) (in_file_woven (others lists) blocks ws)

-- after it are those that wait
after_ahead : (trees : Trees) (rest : List Item) → behind_file (ahead trees rest) ≡ behind_file rest
after_ahead nil rest = refl
after_ahead (cons tree trees) rest = after_ahead trees rest

after_outside : (ws : List Waiting) → behind_file (outer_items ws) ≡ outer_items ws
after_outside [] = refl
after_outside (w ∷ ws) = refl

pub after_woven : (lists : List Trees) (blocks : List Open) (ws : List Waiting) → behind_file (weave lists blocks (outer_items ws)) ≡ outer_items ws
after_woven lists [] ws = after_ahead (first lists) (outer_items ws) ∙ after_outside ws
after_woven lists (block ∷ blocks) ws = after_ahead (first lists) (end_of block ∷ weave (others lists) blocks (outer_items ws)) ∙ after_woven (others lists) blocks ws

at_here : (n : ℕ) → n + 0 ≡ n
at_here n = omega arith

at_next : (n i : ℕ) → suc n + i ≡ n + suc i
at_next n i = omega arith

both_right : (a b : Bool) → a && b ≡ true → b ≡ true
both_right true b h = h
both_right false b h = let e : false ≡ true = h in absurd (cc)

both_first : (a b : Bool) → a && b ≡ true → a ≡ true
both_first true b h = refl
both_first false b h = let e : false ≡ true = h in absurd (cc)

-- after some steps the ends are right too
right_after : (at : ℕ) (steps : List Flat) (i : ℕ) → ends_right at steps ≡ true → ends_right (at + i) (drop i steps) ≡ true
right_after at steps zero h = subst (λ n. ends_right n steps ≡ true) (sym (at_here at)) h
right_after at [] (suc i) h = refl
right_after at (Does tree ∷ steps) (suc i) h = subst (λ n. ends_right n (drop i steps) ≡ true) (at_next at i) (right_after (suc at) steps i (both_right (is_single tree) (ends_right (suc at) steps) h))
right_after at (Enters top end ∷ steps) (suc i) h = subst (λ n. ends_right n (drop i steps) ≡ true) (at_next at i) (right_after (suc at) steps i (both_right (is_first end (ends_of (suc at) steps)) (ends_right (suc at) steps) h))
right_after at (Leaves enter ∷ steps) (suc i) h = subst (λ n. ends_right n (drop i steps) ≡ true) (at_next at i) (right_after (suc at) steps i h)

first_nth : (end : ℕ) (es : List ℕ) → is_first end es ≡ true → nth 0 es ≡ Some end
first_nth end [] h = absurd (cc)
first_nth end (e ∷ es) h = ap Some (eqb-true e end h)

-- a statement of the code has no block
pub single_here : (steps : List Flat) (place : ℕ) (tree : Tree) (more : List Flat) → ends_right 0 steps ≡ true → drop place steps ≡ Does tree ∷ more → is_single tree ≡ true
single_here steps place tree more right e = both_first (is_single tree) (ends_right (suc (0 + place)) more) (subst (λ l. ends_right (0 + place) l ≡ true) e (right_after 0 steps place right))

-- a block that isn't entered: its end is further on, and after it stands what is after the block
pub record Jumps (steps : List Flat) (place end : ℕ) (more : List Flat) : Type 0 where
  pub further : place < end
  pub within : end < length steps
  pub behind : lists_of (drop (end + 1) steps) ≡ others (lists_of more)

pub jumps : (steps : List Flat) (place : ℕ) (top : Top) (end : ℕ) (more : List Flat) → ends_right 0 steps ≡ true → drop place steps ≡ Enters top end ∷ more → Jumps steps place end more
jumps steps place top end more right e =
    let here = subst (λ l. ends_right (0 + place) l ≡ true) e (right_after 0 steps place right) in
    let t : EndsThere (suc (0 + place)) 0 end more = ends_there 0 (suc (0 + place)) end more (first_nth end (ends_of (suc (0 + place)) more) (both_first (is_first end (ends_of (suc (0 + place)) more)) (ends_right (suc (0 + place)) more) here)) in
    let size : length (drop place steps) ≡ suc (length more) = ap length e in
    let far : end + 1 ≡ place + suc (suc t.far) = omega (arith, t.place) in
    let there : drop (end + 1) steps ≡ drop (suc t.far) more = ap (λ n. drop n steps) far ∙ sym (drop-drop (suc (suc t.far)) place steps) ∙ ap (drop (suc (suc t.far))) e in
    record {
      further = omega (arith, t.place);
      within = omega (arith, t.place, t.within, size, length-drop place steps);
      behind = ap lists_of there ∙ t.behind;
    }
