-- One item of an rcfile.
use Rattle.std.proofs.Common.{◌≡◌, ◌<◌, ◌≤◌, ◌+◌, ◌-◌, ◌*◌, ◌∙◌, ℕ, List, [], ◌∷◌, true, false, Option, ControlFlow, Continue, Break, length, drop, get_or, refl, sym, ap, subst, arith}
use Rattle.std.proofs.lemmas.List.{drop_more, length-map, get_or-map}
use Rattle.pm_recipe.specs.Tree.{Top, Trees, Tree, Assign, Unset, Recipe, Defect, Act, Mailbox, Pipe, Capture, Forward, WriteOut, Block}
use Rattle.pm_recipe.specs.View.{act_of, top_of}
use Rattle.pm_recipe.specs.declared.tree.Recipe.{Recipe as CodeRecipe}
use Rattle.pm_code.specs.Flat.{Flat, Does, Enters, flat_of, flats_of, written}
use Rattle.pm_code.specs.Ahead.{first, others, lists_of, is_single, has_no_block}
use Rattle.pm_code.proofs.Reading.{lists-whole}
use Rattle.pm_code.specs.declared.steps.Step.{Step}
use Rattle.pm_code.specs.declared.steps.Step.TheVariants as step_is
use Rattle.pm_journal.specs.JournalState.{JournalState}
use Rattle.pm_journal.specs.Entries.{View}
use Rattle.pm_journal.specs.Plan.{Plan, Ends, and_then}
use Rattle.pm_journal.specs.Executed.{Executes, OutOfMemory}
use Rattle.pm_journal.specs.Walking.{Next, Go, Reaches}
use Rattle.pm_journal.specs.declared.acts.Entry.{Entry}
use Rattle.pm_journal.proofs.ActPlans.{executes_then}
use Rattle.pm_journal.proofs.WalkJoin.{reaches_itself, reaches_once}
use Rattle.pm_journal.proofs.WantsMemory.{executes_nothing, out_front, out_anywhere}
use Rattle.pm_meaning.specs.Blocks.{enter_block, closed, give_maybe}
use Rattle.pm_meaning.specs.Judging.{judge_first}
use Rattle.pm_meaning.specs.Minds.{Mind}
use Rattle.pm_meaning.specs.Changes.{with_rcfile, with_openings}
use Rattle.pm_meaning.specs.Turns.{Turn, GoesOn}
use Rattle.pm_meaning.specs.Turning.{turn_of}
use Rattle.pm_meaning.specs.Running.{State, Running, LeavingFile, Cloning, Leaving, Item, Do, FileEnd, statement, next_of, ahead, behind_file, step, Event}
use Rattle.pm_meaning.specs.declared.process.End.{End}
use Rattle.pm_run.specs.Ends.{stands_at}
use Rattle.pm_run.specs.Frames.{weave, steps_of, items_of, outer_items, end_of, block_locks, left_outside, left_in, left_over}
use Rattle.pm_run.specs.RunningOut.{LeavesUndelivered, MayRunOut, RunsOut, OfNew}
use Rattle.pm_run.proofs.MayLemmas.{may_at_once, same_tree, recipe_statement}
use Rattle.pm_run.proofs.RunOutLemmas.{ran_out_at_once}
use Rattle.pm_run.specs.Turned.{turn_in}
use Rattle.pm_run.specs.Walk.{single, plan_of, gate_turn, after_statement, after_gate, after_item, IsStepAt, EndsAt, ComesBack, Falls, StatementMay}
use Rattle.pm_run.specs.declared.frames.Open.{Open}
use Rattle.pm_run.specs.declared.frames.Frames.{Frames}
use Rattle.pm_run.specs.declared.frames.Waiting.{Waiting}
use Rattle.pm_run.specs.declared.gates.Gate.{Gate}
use Rattle.pm_run.specs.declared.gates.Gate.TheVariants as gate
use Rattle.pm_run.specs.declared.turned.Turned.{Turned}
use Rattle.pm_run.specs.declared.turned.Turned.TheVariants as turned
use Rattle.pm_run.proofs.FrameLemmas.{weave_does, weave_enters, weave_stops, weave_over, locks_all, in_file_woven, after_woven, Jumps, jumps, single_here}

abbrev Onward : Type 0
Onward = Next State Event

-- the step that stands at a place
step_here : (items : List Step) (i : ℕ) (s : Step) → i < length items → s ≡ get_or items i s → drop i (flats_of items) ≡ flat_of s ∷ drop (i + 1) (flats_of items)
step_here items i s h e =
    let fits : i < length (flats_of items) = subst (λ n. i < n) (sym (length-map items flat_of)) h in
    drop_more (flats_of items) i (flat_of s) fits ∙ ap (λ q. q ∷ drop (i + 1) (flats_of items)) (get_or-map flat_of items i s (flat_of s) h ∙ ap flat_of (sym e))

pub is_step_at : (items : List Step) (i : ℕ) (s : Step) → i < length items → s ≡ get_or items i s → IsStepAt s (flats_of items) i
is_step_at items i s h e = record { fits = subst (λ n. i < n) (sym (length-map items flat_of)) h; ahead = step_here items i s h e }

pub step_in : (s : Step) (items more : List Step) (place : ℕ) → IsStepAt s (flats_of more) place → more ≡ items → IsStepAt s (flats_of items) place
step_in s items more place h e = subst (λ l. IsStepAt s (flats_of l) place) e h

pub none_in : (items more : List Step) (place : ℕ) → drop place (flats_of more) ≡ [] → more ≡ items → drop place (flats_of items) ≡ []
none_in items more place h e = subst (λ l. drop place (flats_of l) ≡ []) e h

-- the step at a place, by what it is
pub step_by : (s shown : Step) (steps : List Flat) (place : ℕ) → IsStepAt s steps place → s ≡ shown → drop place steps ≡ flat_of shown ∷ drop (place + 1) steps
step_by s shown steps place h e = h.ahead ∙ ap (λ q. flat_of q ∷ drop (place + 1) steps) e

pub enter_at : (f : Frames) (s : Step) (recipe : CodeRecipe) (end : ℕ) → IsStepAt s (steps_of f) f.place → s ≡ step_is.Enter recipe end → drop f.place (steps_of f) ≡ Enters (top_of recipe) end ∷ drop (f.place + 1) (steps_of f)
enter_at f s recipe end at e = step_by s (step_is.Enter recipe end) (steps_of f) f.place at e

pub jump_at : (f : Frames) (top : Top) (end : ℕ) → drop f.place (steps_of f) ≡ Enters top end ∷ drop (f.place + 1) (steps_of f) → Jumps (steps_of f) f.place end (drop (f.place + 1) (steps_of f))
jump_at f top end e = jumps (steps_of f) f.place top end (drop (f.place + 1) (steps_of f)) f.code.ends e

pub jump_fits : (f : Frames) (end : ℕ) (more : List Flat) → Jumps (steps_of f) f.place end more → end < length f.code.steps.items
jump_fits f end more j = subst (λ n. end < n) (length-map f.code.steps.items flat_of) j.within

-- a statement that has no block
single_act : (top : Top) (act : Act) (p : Mind) → has_no_block act ≡ true → single (Recipe top act) p ≡ statement (Recipe top act) p
single_act top (Mailbox text) p h = refl
single_act top (Pipe line) p h = refl
single_act top (Capture name line) p h = refl
single_act top (Forward text) p h = refl
single_act top WriteOut p h = refl
single_act top (Block trees) p h = let e : false ≡ true = h in absurd (cc)

single_is : (tree : Tree) (p : Mind) → is_single tree ≡ true → single tree p ≡ statement tree p
single_is (Assign name value) p h = refl
single_is (Unset name) p h = refl
single_is (Defect line text) p h = refl
single_is (Recipe top act) p h = single_act top act p h

-- what comes of a statement, in an rcfile
next_by : (tree : Tree) (count : ℕ) (g : Frames) (t : Turned) (q : Mind) → next_of tree count (items_of g) (turn_in t q) ≡ Go (after_statement t g (with_openings count q))
next_by tree count g turned.Goes q = refl
next_by tree count g (turned.Halts end) q = ap (λ l. Go (Leaving l end (with_openings count q))) (locks_all (lists_of (drop g.place (steps_of g))) g.blocks.items g.outer.items)
next_by tree count g (turned.Includes name) q = refl
next_by tree count g (turned.Switches name) q = refl
next_by tree count g turned.EndsFile q =
    ap (λ l. Go (LeavingFile l (behind_file (items_of g)) (with_openings count q))) (in_file_woven (lists_of (drop g.place (steps_of g))) g.blocks.items g.outer.items)
    ∙ ap (λ items. Go (LeavingFile (block_locks g.blocks.items) items (with_openings count q))) (after_woven (lists_of (drop g.place (steps_of g))) g.blocks.items g.outer.items)

-- a step that neither enters nor leaves a block is a statement
pub record DoesOne (s : Step) : Type 0 where
  pub tree : Tree
  pub is : flat_of s ≡ Does tree

pub does_one : (s : Step) → ((recipe : CodeRecipe) (end : ℕ) → s ≡ step_is.Enter recipe end → ⊥) → ((enter : ℕ) → s ≡ step_is.Leave enter → ⊥) → DoesOne s
does_one (step_is.Assign name value) e l = record { tree = Assign name value; is = refl }
does_one (step_is.Unset name) e l = record { tree = Unset name; is = refl }
does_one (step_is.Defect line text) e l = record { tree = Defect line text; is = refl }
does_one (step_is.Plain recipe) e l = record { tree = Recipe (top_of recipe) (act_of recipe.action); is = refl }
does_one (step_is.Enter recipe end) e l = absurd (e recipe end refl)
does_one (step_is.Leave enter) e l = absurd (l enter refl)

-- what the step of the machine is at a statement
statement_step : (f : Frames) (tree : Tree) (p : Mind) → drop f.place (steps_of f) ≡ Does tree ∷ drop (f.place + 1) (steps_of f)
    → step (Running (items_of f) p) ≡ and_then (statement tree p) (λ turn. Ends (next_of tree p.openings (items_of (record f { place = f.place + 1 })) turn))
statement_step f tree p e = ap (λ items. step (Running items p)) (weave_does (drop f.place (steps_of f)) tree (drop (f.place + 1) (steps_of f)) f.blocks.items (outer_items f.outer.items) e)

-- the statement at a step, by what it does
module _ (f : Frames) (s : Step) (p : Mind) (at : IsStepAt s (steps_of f) f.place) (d : DoesOne s) where
  ahead_of : drop f.place (steps_of f) ≡ Does d.tree ∷ drop (f.place + 1) (steps_of f)
  ahead_of = at.ahead ∙ ap (λ q. q ∷ drop (f.place + 1) (steps_of f)) d.is

  plan_is : plan_of (flat_of s) p ≡ statement d.tree p
  plan_is = ap (λ q. plan_of q p) d.is ∙ single_is d.tree p (single_here (steps_of f) f.place d.tree (drop (f.place + 1) (steps_of f)) f.code.ends ahead_of)

  pub one_reaches : (t : Turned) (q : Mind) (x y : JournalState) (a b : View) → Executes (plan_of (flat_of s) p) (turn_in t q) x y a b
      → Reaches {X = Event} step (Running (items_of f) p) (after_statement t (record f { place = f.place + 1 }) (with_openings p.openings q)) x y a b
  one_reaches t q x y a b h =
      let g = record f { place = f.place + 1 } in
      let r = with_openings p.openings q in
      let go : Turn → Plan Onward = λ turn. Ends (next_of d.tree p.openings (items_of g) turn) in
      let next : Onward = Go (after_statement t g r) in
      let last : Executes (go (turn_in t q)) next y y b b = subst (λ n. Executes (Ends n) next y y b b) (sym (next_by d.tree p.openings g t q)) (executes_nothing next y y b refl) in
      reaches_once step (Running (items_of f) p) (after_statement t g r) x y a b
      (subst (λ plan. Executes plan next x y a b) (sym (statement_step f d.tree p ahead_of))
      (executes_then (statement d.tree p) go (turn_in t q) next x y y a b b (subst (λ plan. Executes plan (turn_in t q) x y a b) plan_is h) last))

  pub one_wants : (x y : JournalState) (a b : View) → OutOfMemory (plan_of (flat_of s) p) x y a b → OfNew (StatementMay (flat_of s) p) x y → RunsOut {X = Event} step MayRunOut (Running (items_of f) p) x y a b
  one_wants x y a b h may =
      let left = items_of (record f { place = f.place + 1 }) in
      let items : items_of f ≡ Do d.tree ∷ left = weave_does (drop f.place (steps_of f)) d.tree (drop (f.place + 1) (steps_of f)) f.blocks.items (outer_items f.outer.items) ahead_of in
      let go : Turn → Plan Onward = λ turn. Ends (next_of d.tree p.openings (items_of (record f { place = f.place + 1 })) turn) in
      ran_out_at_once step MayRunOut (Running (items_of f) p) x y a b
      (subst (λ plan. OutOfMemory plan x y a b) (sym (statement_step f d.tree p ahead_of))
      (out_front (statement d.tree p) go x y a b (subst (λ plan. OutOfMemory plan x y a b) plan_is h)))
      (λ more e. subst (λ i. MayRunOut (Running i p) more) (sym items) (may more e d.tree left d.is))

-- a recipe with a block
module _ (f : Frames) (top : Top) (end : ℕ) (p : Mind) (e : drop f.place (steps_of f) ≡ Enters top end ∷ drop (f.place + 1) (steps_of f)) where
  abbrev more : List Flat
  more = drop (f.place + 1) (steps_of f)

  abbrev behind : List Item
  behind = weave (others (lists_of more)) f.blocks.items (outer_items f.outer.items)

  abbrev onto : Turn → Plan Onward
  onto turn = Ends (next_of (Recipe top (Block (first (lists_of more)))) p.openings behind turn)

  abbrev gate_plan : Plan Turn
  gate_plan = judge_first top (λ q. enter_block top q) p

  gate_items : items_of f ≡ Do (Recipe top (Block (first (lists_of more)))) ∷ behind
  gate_items = weave_enters (drop f.place (steps_of f)) top end more f.blocks.items (outer_items f.outer.items) e

  gate_step : step (Running (items_of f) p) ≡ and_then gate_plan onto
  gate_step = ap (λ items. step (Running items p)) gate_items

  -- a recipe with a block delivers nothing
  gate_may : (more : List Entry) → MayRunOut (Running (items_of f) p) more
  gate_may more = subst (λ i. MayRunOut (Running i p) more) (sym gate_items) tt

  pub gate_wants : (x y : JournalState) (a b : View) → OutOfMemory gate_plan x y a b → RunsOut {X = Event} step MayRunOut (Running (items_of f) p) x y a b
  gate_wants x y a b h =
      ran_out_at_once step MayRunOut (Running (items_of f) p) x y a b (subst (λ plan. OutOfMemory plan x y a b) (sym gate_step) (out_front gate_plan onto x y a b h)) (λ more e. gate_may more)

  -- what comes after the gate
  next_is : (was : Gate) (q : Mind) → Jumps (steps_of f) f.place end more
      → next_of (Recipe top (Block (first (lists_of more)))) p.openings behind (gate_turn was q) ≡ Go (after_gate (end + 1) was f (with_openings p.openings q))
  next_is gate.Passes q j = ap (λ l. Go (Running (weave l f.blocks.items (outer_items f.outer.items)) (with_openings p.openings q))) (sym j.behind)
  next_is (gate.Halts over) q j = ap (λ l. Go (Leaving l over (with_openings p.openings q))) (locks_all (others (lists_of more)) f.blocks.items f.outer.items)
  next_is (gate.Enters lock) q j = refl
  next_is gate.Clones q j = ap (λ l. Go (Cloning (first (lists_of more)) (weave l f.blocks.items (outer_items f.outer.items)) (with_openings p.openings q))) (sym j.behind)

  pub gate_reaches : (was : Gate) (q : Mind) (x y : JournalState) (a b : View) → Jumps (steps_of f) f.place end more → Executes gate_plan (gate_turn was q) x y a b
      → Reaches {X = Event} step (Running (items_of f) p) (after_gate (end + 1) was f (with_openings p.openings q)) x y a b
  gate_reaches was q x y a b j k =
      let to = after_gate (end + 1) was f (with_openings p.openings q) in
      let next : Onward = Go to in
      reaches_once step (Running (items_of f) p) to x y a b
      (subst (λ plan. Executes plan next x y a b) (sym gate_step)
      (executes_then gate_plan onto (gate_turn was q) next x y y a b b k (subst (λ n. Executes (Ends n) next y y b b) (sym (next_is was q j)) (executes_nothing next y y b refl))))

-- memory was wanting in an item before anything was done
pub item_wants : (items : List Item) (p : Mind) (x : JournalState) (a : View) → RunsOut {X = Event} step MayRunOut (Running items p) x x a a
item_wants items p x a = ran_out_at_once step MayRunOut (Running items p) x x a a (out_anywhere (step (Running items p)) x x a refl) (may_at_once items p x)

-- less is left behind a block that is passed by, and in one that is entered
pub passed_falls : (f : Frames) (behind : ℕ) → f.place < behind → behind ≤ length f.code.steps.items → left_in (record f { place = behind }) < left_in f
passed_falls f behind further within = omega arith

pub entered_falls : (f g : Frames) (block : Open) → f.place < length f.code.steps.items → g.code ≡ f.code → g.place ≡ f.place + 1 → g.blocks.items ≡ block ∷ f.blocks.items → g.outer ≡ f.outer → left_in g < left_in f
entered_falls f g block fits code place blocks outer = omega (arith, fits, ap (λ c. length c.steps.items) code, place, ap length blocks, ap (λ o. left_outside o.items) outer)

-- what is left over falls as what is left in the rcfiles does
pub over_falls : (n m : ℕ) (f g : Frames) → m ≡ n → left_in g < left_in f → left_over m g < left_over n f
over_falls n m f g e h = subst (λ c. left_over c g < left_over n f) (sym e) (omega (arith, h))

-- and more than it was left before
pub falls_from : {C : Type 0} (flow : ControlFlow (Option End) C) (left middle before : ℕ) → Falls flow left middle → middle ≤ before → Falls flow left before
falls_from (Continue next) left middle before h more = omega (arith, h, more)
falls_from (Break ended) left middle before h more = tt

-- less is left after a statement
pub one_falls : (f : Frames) → f.place < length (steps_of f) → left_in (record f { place = f.place + 1 }) < left_in f
one_falls f h =
    let fits : f.place < length f.code.steps.items = subst (λ n. f.place < n) (length-map f.code.steps.items flat_of) h in
    omega (arith, fits)

-- a block that ends
module _ (f : Frames) (block : Open) (blocks : List Open) (next : ℕ) (p : Mind) (ends : EndsAt (steps_of f) f.place next) (e : f.blocks.items ≡ block ∷ blocks) where
  abbrev later : List Item
  later = weave (lists_of (drop next (steps_of f))) blocks (outer_items f.outer.items)

  abbrev close : Mind → Plan Onward
  close q = Ends (Go (Running later (closed block.saved q)))

  end_items : items_of f ≡ end_of block ∷ later
  end_items = ap (λ l. weave (lists_of (drop f.place (steps_of f))) l (outer_items f.outer.items)) e ∙ ends.block block blocks (outer_items f.outer.items)

  end_step : step (Running (items_of f) p) ≡ and_then (give_maybe block.lock p) close
  end_step = ap (λ items. step (Running items p)) end_items

  pub block_reaches : (g : Frames) (q r : Mind) (x y : JournalState) (a b : View) → g.code ≡ f.code → g.place ≡ next → g.blocks.items ≡ blocks → g.outer ≡ f.outer → r ≡ closed block.saved q
      → Executes (give_maybe block.lock p) q x y a b → Reaches {X = Event} step (Running (items_of f) p) (Running (items_of g) r) x y a b
  block_reaches g q r x y a b c k bs o re h =
      let to : Onward = Go (Running (items_of g) r) in
      let after : later ≡ items_of g =
      ap (λ l. weave (lists_of (drop next (steps_of f))) l (outer_items f.outer.items)) (sym bs)
      ∙ ap (λ n. weave (lists_of (drop n (steps_of f))) g.blocks.items (outer_items f.outer.items)) (sym k)
      ∙ ap (λ q. weave (lists_of (drop g.place (flats_of q.steps.items))) g.blocks.items (outer_items f.outer.items)) (sym c)
      ∙ ap (λ q. weave (lists_of (drop g.place (steps_of g))) g.blocks.items (outer_items q.items)) (sym o) in
      let same : Go (Running later (closed block.saved q)) ≡ to = ap (λ items. Go (Running items (closed block.saved q))) after ∙ ap (λ m. Go (Running (items_of g) m)) (sym re) in
      reaches_once step (Running (items_of f) p) (Running (items_of g) r) x y a b
      (subst (λ plan. Executes plan to x y a b) (sym end_step)
      (executes_then (give_maybe block.lock p) close q to x y y a b b h (subst (λ n. Executes (Ends n) to y y b b) (sym same) (executes_nothing to y y b refl))))

  pub block_wants : (x y : JournalState) (a b : View) → OutOfMemory (give_maybe block.lock p) x y a b → RunsOut {X = Event} step MayRunOut (Running (items_of f) p) x y a b
  block_wants x y a b h =
      ran_out_at_once step MayRunOut (Running (items_of f) p) x y a b (subst (λ plan. OutOfMemory plan x y a b) (sym end_step) (out_front (give_maybe block.lock p) close x y a b h))
      (λ more e. subst (λ i. MayRunOut (Running i p) more) (sym end_items) tt)

-- nothing is left of the rcfile but those that wait
over_items : (f : Frames) (next : ℕ) → EndsAt (steps_of f) f.place next → f.blocks.items ≡ [] → items_of f ≡ outer_items f.outer.items
over_items f next ends e = ap (λ l. weave (lists_of (drop f.place (steps_of f))) l (outer_items f.outer.items)) e ∙ ends.file (outer_items f.outer.items)

-- the one that waits first goes on
back_items : (w : Waiting) (g : Frames) → g.code ≡ w.code → g.place ≡ w.place → g.blocks ≡ w.blocks
    → weave (lists_of (drop w.place (flats_of w.code.steps.items))) w.blocks.items (outer_items g.outer.items) ≡ items_of g
back_items w g c k b =
    ap (λ q. weave (lists_of (drop w.place (flats_of q.steps.items))) w.blocks.items (outer_items g.outer.items)) (sym c)
    ∙ ap (λ n. weave (lists_of (drop n (steps_of g))) w.blocks.items (outer_items g.outer.items)) (sym k)
    ∙ ap (λ q. weave (lists_of (drop g.place (steps_of g))) q.items (outer_items g.outer.items)) (sym b)

pub back_reaches : {C : Type 0} (flow : ControlFlow (Option End) C) (f g : Frames) (next : ℕ) (p q : Mind) (x : JournalState) (a : View) → EndsAt (steps_of f) f.place next → f.blocks.items ≡ [] → ComesBack flow f g p q
    → Reaches {X = Event} step (Running (items_of f) p) (after_item flow (items_of g) q) x x a a
back_reaches (Break ended) f g next p q x a ends e h =
    let over : items_of f ≡ [] = over_items f next ends e ∙ ap outer_items h.1 in
    subst (λ o. Reaches {X = Event} step (Running (items_of f) p) (stands_at o q) x x a a) (sym h.0)
    (subst (λ m. Reaches {X = Event} step (Running (items_of f) p) (Running [] m) x x a a) (sym h.6)
    (subst (λ items. Reaches {X = Event} step (Running (items_of f) p) (Running items p) x x a a) over (reaches_itself step (Running (items_of f) p) x a)))
back_reaches (Continue went) f g next p q x a ends e h =
    let w = h.0 in
    let rest = weave (lists_of (drop w.place (flats_of w.code.steps.items))) w.blocks.items (outer_items g.outer.items) in
    let left : items_of f ≡ FileEnd w.name ∷ rest = over_items f next ends e ∙ ap outer_items h.1 in
    let to : Onward = Go (Running (items_of g) q) in
    let same : Go (Running rest (with_rcfile w.name p)) ≡ to = ap (λ items. Go (Running items (with_rcfile w.name p))) (back_items w g h.2 h.3 h.4) ∙ ap (λ m. Go (Running (items_of g) m)) (sym h.5) in
    reaches_once step (Running (items_of f) p) (Running (items_of g) q) x x a a
    (subst (λ items. Executes (step (Running items p)) to x x a a) (sym left) (subst (λ n. Executes (Ends n) to x x a a) (sym same) (executes_nothing to x x a refl)))

pub back_falls : {C : Type 0} (flow : ControlFlow (Option End) C) (n m : ℕ) (f g : Frames) (p q : Mind) → m ≡ n → f.blocks.items ≡ [] → ComesBack flow f g p q → Falls flow (left_over m g) (left_over n f)
back_falls (Break ended) n m f g p q k e h = tt
back_falls (Continue went) n m f g p q k e h =
    let w = h.0 in
    let outside : left_outside f.outer.items ≡ 1 + 2 * (length w.code.steps.items - w.place) + length w.blocks.items + left_outside g.outer.items = ap left_outside h.1 in
    over_falls n m f g k (omega (arith, outside, ap (λ q. length q.steps.items) h.2, h.3, ap (λ q. length q.items) h.4))

pub ends_stop : (steps : List Flat) (place : ℕ) → drop place steps ≡ [] → EndsAt steps place place
ends_stop steps place e = record {
  block = λ block blocks rest. weave_stops (drop place steps) block blocks rest e;
  file = λ rest. weave_over (drop place steps) rest e;
  later = omega arith;
}

-- of whole code all its statements are left
pub whole_items : (flats : List Flat) (trees : Trees) (blocks : List Open) (rest : List Item) → flats ≡ written 0 trees → blocks ≡ [] → weave (lists_of (drop 0 flats)) blocks rest ≡ ahead trees rest
whole_items flats trees blocks rest e none =
    ap (λ l. weave (lists_of (drop 0 flats)) l rest) none ∙ (ap (λ l. weave (lists_of l) [] rest) e ∙ ap (λ l. weave l [] rest) (lists-whole trees))

-- what a step is
pub by_step : (s shown : Step) (p : Mind) (turn : Turn) (x y : JournalState) (a b : View) → s ≡ shown → Executes (plan_of (flat_of shown) p) turn x y a b → Executes (plan_of (flat_of s) p) turn x y a b
by_step s shown p turn x y a b e h = subst (λ i. Executes (plan_of (flat_of i) p) turn x y a b) (sym e) h

pub by_step_out : (s shown : Step) (p : Mind) (x y : JournalState) (a b : View) → s ≡ shown → OutOfMemory (plan_of (flat_of shown) p) x y a b → OutOfMemory (plan_of (flat_of s) p) x y a b
by_step_out s shown p x y a b e h = subst (λ i. OutOfMemory (plan_of (flat_of i) p) x y a b) (sym e) h

pub no_statement : (s : Step) (shown : Flat) (p : Mind) (x : JournalState) (a : View) → flat_of s ≡ shown → plan_of shown p ≡ Ends (GoesOn p) → Executes (plan_of (flat_of s) p) (GoesOn p) x x a a
no_statement s shown p x a e is =
    subst (λ i. Executes (plan_of i p) (GoesOn p) x x a a) (sym e) (subst (λ plan. Executes plan (GoesOn p) x x a a) (sym is) (executes_nothing (GoesOn p) x x a refl))

-- a recipe was carried out
pub plain_done : (s shown : Step) (ended : Option End) (t : Turned) (p q : Mind) (x y : JournalState) (a b : View) → s ≡ shown → turn_in t q ≡ turn_of ended q → Executes (plan_of (flat_of shown) p) (turn_of ended q) x y a b
    → Executes (plan_of (flat_of s) p) (turn_in t q) x y a b
plain_done s shown ended t p q x y a b e is h = by_step s shown p (turn_in t q) x y a b e (subst (λ turn. Executes (plan_of (flat_of shown) p) turn x y a b) (sym is) h)

-- memory was wanting in a recipe without a block
pub recipe_may_out : (s : Step) (recipe : CodeRecipe) (p : Mind) (x y : JournalState) → s ≡ step_is.Plain recipe → OfNew (LeavesUndelivered (top_of recipe) p) x y → OfNew (StatementMay (flat_of s) p) x y
recipe_may_out s recipe p x y e h = λ more f.
    subst (λ i. StatementMay (flat_of i) p more) (sym e) (recipe_statement (top_of recipe) (act_of recipe.action) p x y h more f)

-- or in another statement
other_may_out : (s : Step) (tree : Tree) (p : Mind) (x y : JournalState) → flat_of s ≡ Does tree → ((rest : List Item) (more : List Entry) → MayRunOut (Running (Do tree ∷ rest) p) more) → OfNew (StatementMay (flat_of s) p) x y
other_may_out s tree p x y e h = λ more f. subst (λ flat. StatementMay flat p more) (sym e) (λ shown rest is. subst (λ t. MayRunOut (Running (Do t ∷ rest) p) more) (same_tree tree shown is) (h rest more))

pub assign_may_out : (s : Step) (name text : List ℕ) (p : Mind) (x y : JournalState) → s ≡ step_is.Assign name text → OfNew (StatementMay (flat_of s) p) x y
assign_may_out s name text p x y e = other_may_out s (Assign name text) p x y (ap flat_of e) (λ rest more. tt)

pub unset_may_out : (s : Step) (name : List ℕ) (p : Mind) (x y : JournalState) → s ≡ step_is.Unset name → OfNew (StatementMay (flat_of s) p) x y
unset_may_out s name p x y e = other_may_out s (Unset name) p x y (ap flat_of e) (λ rest more. tt)

pub defect_may_out : (s : Step) (line : ℕ) (text : List ℕ) (p : Mind) (x y : JournalState) → s ≡ step_is.Defect line text → OfNew (StatementMay (flat_of s) p) x y
defect_may_out s line text p x y e = other_may_out s (Defect line text) p x y (ap flat_of e) (λ rest more. tt)
