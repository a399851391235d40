-- What comes of one item of an rcfile.
use Rattle.std.specs.Prelude.{◌≡◌, ◌≤◌, ◌<◌, length, ℕ, ◌+◌, List, [], ◌∷◌, drop, Option, None}
use Rattle.core.specs.declared.ops.ControlFlow.{ControlFlow}
use Rattle.core.specs.declared.ops.ControlFlow.TheVariants.{Continue, Break}
use Rattle.pm_code.specs.Flat.{Flat, Does, flat_of}
use Rattle.pm_code.specs.Ahead.{lists_of}
use Rattle.pm_code.specs.declared.steps.Step.{Step}
use Rattle.pm_recipe.specs.Tree.{Tree, Recipe}
use Rattle.pm_journal.specs.Plan.{Plan, Ends}
use Rattle.pm_journal.specs.declared.acts.Entry.{Entry}
use Rattle.pm_meaning.specs.Blocks.{begun_block}
use Rattle.pm_meaning.specs.Acting.{acting}
use Rattle.pm_meaning.specs.Judging.{judge_first}
use Rattle.pm_meaning.specs.Minds.{Mind}
use Rattle.pm_meaning.specs.declared.chain.Chain.{Chain}
use Rattle.pm_meaning.specs.declared.process.End.{End}
use Rattle.pm_meaning.specs.Turns.{Turn, GoesOn, Halts, Enters, Clones}
use Rattle.pm_meaning.specs.Changes.{with_rcfile}
use Rattle.pm_meaning.specs.Running.{State, Item, Do, Running, Including, Switching, LeavingFile, Cloning, Leaving, statement}
use Rattle.pm_run.specs.Copies.{block_at}
use Rattle.pm_run.specs.Ends.{stands_at}
use Rattle.pm_run.specs.Frames.{items_of, outer_items, steps_of, weave, end_of, block_locks, all_locks}
use Rattle.pm_run.specs.RunningOut.{MayRunOut}
use Rattle.pm_run.specs.declared.frames.Open.{Open}
use Rattle.pm_run.specs.declared.frames.Frames.{Frames}
use Rattle.pm_run.specs.declared.frames.Waiting.{Waiting}
use Rattle.pm_run.specs.declared.gates.Gate.{Gate}
use Rattle.pm_run.specs.declared.gates.Gate.TheVariants as gate
use Rattle.pm_run.specs.declared.turned.Turned.{Turned}
use Rattle.pm_run.specs.declared.turned.Turned.TheVariants as turned

-- what a statement asks for whose recipe has no block
abbrev pub single : Tree → Mind → Plan Turn
single (Recipe top act) p = judge_first top (λ q. acting top act q) p
single tree p = statement tree p

-- what a step asks for that is such a statement
abbrev pub plan_of : Flat → Mind → Plan Turn
plan_of (Does tree) p = single tree p
plan_of other p = Ends (GoesOn p)

-- after these entries of such a statement memory may be wanting
abbrev pub StatementMay : Flat → Mind → List Entry → Type 0
StatementMay flat p entries = (tree : Tree) (rest : List Item) → flat ≡ Does tree → MayRunOut (Running (Do tree ∷ rest) p) entries

-- what comes of a recipe with a block
abbrev pub gate_turn : Gate → Mind → Turn
gate_turn gate.Passes p = GoesOn p
gate_turn (gate.Halts end) p = Halts end p
gate_turn (gate.Enters lock) p = Enters lock p
gate_turn gate.Clones p = Clones p

-- where the process stands after a statement
abbrev pub after_statement : Turned → Frames → Mind → State
after_statement turned.Goes f p = Running (items_of f) p
after_statement (turned.Halts end) f p = Leaving (all_locks f) end p
after_statement (turned.Includes name) f p = Including name (items_of f) p
after_statement (turned.Switches name) f p = Switching name (items_of f) p
after_statement turned.EndsFile f p = LeavingFile (block_locks f.blocks.items) (outer_items f.outer.items) p

-- what is left in the block that begins at the next place, entered under this lock by a process with this chain
abbrev pub items_inside : Option (List ℕ) → Chain → Frames → List Item
items_inside lock chain f = weave (lists_of (drop (f.place + 1) (steps_of f))) (record { enter = f.place; saved = chain; lock = lock } ∷ f.blocks.items) (outer_items f.outer.items)

-- where the process stands after a recipe with a block, where the block is over at this place
abbrev pub after_gate : ℕ → Gate → Frames → Mind → State
after_gate behind gate.Passes f p = Running (items_of (record f { place = behind })) p
after_gate behind (gate.Halts end) f p = Leaving (all_locks f) end p
after_gate behind (gate.Enters lock) f p = Running (items_inside lock p.chain f) (begun_block p)
after_gate behind gate.Clones f p = Cloning (block_at (f.place + 1) f) (items_of (record f { place = behind })) p

-- where the process stands after an item: these are left, or its statements have ended
abbrev pub after_item : {C : Type 0} → ControlFlow (Option End) C → List Item → Mind → State
after_item (Continue next) items p = Running items p
after_item (Break ended) items p = stands_at ended p

-- this step stands at the place
pub record IsStepAt (step : Step) (steps : List Flat) (place : ℕ) : Type 0 where
  pub fits : place < length steps
  pub ahead : drop place steps ≡ flat_of step ∷ drop (place + 1) steps

-- the innermost block ends here, and without one the rcfile does
pub record EndsAt (steps : List Flat) (place next : ℕ) : Type 0 where
  pub block : (open_block : Open) (blocks : List Open) (rest : List Item)
      → weave (lists_of (drop place steps)) (open_block ∷ blocks) rest ≡ end_of open_block ∷ weave (lists_of (drop next steps)) blocks rest
  pub file : (rest : List Item) → weave (lists_of (drop place steps)) [] rest ≡ rest
  pub later : place ≤ next

-- the rcfile that waits first goes on, under its name; or none waits
abbrev pub ComesBack : {C : Type 0} → ControlFlow (Option End) C → Frames → Frames → Mind → Mind → Type 0
ComesBack (Break ended) f g p q = (ended ≡ None) × (f.outer.items ≡ []) × (g.code ≡ f.code) × (g.place ≡ f.place) × (g.blocks ≡ f.blocks) × (g.outer.items ≡ []) × (q ≡ p)
ComesBack (Continue next) f g p q = (w : Waiting) × (f.outer.items ≡ w ∷ g.outer.items) × (g.code ≡ w.code) × (g.place ≡ w.place) × (g.blocks ≡ w.blocks) × (q ≡ with_rcfile w.name p)

-- less is left than before, if the process goes on
abbrev pub Falls : {C : Type 0} → ControlFlow (Option End) C → ℕ → ℕ → Type 0
Falls (Continue next) left before = left < before
Falls (Break ended) left before = Unit {0}
