-- What the opening of another rcfile does.
use Rattle.std.specs.Prelude.{◌≡◌, ◌<◌, ◌≤◌, ◌+◌, ℕ, List, [], ◌∷◌, Option, Some, None}
use Rattle.pm_code.specs.Flat.{flats_of, written}
use Rattle.pm_code.specs.declared.code.Code.{Code}
use Rattle.pm_journal.specs.JournalState.{JournalState}
use Rattle.pm_journal.specs.Entries.{View}
use Rattle.pm_journal.specs.Executed.{Executes}
use Rattle.pm_journal.specs.Plan.{and_then, ask}
use Rattle.pm_journal.specs.Walking.{Go}
use Rattle.pm_journal.specs.declared.acts.Act.TheVariants.{ReadFile}
use Rattle.pm_recipe.specs.Tree.{Trees}
use Rattle.pm_meaning.specs.Changes.{with_rcfile}
use Rattle.pm_meaning.specs.Minds.{Mind}
use Rattle.pm_meaning.specs.Running.{Item, Running, Reading, open_rcfile, with_statements}
use Rattle.pm_run.specs.declared.frames.Frames.{Frames}
use Rattle.pm_run.specs.declared.frames.Waiting.{Waiting}

-- the current rcfile waits under its name
abbrev pub waiting : List ℕ → Frames → Waiting
waiting name f = record { name = name; code = f.code; place = f.place; blocks = f.blocks }

-- the rcfile of this code begins, and the current one waits
pub record GoesInto (name : List ℕ) (code : Code) (f g : Frames) (p q : Mind) : Type 0 where
  pub mind : q ≡ with_rcfile name p
  pub code_is : g.code ≡ code
  pub place : g.place ≡ 0
  pub blocks : g.blocks.items ≡ []
  pub outer : g.outer.items ≡ waiting p.rcfile f ∷ f.outer.items

-- the rcfile of this code stands in the place of the current one
pub record TakesPlace (code : Code) (f g : Frames) : Type 0 where
  pub code_is : g.code ≡ code
  pub place : g.place ≡ 0
  pub blocks : g.blocks.items ≡ []
  pub outer : g.outer ≡ f.outer

-- it is code of these statements
abbrev pub HasCode : Option Code → Trees → Type 0
HasCode None trees = ⊥
HasCode (Some code) trees = flats_of code.steps.items ≡ written 0 trees

-- the code has the statements that were read
pub record ReadsSome (name : List ℕ) (code : Code) (p : Mind) (x y : JournalState) (a b : View) : Type 0 where
  pub trees : Trees
  pub has_code : flats_of code.steps.items ≡ written 0 trees
  pub reads : (rest : List Item) (go : Reading) → Executes (and_then (ask (ReadFile name)) (with_statements name rest p go)) (go trees p) x y a b

-- an rcfile was read, or that it wasn't was told
abbrev pub ReadsCode : List ℕ → Option Code → Mind → JournalState → JournalState → View → View → Type 0
ReadsCode name None p x y a b =
    (rest : List Item) (go : Reading) → Executes (and_then (ask (ReadFile name)) (with_statements name rest p go)) (Go (Running rest p)) x y a b
ReadsCode name (Some code) p x y a b = ReadsSome name code p x y a b

-- an rcfile was opened that is one of 256
pub record OpensSome (name : List ℕ) (code : Code) (p q : Mind) (x y : JournalState) (a b : View) : Type 0 where
  pub few : p.openings < 256
  pub counted : q.openings ≡ p.openings + 1
  pub rcfile : q.rcfile ≡ p.rcfile
  pub trees : Trees
  pub has_code : flats_of code.steps.items ≡ written 0 trees
  pub opens : (rest : List Item) (go : Reading) → Executes (open_rcfile name rest p go) (go trees q) x y a b

-- no rcfile was opened, and that was told
pub record OpensNone (name : List ℕ) (p q : Mind) (x y : JournalState) (a b : View) : Type 0 where
  pub counted : p.openings ≤ q.openings
  pub opens : (rest : List Item) (go : Reading) → Executes (open_rcfile name rest p go) (Go (Running rest q)) x y a b

-- the one or the other
abbrev pub Opens : List ℕ → Option Code → Mind → Mind → JournalState → JournalState → View → View → Type 0
Opens name None p q x y a b = OpensNone name p q x y a b
Opens name (Some code) p q x y a b = OpensSome name code p q x y a b
