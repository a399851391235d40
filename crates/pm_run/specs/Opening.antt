-- What the opening of the command line's rcfiles does.
use Rattle.std.specs.Prelude.{◌≡◌, ◌<◌, ◌≤◌, ℕ, Bool, true, false, Option, Some, None, List, [], ◌∷◌}
use Rattle.core.specs.declared.ops.ControlFlow.{ControlFlow}
use Rattle.core.specs.declared.ops.ControlFlow.TheVariants.{Continue, Break}
use Rattle.pm_code.specs.declared.code.Code.{Code}
use Rattle.pm_recipe.specs.Tree.{Trees}
use Rattle.pm_journal.specs.JournalState.{JournalState}
use Rattle.pm_journal.specs.Entries.{View}
use Rattle.pm_journal.specs.Executed.{Executes}
use Rattle.pm_journal.specs.Plan.{and_then, ask}
use Rattle.pm_journal.specs.declared.acts.Act.TheVariants.{ReadFile}
use Rattle.pm_journal.specs.Walking.{Next, Go, Reaches}
use Rattle.pm_meaning.specs.Blocks.{begun_block}
use Rattle.pm_meaning.specs.Changes.{opened}
use Rattle.pm_meaning.specs.Minds.{Mind}
use Rattle.pm_meaning.specs.declared.process.End.{End}
use Rattle.pm_meaning.specs.Running.{State, Event, Running, Over, Opening, OpeningRule, ahead, entered, with_later, open_next, after_read, pass_over, step}
use Rattle.pm_run.specs.Ends.{IsCode}

-- an rcfile was read, and this is its code
pub record OpensCode (s : State) (code : Code) (q : Mind) (x y : JournalState) (a b : View) : Type 0 where
  pub trees : Trees
  pub is_code : IsCode code trees
  pub reaches : Reaches {X = Event} step s (Running (ahead trees []) q) x y a b

-- an rcfile of the command line was read; or the process falls off its end without one, or is over
abbrev pub OpensFrom : State → ControlFlow End (Option Code) → Mind → JournalState → JournalState → View → View → Type 0
OpensFrom s (Continue (Some code)) q x y a b = OpensCode s code q x y a b
OpensFrom s (Continue None) q x y a b = Reaches {X = Event} step s (Running [] q) x y a b
OpensFrom s (Break end) q x y a b = Reaches {X = Event} step s (Over end q) x y a b

-- an rcfile was read
abbrev pub is_read : ControlFlow End (Option Code) → Bool
is_read (Continue (Some code)) = true
is_read other = false

-- what the opening of the first of these rcfiles does, whatever stands after it
abbrev pub OpensTo : OpeningRule → List ℕ → Mind → (List (List ℕ) → State) → JournalState → JournalState → View → View → Type 0
OpensTo rule name p to x y a b = (names : List (List ℕ)) → Executes {R = Next State Event} (open_next rule (name ∷ names) p) (Go (to names)) x y a b

-- an rcfile was read that is one of 256, and this is its code
pub record ReadsContent (rule : OpeningRule) (name : List ℕ) (code : Code) (p q : Mind) (x y : JournalState) (a b : View) : Type 0 where
  pub few : p.openings < 256
  pub mind : q ≡ entered rule name (opened p)
  pub trees : Trees
  pub is_code : IsCode code trees
  pub opens : OpensTo rule name p (λ names. Running (ahead trees []) (begun_block (entered rule name (with_later names (opened p))))) x y a b

-- it was passed over
pub record PassesOn (rule : OpeningRule) (name : List ℕ) (p q : Mind) (x y : JournalState) (a b : View) : Type 0 where
  pub counted : p.openings ≤ q.openings
  pub opens : OpensTo rule name p (λ names. Opening rule names q) x y a b

-- what came of one rcfile
abbrev pub OpensOne : OpeningRule → List ℕ → ControlFlow End (Option Code) → Mind → Mind → JournalState → JournalState → View → View → Type 0
OpensOne rule name (Continue (Some code)) p q x y a b = ReadsContent rule name code p q x y a b
OpensOne rule name (Continue None) p q x y a b = PassesOn rule name p q x y a b
OpensOne rule name (Break end) p q x y a b = OpensTo rule name p (λ names. Over end q) x y a b

-- what its reading does, once its opening was counted
abbrev pub ReadsTo : OpeningRule → List ℕ → Mind → (List (List ℕ) → State) → JournalState → JournalState → View → View → Type 0
ReadsTo rule name p to x y a b =
    (names : List (List ℕ)) → Executes {R = Next State Event} (and_then (ask (ReadFile name)) (after_read rule name names p)) (Go (to names)) x y a b

-- the rcfile was read, and this is its code
pub record ReadsCode (rule : OpeningRule) (name : List ℕ) (code : Code) (p q : Mind) (x y : JournalState) (a b : View) : Type 0 where
  pub mind : q ≡ entered rule name p
  pub trees : Trees
  pub is_code : IsCode code trees
  pub reads : ReadsTo rule name p (λ names. Running (ahead trees []) (begun_block (entered rule name (with_later names p)))) x y a b

-- what came of the reading of one rcfile
abbrev pub ReadsOne : OpeningRule → List ℕ → ControlFlow End (Option Code) → Mind → Mind → JournalState → JournalState → View → View → Type 0
ReadsOne rule name (Continue (Some code)) p q x y a b = ReadsCode rule name code p q x y a b
ReadsOne rule name (Continue None) p q x y a b = (q ≡ p) × ReadsTo rule name p (λ names. Opening rule names p) x y a b
ReadsOne rule name (Break end) p q x y a b = (q ≡ p) × ReadsTo rule name p (λ names. Over end p) x y a b

-- what comes of one that wasn't read
abbrev pub PassesTo : OpeningRule → List ℕ → Bool → Mind → (List (List ℕ) → State) → JournalState → JournalState → View → View → Type 0
PassesTo rule name missing p to x y a b = (names : List (List ℕ)) → Executes {R = Next State Event} (pass_over rule name names missing p) (Go (to names)) x y a b

-- the same, by how its try ended
abbrev pub PassesOver : OpeningRule → List ℕ → Bool → ControlFlow End (Option Code) → Mind → JournalState → JournalState → View → View → Type 0
PassesOver rule name missing (Continue (Some code)) p x y a b = ⊥
PassesOver rule name missing (Continue None) p x y a b = PassesTo rule name missing p (λ names. Opening rule names p) x y a b
PassesOver rule name missing (Break end) p x y a b = PassesTo rule name missing p (λ names. Over end p) x y a b
