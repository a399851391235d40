-- Laws of feeding texts to children.
use Rattle.std.specs.Prelude.{◌≡◌, ℕ, List, [], ◌∷◌}
use Rattle.pm_host.specs.Runs.{SomeFailed}
use Rattle.pm_host.specs.declared.command.Command.{Command}
use Rattle.pm_journal.specs.Children.{fed_bytes}
use Rattle.formail_split.specs.Feeding.{ChildRun, EachFed, calls_of, worst_of}
use Rattle.formail_split.specs.declared.feeding.Outcome.TheVariants.{Fine, Failed}

-- each child took just its text
abbrev pub TookAll : List (List ℕ) → List ChildRun → Type 0
TookAll [] runs = Unit {0}
TookAll (text ∷ texts) [] = ⊥
TookAll (text ∷ texts) (run ∷ runs) = (fed_bytes run.calls ≡ text) × TookAll texts runs

-- where the worst is fine, each child took all of its text
abbrev pub FineTookAll : Type 0
FineTookAll = (command : Command) (texts : List (List ℕ)) (runs : List ChildRun) → EachFed command texts runs → worst_of texts runs ≡ Fine → TookAll texts runs

-- where the worst is a failure, a call failed
abbrev pub FailuresHaveCalls : Type 0
FailuresHaveCalls = (command : Command) (texts : List (List ℕ)) (runs : List ChildRun) → EachFed command texts runs → worst_of texts runs ≡ Failed → SomeFailed (calls_of runs)
