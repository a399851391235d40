-- What the last program that wasn't started does.
use Rattle.std.specs.Prelude.{◌≡◌, ℕ, Bool, cond, List, ◌++◌, length, take, drop, Option}
use Rattle.pm_host.specs.declared.answers.Fed.{Fed}
use Rattle.pm_host.specs.declared.answers.Fed.TheVariants.{Took as FedSome, Closed, Failed as FeedFailed}
use Rattle.pm_host.specs.declared.answers.Got.{Got}
use Rattle.pm_host.specs.declared.answers.Got.TheVariants.{Got as GotSome, Failed as GotFailed}
use Rattle.pm_overlay.specs.Given.{code_of, output_of, bytes_or_none, echoes_where}
use Rattle.pm_overlay.specs.declared.programs.Given.{Given}
use Rattle.pm_overlay.specs.declared.programs.Programs.{Programs}

-- what is left of the last program's output
abbrev pub left_in : Programs → List ℕ
left_in p = drop p.at p.output

-- the program was started
pub record Starts (answer : Option Given) (want : Bool) (old new : Programs) : Type 0 where
  pub code : new.code ≡ code_of answer
  pub left : left_in new ≡ bytes_or_none (output_of answer)
  pub echoes : new.echoes ≡ echoes_where (output_of answer) want
  pub given : new.given ≡ old.given

-- the program took this input
pub record Takes (piece : List ℕ) (old new : Programs) : Type 0 where
  pub left : left_in new ≡ cond old.echoes (left_in old ++ piece) (left_in old)
  pub code : new.code ≡ old.code
  pub echoes : new.echoes ≡ old.echoes
  pub given : new.given ≡ old.given

-- so many bytes of its output came
pub record Gives (count : ℕ) (old new : Programs) : Type 0 where
  pub left : left_in new ≡ drop count (left_in old)
  pub code : new.code ≡ old.code
  pub given : new.given ≡ old.given

-- the program took all of the piece, unless the call failed
abbrev pub IsFedAll : List ℕ → Programs → Programs → Fed → Type 0
IsFedAll piece old new (FedSome count) = (count ≡ length piece) × Takes piece old new
IsFedAll piece old new Closed = ⊥
IsFedAll piece old new FeedFailed = Unit {0}

-- what came is the next of the output
abbrev pub IsTaken : ℕ → List ℕ → Programs → Programs → Got → Type 0
IsTaken most room old new (GotSome count) = (take count room ≡ take most (left_in old)) × Gives count old new
IsTaken most room old new GotFailed = ⊥
