-- What a tree of files that is only read tells of itself, and what its calls answer.
use Rattle.std.specs.Prelude.{◌≡◌, Option, Some, None}
use Rattle.pm_host.specs.World.{World, IsAnswerTo, IsRight}
use Rattle.pm_host.specs.Told.{Tells}
use Rattle.pm_host.specs.declared.calls.Call.{Call}
use Rattle.pm_host.specs.declared.calls.Answer.{Answer}

-- it holds of the world, where one is told
abbrev pub Holds : Option World → (World → Type 0) → Type 0
Holds None P = Unit {0}
Holds (Some w) P = P w

-- the same world is told, or none any more
abbrev pub Stays : Option World → Option World → Type 0
Stays old new = Tells (λ v w. w ≡ v) old new

-- one call that changes nothing, with its answer
pub record Asks (call : Call) (answer : Answer) (old new : Option World) : Type 0 where
  pub fits : IsAnswerTo call answer
  pub stays : Stays old new
  pub right : Holds new (IsRight call answer)
