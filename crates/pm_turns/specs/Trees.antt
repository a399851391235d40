-- The calls of all writers in a tree of files.
use Rattle.std.specs.Prelude.{◌≡◌, ℕ, Bool, cond, List, [], ◌∷◌, ◌++◌, Option, Some, None}
use Rattle.pm_host.specs.World.{World, IsRight, IsFile, after_call}
use Rattle.pm_host.specs.declared.answers.Aged.TheVariants.{Age as AgeIs}
use Rattle.pm_host.specs.declared.calls.Call.{Call}
use Rattle.pm_host.specs.declared.calls.Call.TheVariants.{Age as CallAge}
use Rattle.pm_host.specs.declared.calls.Answer.{Answer}
use Rattle.pm_host.specs.declared.calls.Answer.TheVariants.{Age as AnswerAge}
use Rattle.pm_host.specs.declared.calls.Logged.{Logged}
use Rattle.pm_host.specs.declared.nodes.Node.{Node}
use Rattle.pm_host.specs.declared.nodes.Node.TheVariants.{File as AFile}
use Rattle.pm_turns.specs.Turning.{Turning, Event, happens}
use Rattle.pm_turns.specs.Calls.{made}

-- a file of these bytes stands there, or nothing
abbrev pub Holds : Option Node → Option (List ℕ) → Type 0
Holds (Some (AFile f)) (Some bytes) = f.bytes ≡ bytes
Holds None None = Unit {0}
Holds other bytes = ⊥

-- a lock file is empty
abbrev pub lock_file : Bool → Option (List ℕ)
lock_file locked = cond locked (Some []) None

-- this mailbox and this lock stand in the tree, and nobody else will act
pub record Has (lock name : List ℕ) (mailbox : Option (List ℕ)) (locked : Bool) (w : World) : Type 0 where
  pub box : Holds (w.nodes name) mailbox
  pub file : Holds (w.nodes lock) (lock_file locked)
  pub alone : w.others ≡ []

-- a host may answer so in this tree; how old a lock file is, isn't asked of the tree
abbrev pub MayAnswer : Call → Answer → World → Type 0
MayAnswer (CallAge name) (AnswerAge (AgeIs n)) w = IsFile (w.nodes name)
MayAnswer call answer w = IsRight call answer w

-- each in the tree that the calls before it left
abbrev pub AllMayAnswer : List Logged → World → Type 0
AllMayAnswer [] w = Unit {0}
AllMayAnswer (c ∷ cs) w = MayAnswer c.call c.answer w × AllMayAnswer cs (after_call c.call c.answer w)

-- the calls of all writers, in the order of the schedule
abbrev pub all_calls : List ℕ → List ℕ → List Event → Turning → List Logged
all_calls lock name [] s = []
all_calls lock name (e ∷ es) s = made lock name s e ++ all_calls lock name es (happens s e)
