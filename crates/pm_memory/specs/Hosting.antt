-- A call of a host in memory before it is counted and listed: it is done in the tree or refused.
use Rattle.std.specs.Prelude.{◌≡◌, ℕ, true, false, List, length, take}
use Rattle.pm_host.specs.World.{Step, IsFailed, after_child}
use Rattle.pm_host.specs.declared.answers.Child.TheVariants.{NoChild}
use Rattle.pm_host.specs.declared.answers.Fed.{Fed}
use Rattle.pm_host.specs.declared.answers.Took.TheVariants.{Took as TookSome}
use Rattle.pm_host.specs.declared.calls.Answer.{Answer}
use Rattle.pm_host.specs.declared.calls.Answer.TheVariants.{Read as AnswerRead, Append as AnswerAppend, Feed as AnswerFeed, Take as AnswerTake, Failed as AnswerFailed}
use Rattle.pm_host.specs.declared.calls.Call.{Call}
use Rattle.pm_host.specs.declared.calls.Call.TheVariants.{Read, Append, Feed, Take}
use Rattle.pm_memory.specs.Host.{world_of, plan_of, record_of, is_to_fail, IsWrongKind, IsMost, TakesMemory}
use Rattle.pm_memory.specs.Node.{Explains}
use Rattle.pm_memory.specs.Tree.{child_at}
use Rattle.pm_memory.specs.declared.host.MemoryHost.{MemoryHost}
use Rattle.pm_memory.specs.declared.tree.Denied.{Denied}

-- a call was done
pub record Does (call : Call) (answer : Answer) (old new : MemoryHost) : Type 0 where
  pub step : Step call answer (world_of old) (world_of new)
  pub most : IsMost call answer old
  pub turn : is_to_fail old ≡ false
  pub success : IsFailed answer → ⊥
  pub plan : plan_of new ≡ plan_of old
  pub calls : record_of new ≡ record_of old
  pub child : child_at new.tree ≡ after_child call answer (child_at old.tree)

-- a read was done, and so many bytes came to the front of the room
abbrev pub DoesRead : List ℕ → ℕ → List ℕ → List ℕ → MemoryHost → ℕ → Type 0
DoesRead name at before room h count = Does (Read name at (length before)) (AnswerRead (take count room)) h h

-- an append was done, and so many bytes were added
abbrev pub DoesAppend : List ℕ → List ℕ → MemoryHost → MemoryHost → ℕ → Type 0
DoesAppend name piece old new count = Does (Append name piece) (AnswerAppend (TookSome count)) old new

-- a feed was done
abbrev pub DoesFeed : List ℕ → MemoryHost → MemoryHost → Fed → Type 0
DoesFeed piece old new fed = Does (Feed piece) (AnswerFeed fed) old new

-- a take was done, and so many bytes came to the front of the room
abbrev pub DoesTake : List ℕ → List ℕ → MemoryHost → MemoryHost → ℕ → Type 0
DoesTake before room old new count = Does (Take (length before)) (AnswerTake (take count room)) old new

-- a child was waited for, before others act
pub record Ends (answer : Answer) (old new : MemoryHost) : Type 0 where
  pub world : world_of new ≡ world_of old
  pub turn : is_to_fail old ≡ false
  pub success : IsFailed answer → ⊥
  pub plan : plan_of new ≡ plan_of old
  pub calls : record_of new ≡ record_of old
  pub child : child_at new.tree ≡ NoChild

-- a call was refused
pub record Denies (call : Call) (old new : MemoryHost) (refused : Denied) : Type 0 where
  pub world : world_of new ≡ world_of old
  pub cause : Explains (is_to_fail old ≡ true) (IsWrongKind call (world_of old)) (TakesMemory call) refused
  pub plan : plan_of new ≡ plan_of old
  pub calls : record_of new ≡ record_of old
  pub child : child_at new.tree ≡ after_child call AnswerFailed (child_at old.tree)
