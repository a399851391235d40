-- What a host in memory has, what it tells, and what each of its calls does.
use Rattle.std.specs.Prelude.{◌≡◌, ℕ, ℤ, ◌⊎◌, Bool, true, false, ◌&&◌, ◌==◌, leb, cond, List, [], ◌∷◌, ◌++◌, length, Option, Some, None, IsSome}
use Rattle.pm_host.specs.World.{World, IsFile, Step, IsFailed, world_with}
use Rattle.pm_host.specs.Told.{HostView, Makes, Rose}
use Rattle.pm_host.specs.declared.answers.Child.{Child}
use Rattle.pm_host.specs.declared.answers.Child.TheVariants.{NoChild}
use Rattle.pm_host.specs.declared.answers.Took.TheVariants.{Took as TookSome}
use Rattle.pm_host.specs.declared.calls.Call.{Call}
use Rattle.pm_host.specs.declared.calls.Call.TheVariants.{Read, Create, Append, Sync, Cut as CutTo, Remove, Rename, MakeFolder, Names, Age, Sleep, Now, Start, Feed, Finish}
use Rattle.pm_host.specs.declared.calls.Answer.{Answer}
use Rattle.pm_host.specs.declared.calls.Answer.TheVariants.{Read as AnswerRead, Append as AnswerAppend, Memory as AnswerMemory}
use Rattle.pm_host.specs.declared.calls.Logged.{Logged}
use Rattle.pm_host.specs.declared.command.Script.{Script}
use Rattle.pm_host.specs.declared.nodes.Change.{Change}
use Rattle.pm_host.specs.declared.nodes.Node.{Node}
use Rattle.pm_memory.specs.Counts.{risen}
use Rattle.pm_memory.specs.Folders.{CantList}
use Rattle.pm_memory.specs.Node.{NoFile, IsFolder, part_of}
use Rattle.pm_memory.specs.Plan.{failing_in, limits_in, is_among, least}
use Rattle.pm_memory.specs.Tree.{world_in, with_others, no_files, child_at}
use Rattle.pm_memory.specs.declared.calls.Calls.{Calls}
use Rattle.pm_memory.specs.declared.host.MemoryHost.{MemoryHost}
use Rattle.pm_memory.specs.declared.plan.Plan.{Plan}

-- the files, whether or not the host tells them
abbrev pub world_of : MemoryHost → World
world_of h = world_in h.tree

-- which calls are to fail and which are limited
abbrev pub plan_of : MemoryHost → Plan
plan_of h = h.plan

-- the numbers of the calls that are to fail
abbrev pub failing_of : MemoryHost → List ℕ
failing_of h = failing_in h.plan

-- the numbers of the calls that are limited, each with the most that the call takes
abbrev pub limits_of : MemoryHost → List (ℕ × ℕ)
limits_of h = limits_in h.plan

-- the list of calls, and the counts
abbrev pub record_of : MemoryHost → Calls
record_of h = h.calls

-- the calls that it took
abbrev pub calls_of : MemoryHost → List Logged
calls_of h = h.calls.list.items

-- for how many calls the list was reserved
abbrev pub reserved_of : MemoryHost → ℕ
reserved_of h = h.calls.reserved

-- how many calls came
abbrev pub came_of : MemoryHost → ℕ
came_of h = h.calls.came

-- its count of faults
abbrev pub faults_of : MemoryHost → ℕ
faults_of h = h.calls.faults

-- how many calls lacked memory
abbrev pub starved_of : MemoryHost → ℕ
starved_of h = h.calls.starved

-- the number of the call that comes next
abbrev pub number_of : MemoryHost → ℕ
number_of h = risen (came_of h)

-- the call that comes next is to fail
abbrev pub is_to_fail : MemoryHost → Bool
is_to_fail h = is_among (number_of h) (failing_of h)

-- no more calls came than were reserved, and none lacked memory
abbrev pub is_telling : MemoryHost → Bool
is_telling h = leb (came_of h) (reserved_of h) && (starved_of h == 0)

-- whether a child runs
abbrev pub child_of : MemoryHost → Child
child_of h = child_at h.tree

-- what it tells
abbrev pub host_view : MemoryHost → HostView
host_view h = record {
  world = cond (is_telling h) (Some (world_of h)) None;
  calls = cond (is_telling h) (Some (calls_of h)) None;
  faults = faults_of h;
  child = child_of h;
}

-- of two things that are told at the same time, both are told where one is
pub both_told : {A B : Type 0} (b : Bool) (x : A) (y : B)
    → IsSome (cond b (Some x) None) → IsSome (cond b (Some y) None)
both_told true x y told = told
both_told false x y told = told

-- a host as it is made, with room for so many calls
pub record IsFresh (start : ℤ) (count : ℕ) (h : MemoryHost) : Type 0 where
  pub world : world_of h ≡ no_files start
  pub calls : calls_of h ≡ []
  pub reserved : reserved_of h ≡ count
  pub came : came_of h ≡ 0
  pub faults : faults_of h ≡ 0
  pub starved : starved_of h ≡ 0
  pub failing : failing_of h ≡ []
  pub limits : limits_of h ≡ []
  pub child : child_of h ≡ NoChild

-- the world with one batch of changes by others more
abbrev pub with_batch : List Change → World → World
with_batch changes w = with_others (w.others ++ changes ∷ []) w

-- the world with one script of a child more
abbrev pub with_script : Script → World → World
with_script script w = record { nodes = w.nodes; moment = w.moment; others = w.others; children = w.children ++ script ∷ []; inputs = w.inputs }

-- the node was put at the name, whatever stood there
abbrev pub IsPut : List ℕ → Option Node → MemoryHost → MemoryHost → Type 0
IsPut name this old new = world_of new ≡ world_with (world_of old) name this

-- the batch of changes is the last that others will make
abbrev pub IsToCome : List Change → MemoryHost → MemoryHost → Type 0
IsToCome changes old new = world_of new ≡ with_batch changes (world_of old)

-- the script is the last that children will use
abbrev pub IsScripted : Script → MemoryHost → MemoryHost → Type 0
IsScripted script old new = world_of new ≡ with_script script (world_of old)

-- no node of the kind that the call works on stands at its name, or a folder whose names can't all be told
abbrev pub IsWrongKind : Call → World → Type 0
IsWrongKind (Read name at room) w = NoFile (w.nodes name)
IsWrongKind (Append name piece) w = NoFile (w.nodes name)
IsWrongKind (Sync name) w = NoFile (w.nodes name)
IsWrongKind (CutTo name len) w = NoFile (w.nodes name)
IsWrongKind (Remove name) w = IsFolder (w.nodes name)
IsWrongKind (Rename from to) w = NoFile (w.nodes from)
IsWrongKind (MakeFolder name) w = IsFile (w.nodes name)
IsWrongKind (Names folder) w = CantList w.nodes folder
IsWrongKind (Age name) w = IsFolder (w.nodes name)
IsWrongKind call w = ⊥

-- the answer gives as much as room and content allow, or takes as much as piece and limit allow
abbrev pub IsMost : Call → Answer → MemoryHost → Type 0
IsMost (Read name at room) (AnswerRead bytes) h = bytes ≡ part_of ((world_of h).nodes name) at room
IsMost (Append name piece) (AnswerAppend (TookSome count)) h = count ≡ least (number_of h) (limits_of h) (length piece)
IsMost call answer h = Unit {0}

-- the call takes memory for the node that it makes or adds to, for the names that it lists, or for what a child takes
abbrev pub TakesMemory : Call → Type 0
TakesMemory (Create name) = Unit {0}
TakesMemory (Append name piece) = Unit {0}
TakesMemory (Rename from to) = Unit {0}
TakesMemory (MakeFolder name) = Unit {0}
TakesMemory (Names folder) = Unit {0}
TakesMemory (Start command want) = Unit {0}
TakesMemory (Feed piece) = Unit {0}
TakesMemory call = ⊥

-- why a call may fail: its number was given to fail, no node of its kind stands there, or memory was wanting
abbrev pub MayFail : Call → MemoryHost → MemoryHost → Type 0
MayFail call old new =
    (is_to_fail old ≡ true)
    ⊎ (IsWrongKind call (world_of old) ⊎ (TakesMemory call × Rose (starved_of old) (starved_of new)))

-- the call fails where its number was given to fail; asking the moment and sleeping never fail
abbrev pub FailsAsTold : Call → Answer → MemoryHost → Type 0
FailsAsTold (Sleep seconds) answer h = Unit {0}
FailsAsTold Now answer h = Unit {0}
FailsAsTold call answer h = is_to_fail h ≡ true → IsFailed answer

-- the call lacked memory for its answer
abbrev pub IsWanting : Answer → Type 0
IsWanting AnswerMemory = Unit {0}
IsWanting other = ⊥

-- the counts after a call
pub record Counted (answer : Answer) (old new : MemoryHost) : Type 0 where
  pub came : came_of new ≡ risen (came_of old)
  pub failed : IsFailed answer → faults_of new ≡ risen (faults_of old)
  pub steady : (IsFailed answer → ⊥) → faults_of new ≡ faults_of old
  pub starved : (starved_of new ≡ starved_of old) ⊎ (starved_of new ≡ risen (starved_of old))

-- the world goes as the call and its answer say; but where others act, memory may be wanting for what they do
abbrev pub StepsUnlessStarved : Call → Answer → MemoryHost → MemoryHost → Type 0
StepsUnlessStarved (Sleep seconds) answer old new = Step (Sleep seconds) answer (world_of old) (world_of new) ⊎ Rose (starved_of old) (starved_of new)
StepsUnlessStarved Finish answer old new = Step Finish answer (world_of old) (world_of new) ⊎ Rose (starved_of old) (starved_of new)
StepsUnlessStarved call answer old new = Step call answer (world_of old) (world_of new)

-- one call of a host in memory: what every host does, and more, which holds where it tells no more, too
pub record Serves (call : Call) (answer : Answer) (old new : MemoryHost) : Type 0 where
  pub makes : Makes call answer (host_view old) (host_view new)
  pub step : StepsUnlessStarved call answer old new
  pub most : IsMost call answer old
  pub to_fail : FailsAsTold call answer old
  pub cause : IsFailed answer → MayFail call old new
  pub wanting : IsWanting answer → Rose (starved_of old) (starved_of new)
  pub counted : Counted answer old new
  pub quiet : is_telling new ≡ false → calls_of new ≡ calls_of old
  pub reserved : reserved_of new ≡ reserved_of old
  pub plan : plan_of new ≡ plan_of old
