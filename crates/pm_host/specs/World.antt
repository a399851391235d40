-- A tree of files, what each call of a host may answer over it, and what the call makes of it.
use Rattle.std.specs.Prelude.{◌≡◌, ◌≤◌, ℕ, ℤ, pos, ◌+ℤ◌, ◌-ℤ◌, int_le, nat_abs, ◌-◌, ◌^◌, cond, Bool, true, false, List, [], ◌∷◌, ◌++◌, length, take, drop, Option, Some, None, bytes_eq, nat_eq, nat_lt, Contains}
use Rattle.pm_host.specs.declared.nodes.Node.{Node}
use Rattle.pm_host.specs.declared.nodes.Node.TheVariants.{File as AFile, Folder as AFolder}
use Rattle.pm_host.specs.declared.answers.Child.{Child}
use Rattle.pm_host.specs.declared.answers.Looked.{Looked}
use Rattle.pm_host.specs.declared.answers.Looked.TheVariants.{File as LookedFile, Folder as LookedFolder, Nothing, Failed as LookFailed}
use Rattle.pm_host.specs.declared.answers.Took.{Took}
use Rattle.pm_host.specs.declared.answers.Took.TheVariants.{Took as TookSome, Failed as TookFailed}
use Rattle.pm_host.specs.declared.answers.Made.{Made}
use Rattle.pm_host.specs.declared.answers.Made.TheVariants.{Made as MadeNew, Exists, Failed as MadeFailed}
use Rattle.pm_host.specs.declared.answers.Cut.{Cut}
use Rattle.pm_host.specs.declared.answers.Cut.TheVariants.{Cut as CutDone, Failed as CutFailed}
use Rattle.pm_host.specs.declared.answers.Synced.{Synced}
use Rattle.pm_host.specs.declared.answers.Synced.TheVariants.{Synced as SyncedDone, Failed as SyncFailed}
use Rattle.pm_host.specs.declared.answers.Removed.{Removed}
use Rattle.pm_host.specs.declared.answers.Removed.TheVariants.{Removed as RemovedDone, Absent, Failed as RemoveFailed}
use Rattle.pm_host.specs.declared.answers.Moved.{Moved}
use Rattle.pm_host.specs.declared.answers.Moved.TheVariants.{Moved as MovedDone, Taken, Failed as MoveFailed}
use Rattle.pm_host.specs.declared.answers.Aged.{Aged}
use Rattle.pm_host.specs.declared.answers.Aged.TheVariants.{Age as AgeOf, Absent as AgeAbsent, Failed as AgeFailed}
use Rattle.pm_host.specs.declared.answers.Started.TheVariants.{Started as StartedOk, Failed as StartFailed}
use Rattle.pm_host.specs.declared.answers.Fed.{Fed}
use Rattle.pm_host.specs.declared.answers.Fed.TheVariants.{Took as FedSome, Closed, Failed as FeedFailed}
use Rattle.pm_host.specs.declared.answers.Finished.TheVariants.{Failed as FinishFailed}
use Rattle.pm_host.specs.declared.answers.Child.TheVariants.{NoChild, Feeding, Taking}
use Rattle.pm_host.specs.declared.command.Command.{Command}
use Rattle.pm_host.specs.declared.command.ChildInput.{ChildInput}
use Rattle.pm_host.specs.declared.command.Script.{Script}
use Rattle.pm_host.specs.declared.calls.Call.{Call}
use Rattle.pm_host.specs.declared.calls.Call.TheVariants.{Look, Read, Create, Append, Sync, Cut as CutTo, Remove, Rename, MakeFolder, Names, Age, Sleep, Now, Start, Feed, Take, Finish}
use Rattle.pm_host.specs.declared.nodes.Change.{Change}
use Rattle.pm_host.specs.declared.nodes.Change.TheVariants.{Append as ChangeAppend, Create as ChangeCreate, Remove as ChangeRemove}
use Rattle.pm_host.specs.declared.calls.Answer.{Answer}
use Rattle.pm_host.specs.declared.calls.Answer.TheVariants.{Look as AnswerLook, Read as AnswerRead, Create as AnswerCreate, Append as AnswerAppend, Sync as AnswerSync, Cut as AnswerCut, Remove as AnswerRemove, Rename as AnswerRename, MakeFolder as AnswerMakeFolder, Names as AnswerNames, Age as AnswerAge, Slept, Now as AnswerNow, Start as AnswerStart, Feed as AnswerFeed, Take as AnswerTake, Finish as AnswerFinish, Failed as AnswerFailed, Memory as AnswerMemory}

-- what stands at each name
abbrev pub Nodes : Type 0
Nodes = List ℕ → Option Node

-- a tree of files with its moment
pub record World : Type 0 where
  pub nodes : Nodes
  pub moment : ℤ
  -- the batches of changes that others will make
  pub others : List (List Change)
  -- what the next children will do
  pub children : List Script
  -- the children that were started, each with the bytes that it took
  pub inputs : List ChildInput

-- the nodes with this at the name
abbrev pub put : Nodes → List ℕ → Option Node → Nodes
put nodes name this = λ q. cond (bytes_eq name q) this (nodes q)

-- the world with this at the name
abbrev pub world_with : World → List ℕ → Option Node → World
world_with w name this = record { nodes = put w.nodes name this; moment = w.moment; others = w.others; children = w.children; inputs = w.inputs }

-- what stands there with these bytes more, where a file stands
abbrev pub grown : Option Node → List ℕ → Option Node
grown (Some (AFile f)) more = Some (AFile (record { bytes = f.bytes ++ more; made = f.made }))
grown (Some AFolder) more = Some AFolder
grown None more = None

-- what stands there with the first bytes alone, where a file stands
abbrev pub kept : Option Node → ℕ → Option Node
kept (Some (AFile f)) len = Some (AFile (record { bytes = take len f.bytes; made = f.made }))
kept (Some AFolder) len = Some AFolder
kept None len = None

-- the world after a `create`
abbrev pub after_create : Answer → List ℕ → World → World
after_create (AnswerCreate MadeNew) name w = world_with w name (Some (AFile (record { bytes = []; made = w.moment })))
after_create other name w = w

-- the world after an `append`
abbrev pub after_append : Answer → List ℕ → List ℕ → World → World
after_append (AnswerAppend (TookSome n)) name piece w = world_with w name (grown (w.nodes name) (take n piece))
after_append other name piece w = w

-- the world after a `cut`
abbrev pub after_cut : Answer → List ℕ → ℕ → World → World
after_cut (AnswerCut CutDone) name len w = world_with w name (kept (w.nodes name) len)
after_cut other name len w = w

-- the world after a `remove`
abbrev pub after_remove : Answer → List ℕ → World → World
after_remove (AnswerRemove RemovedDone) name w = world_with w name None
after_remove other name w = w

-- a file with these bytes more, or one made of them where nothing stood
abbrev pub longer : Option Node → ℤ → List ℕ → Option Node
longer (Some (AFile f)) moment more = Some (AFile (record { bytes = f.bytes ++ more; made = f.made }))
longer (Some AFolder) moment more = Some AFolder
longer None moment more = Some (AFile (record { bytes = more; made = moment }))

-- what stands there, or a file of these bytes where nothing stood
abbrev pub made_there : Option Node → ℤ → List ℕ → Option Node
made_there (Some n) moment bytes = Some n
made_there None moment bytes = Some (AFile (record { bytes = bytes; made = moment }))

-- what stands there without a file
abbrev pub taken_away : Option Node → Option Node
taken_away (Some (AFile f)) = None
taken_away (Some AFolder) = Some AFolder
taken_away None = None

-- the world after a change by others
abbrev pub after_change : Change → World → World
after_change (ChangeAppend name bytes) w = world_with w name (longer (w.nodes name) w.moment bytes)
after_change (ChangeCreate name bytes) w = world_with w name (made_there (w.nodes name) w.moment bytes)
after_change (ChangeRemove name) w = world_with w name (taken_away (w.nodes name))

-- the world after these changes, one after the other
abbrev pub after_changes : List Change → World → World
after_changes [] w = w
after_changes (c ∷ cs) w = after_changes cs (after_change c w)

-- the world after the first of these batches, with the rest still to come
abbrev pub batch_of : List (List Change) → World → World
batch_of [] w = w
batch_of (b ∷ bs) w = after_changes b (record { nodes = w.nodes; moment = w.moment; others = bs; children = w.children; inputs = w.inputs })

-- others act: their next batch
abbrev pub after_others : World → World
after_others w = batch_of w.others w

-- so many seconds later, and no later than the greatest moment
abbrev pub later_moment : ℤ → ℕ → ℤ
later_moment m seconds = cond (int_le (m +ℤ pos seconds) (pos (2 ^ 63 - 1))) (m +ℤ pos seconds) (pos (2 ^ 63 - 1))

-- the world after a `sleep`: the moment moved on, and others acted
abbrev pub after_sleep : ℕ → World → World
after_sleep seconds w = after_others (record { nodes = w.nodes; moment = later_moment w.moment seconds; others = w.others; children = w.children; inputs = w.inputs })

-- how many seconds ago a file was made; one of a later moment is new
abbrev pub age_at : ℤ → ℤ → ℕ
age_at now made = cond (int_le made now) (nat_abs (now -ℤ made)) 0

-- the file is at the other name
abbrev pub after_rename : Answer → List ℕ → List ℕ → World → World
after_rename (AnswerRename MovedDone) from to w = world_with (world_with w to (w.nodes from)) from None
after_rename other from to w = w

-- the world after a `make_folder`
abbrev pub after_make_folder : Answer → List ℕ → World → World
after_make_folder (AnswerMakeFolder MadeNew) name w = world_with w name (Some AFolder)
after_make_folder other name w = w

-- the next child is started; it took nothing yet
abbrev pub started_with : Command → World → World
started_with command w = record { nodes = w.nodes; moment = w.moment; others = w.others; children = drop 1 w.children; inputs = w.inputs ++ record { command = command; bytes = [] } ∷ [] }

-- the world after a `start`
abbrev pub after_start : Answer → Command → World → World
after_start (AnswerStart StartedOk) command w = started_with command w
after_start other command w = w

-- the last child took these bytes too
abbrev pub last_fed : List ChildInput → List ℕ → List ChildInput
last_fed [] more = []
last_fed (i ∷ []) more = record { command = i.command; bytes = i.bytes ++ more } ∷ []
last_fed (i ∷ (j ∷ js)) more = i ∷ last_fed (j ∷ js) more

-- the child that was started last took these bytes too
abbrev pub fed_with : List ℕ → World → World
fed_with more w = record { nodes = w.nodes; moment = w.moment; others = w.others; children = w.children; inputs = last_fed w.inputs more }

-- the world after a `feed`
abbrev pub after_feed : Answer → List ℕ → World → World
after_feed (AnswerFeed (FedSome n)) piece w = fed_with (take n piece) w
after_feed other piece w = w

-- what a call with this answer makes of the world
abbrev pub after_call : Call → Answer → World → World
after_call (Look name) answer w = w
after_call (Read name at room) answer w = w
after_call (Create name) answer w = after_create answer name w
after_call (Append name piece) answer w = after_append answer name piece w
after_call (Sync name) answer w = w
after_call (CutTo name len) answer w = after_cut answer name len w
after_call (Remove name) answer w = after_remove answer name w
after_call (Rename from to) answer w = after_rename answer from to w
after_call (MakeFolder name) answer w = after_make_folder answer name w
after_call (Names folder) answer w = w
after_call (Age name) answer w = w
after_call (Sleep seconds) answer w = after_sleep seconds w
after_call Now answer w = w
after_call (Start command want) answer w = after_start answer command w
after_call (Feed piece) answer w = after_feed answer piece w
after_call (Take room) answer w = w
after_call Finish answer w = after_others w

-- whether a child runs after a `start`: one that couldn't be made changes nothing
abbrev pub started_child : Answer → Child → Child
started_child (AnswerStart StartedOk) child = Feeding
started_child other child = child

-- whether a child runs after a call
abbrev pub after_child : Call → Answer → Child → Child
after_child (Start command want) answer child = started_child answer child
after_child (Take room) answer child = Taking
after_child Finish answer child = NoChild
after_child call answer child = child

-- a child runs
abbrev pub IsRunning : Child → Type 0
IsRunning NoChild = ⊥
IsRunning Feeding = Unit {0}
IsRunning Taking = Unit {0}

-- a file stands there
abbrev pub IsFile : Option Node → Type 0
IsFile (Some (AFile f)) = Unit {0}
IsFile (Some AFolder) = ⊥
IsFile None = ⊥

-- what `look` may answer over what stands there
abbrev pub LooksRight : Option Node → Looked → Type 0
LooksRight (Some (AFile f)) (LookedFile n) = n ≡ length f.bytes
LooksRight (Some (AFile f)) LookedFolder = ⊥
LooksRight (Some AFolder) (LookedFile n) = ⊥
LooksRight (Some AFolder) LookedFolder = Unit {0}
LooksRight None (LookedFile n) = ⊥
LooksRight None LookedFolder = ⊥
LooksRight (Some n) Nothing = ⊥
LooksRight None Nothing = Unit {0}
LooksRight _ LookFailed = Unit {0}

-- the bytes that `read` may give
abbrev pub ReadsRight : Option Node → ℕ → List ℕ → Type 0
ReadsRight (Some (AFile f)) at bytes = (bytes ≡ take (length bytes) (drop at f.bytes)) × (bytes ≡ [] → length f.bytes ≤ at)
ReadsRight (Some AFolder) at bytes = ⊥
ReadsRight None at bytes = ⊥

-- what `create` may answer over what stands there
abbrev pub MakesRight : Option Node → Made → Type 0
MakesRight (Some n) MadeNew = ⊥
MakesRight None MadeNew = Unit {0}
MakesRight (Some n) Exists = Unit {0}
MakesRight None Exists = ⊥
MakesRight _ MadeFailed = Unit {0}

-- what `append` may answer over what stands there
abbrev pub AppendsRight : Option Node → Took → Type 0
AppendsRight here (TookSome n) = IsFile here
AppendsRight _ TookFailed = Unit {0}

-- what `sync` may answer over what stands there
abbrev pub SyncsRight : Option Node → Synced → Type 0
SyncsRight here SyncedDone = IsFile here
SyncsRight _ SyncFailed = Unit {0}

-- what `cut` may answer over what stands there
abbrev pub CutsRight : Option Node → Cut → Type 0
CutsRight here CutDone = IsFile here
CutsRight _ CutFailed = Unit {0}

-- what `remove` may answer over what stands there
abbrev pub RemovesRight : Option Node → Removed → Type 0
RemovesRight here RemovedDone = IsFile here
RemovesRight (Some n) Absent = ⊥
RemovesRight None Absent = Unit {0}
RemovesRight _ RemoveFailed = Unit {0}

-- what `rename` may answer over what stands at the old name and at the new one
abbrev pub RenamesRight : Option Node → Option Node → Moved → Type 0
RenamesRight here None MovedDone = IsFile here
RenamesRight here (Some n) MovedDone = ⊥
RenamesRight here (Some n) Taken = Unit {0}
RenamesRight here None Taken = ⊥
RenamesRight here there MoveFailed = Unit {0}

-- what `make_folder` may answer over what stands there
abbrev pub FoldersRight : Option Node → Made → Type 0
FoldersRight None MadeNew = Unit {0}
FoldersRight (Some n) MadeNew = ⊥
FoldersRight (Some AFolder) Exists = Unit {0}
FoldersRight (Some (AFile f)) Exists = ⊥
FoldersRight None Exists = ⊥
FoldersRight _ MadeFailed = Unit {0}

-- the name of what stands in a folder under this last part
abbrev pub inside : List ℕ → List ℕ → List ℕ
inside folder part = folder ++ 47 ∷ part

-- a part of a name: it has no slash
abbrev pub is_part : List ℕ → Bool
is_part [] = true
is_part (b ∷ bs) = cond (nat_eq b 47) false (is_part bs)

-- something stands there
abbrev pub IsThere : Option Node → Type 0
IsThere (Some n) = Unit {0}
IsThere None = ⊥

-- it stands directly in the folder
abbrev pub StandsIn : Nodes → List ℕ → List ℕ → Type 0
StandsIn nodes folder part = (is_part part ≡ true) × IsThere (nodes (inside folder part))

-- each of these stands directly in the folder
abbrev pub AllStand : Nodes → List ℕ → List (List ℕ) → Type 0
AllStand nodes folder [] = Unit {0}
AllStand nodes folder (part ∷ parts) = StandsIn nodes folder part × AllStand nodes folder parts

-- it comes before the other in the order of bytes
abbrev pub comes_before : List ℕ → List ℕ → Bool
comes_before a [] = false
comes_before [] (y ∷ ys) = true
comes_before (x ∷ xs) (y ∷ ys) = cond (nat_lt x y) true (cond (nat_eq x y) (comes_before xs ys) false)

-- each comes before the next
abbrev pub AreSorted : List (List ℕ) → Type 0
AreSorted [] = Unit {0}
AreSorted (a ∷ []) = Unit {0}
AreSorted (a ∷ (b ∷ more)) = (comes_before a b ≡ true) × AreSorted (b ∷ more)

-- the parts are those that stand in the folder, in the order of their bytes, none twice
pub record ListsRight (nodes : Nodes) (folder : List ℕ) (parts : List (List ℕ)) : Type 0 where
  pub each : AllStand nodes folder parts
  pub all : (part : List ℕ) → StandsIn nodes folder part → Contains parts part
  pub sorted : AreSorted parts

-- what `age` may answer over what stands there
abbrev pub AgesRight : Option Node → ℤ → Aged → Type 0
AgesRight (Some (AFile f)) now (AgeOf seconds) = seconds ≡ age_at now f.made
AgesRight (Some AFolder) now (AgeOf seconds) = ⊥
AgesRight None now (AgeOf seconds) = ⊥
AgesRight (Some n) now AgeAbsent = ⊥
AgesRight None now AgeAbsent = Unit {0}
AgesRight _ now AgeFailed = Unit {0}

-- what the call may answer in this world
abbrev pub IsRight : Call → Answer → World → Type 0
IsRight (Look name) (AnswerLook looked) w = LooksRight (w.nodes name) looked
IsRight (Read name at room) (AnswerRead bytes) w = ReadsRight (w.nodes name) at bytes
IsRight (Create name) (AnswerCreate m) w = MakesRight (w.nodes name) m
IsRight (Append name piece) (AnswerAppend took) w = AppendsRight (w.nodes name) took
IsRight (Sync name) (AnswerSync s) w = SyncsRight (w.nodes name) s
IsRight (CutTo name len) (AnswerCut cut) w = CutsRight (w.nodes name) cut
IsRight (Remove name) (AnswerRemove r) w = RemovesRight (w.nodes name) r
IsRight (Rename from to) (AnswerRename moved) w = RenamesRight (w.nodes from) (w.nodes to) moved
IsRight (MakeFolder name) (AnswerMakeFolder m) w = FoldersRight (w.nodes name) m
IsRight (Names folder) (AnswerNames parts) w = ListsRight w.nodes folder parts
IsRight (Age name) (AnswerAge aged) w = AgesRight (w.nodes name) w.moment aged
IsRight Now (AnswerNow moment) w = moment ≡ w.moment
IsRight call answer w = Unit {0}

-- one call in a world that is listed
pub record Step (call : Call) (answer : Answer) (old new : World) : Type 0 where
  pub right : IsRight call answer old
  pub made : new ≡ after_call call answer old

-- at least one byte was taken, and no more than this
abbrev pub TookAtMost : ℕ → Took → Type 0
TookAtMost most (TookSome n) = (1 ≤ n) × (n ≤ most)
TookAtMost most TookFailed = Unit {0}

-- at least one byte was taken by the child, and no more than this
abbrev pub FedAtMost : ℕ → Fed → Type 0
FedAtMost most (FedSome n) = (1 ≤ n) × (n ≤ most)
FedAtMost most Closed = Unit {0}
FedAtMost most FeedFailed = Unit {0}

-- the answer is one to this call, whatever the world
abbrev pub IsAnswerTo : Call → Answer → Type 0
IsAnswerTo (Look name) (AnswerLook looked) = Unit {0}
IsAnswerTo (Read name at room) (AnswerRead bytes) = length bytes ≤ room
IsAnswerTo (Read name at room) AnswerFailed = Unit {0}
IsAnswerTo (Create name) (AnswerCreate _) = Unit {0}
IsAnswerTo (Append name piece) (AnswerAppend took) = TookAtMost (length piece) took
IsAnswerTo (Sync name) (AnswerSync _) = Unit {0}
IsAnswerTo (CutTo name len) (AnswerCut cut) = Unit {0}
IsAnswerTo (Remove name) (AnswerRemove _) = Unit {0}
IsAnswerTo (Rename from to) (AnswerRename _) = Unit {0}
IsAnswerTo (MakeFolder name) (AnswerMakeFolder _) = Unit {0}
IsAnswerTo (Names folder) (AnswerNames parts) = Unit {0}
IsAnswerTo (Names folder) AnswerFailed = Unit {0}
IsAnswerTo (Names folder) AnswerMemory = Unit {0}
IsAnswerTo (Age name) (AnswerAge _) = Unit {0}
IsAnswerTo (Sleep seconds) Slept = Unit {0}
IsAnswerTo Now (AnswerNow moment) = Unit {0}
IsAnswerTo (Start command want) (AnswerStart _) = Unit {0}
IsAnswerTo (Feed piece) (AnswerFeed fed) = FedAtMost (length piece) fed
IsAnswerTo (Take room) (AnswerTake bytes) = length bytes ≤ room
IsAnswerTo (Take room) AnswerFailed = Unit {0}
IsAnswerTo Finish (AnswerFinish _) = Unit {0}
IsAnswerTo call answer = ⊥

-- the call failed
abbrev pub IsFailed : Answer → Type 0
IsFailed (AnswerLook LookFailed) = Unit {0}
IsFailed (AnswerCreate MadeFailed) = Unit {0}
IsFailed (AnswerAppend TookFailed) = Unit {0}
IsFailed (AnswerSync SyncFailed) = Unit {0}
IsFailed (AnswerCut CutFailed) = Unit {0}
IsFailed (AnswerRemove RemoveFailed) = Unit {0}
IsFailed (AnswerRename MoveFailed) = Unit {0}
IsFailed (AnswerMakeFolder MadeFailed) = Unit {0}
IsFailed (AnswerAge AgeFailed) = Unit {0}
IsFailed (AnswerStart StartFailed) = Unit {0}
IsFailed (AnswerFeed FeedFailed) = Unit {0}
IsFailed (AnswerFinish FinishFailed) = Unit {0}
IsFailed AnswerFailed = Unit {0}
IsFailed other = ⊥
