-- The law of the lock.
use Rattle.std.specs.Prelude.{◌≡◌, ℕ, Bool, false, ◌||◌, List, [], ◌∷◌, ◌++◌, Option, Some, slice_get}
use Rattle.pm_host.specs.World.{World}
use Rattle.pm_host.specs.Runs.{after_calls}
use Rattle.pm_host.specs.declared.answers.Removed.TheVariants.{Removed as RemovedDone}
use Rattle.pm_journal.specs.declared.appending.AppendEnd.TheVariants.{Done}
use Rattle.pm_turns.specs.declared.writers.Delivery.{Delivery}
use Rattle.pm_turns.specs.declared.writers.Place.{Place}
use Rattle.pm_turns.specs.declared.writers.Place.TheVariants.{Gone}
use Rattle.pm_turns.specs.declared.writers.Writer.{Writer}
use Rattle.pm_turns.specs.Turning.{Turning, Event, text, rule_of, opens, run}
use Rattle.pm_turns.specs.Calls.{BringTo, calls_of}
use Rattle.pm_turns.specs.Trees.{Has, AllMayAnswer, all_calls}
use Rattle.pm_turns.specs.Order.{InOrder, AtRest, IsBetween, IsClean, IsPrefixOf, some_keeps, got_lock, is_among, IsOnce}

-- how it begins: the mailbox, whether a lock file is there, the writers
pub record Opening : Type 0 where
  pub mailbox : Option (List ℕ)
  pub locked : Bool
  pub writers : List Writer

-- the turns before the first one
abbrev pub opened : Opening → Turning
opened o = opens o.mailbox o.locked o.writers

-- it holds over every opening and schedule, up to the first forced removal
abbrev pub Always : (Opening → Turning → Type 0) → Type 0
Always P = (o : Opening) (events : List Event) → (run events (opened o)).forced ≡ false → P o (run events (opened o))

-- it holds of each writer, by its number and where it stands
abbrev pub Each : (ℕ → Place → Type 0) → Turning → Type 0
Each P s = (w : ℕ) (d : Delivery) → slice_get s.writers w ≡ Some d → P w d.place

-- where the lock is free all have ended that got it, and the mailbox has its opening content and just what they added, in order
abbrev pub RestsWhereFree : Opening → Turning → Type 0
RestsWhereFree o s = s.locked ≡ false → AtRest (text o.mailbox) s

-- at each moment the mailbox has its opening content, what was added in order, and a beginning of one piece
abbrev pub IsInOrder : Opening → Turning → Type 0
IsInOrder o s = InOrder (text o.mailbox) s

-- at most one writer is between the getting of the lock and the answer to its own removal
abbrev pub OneAtATime : Opening → Turning → Type 0
OneAtATime o s = Each (λ v p. Each (λ w q. IsBetween p → IsBetween q → v ≡ w) s) s

-- no append finds a folder, or a file that another made in between
abbrev pub EachClean : Opening → Turning → Type 0
EachClean o s = Each (λ w p. IsClean p) s

-- the lock is there just where one has it, the opening had it, or a writer's own removal failed
abbrev pub LockIsKept : Opening → Turning → Type 0
LockIsKept o s = s.locked ≡ (o.locked || some_keeps s.writers)

-- the order has each writer that got the lock, once
abbrev pub OrderIsWhole : Opening → Turning → Type 0
OrderIsWhole o s = IsOnce s.order × Each (λ w p. is_among s.order w ≡ got_lock p) s

-- who got the lock before stands before in the order, whatever comes
abbrev pub OrderGrows : Type 0
OrderGrows = (s : Turning) (events : List Event) → IsPrefixOf s.order (run events s).order

-- the pieces one after another
abbrev pub all_pieces : List Writer → List ℕ
all_pieces [] = []
all_pieces (w ∷ ws) = w.piece ++ all_pieces ws

-- each writer was done and gave the lock back, no lock was forced, and the mailbox has all pieces in the writers' order
pub record AllDelivered (o : Opening) (s : Turning) : Type 0 where
  pub unforced : s.forced ≡ false
  pub free : s.locked ≡ false
  pub done : Each (λ w p. p ≡ Gone Done RemovedDone) s
  pub is : text s.mailbox ≡ text o.mailbox ++ all_pieces o.writers

-- where no lock file is there, some schedule delivers all
abbrev pub SomeDeliversAll : Type 0
SomeDeliversAll = (o : Opening) → o.locked ≡ false → (events : List Event) × AllDelivered o (run events (opened o))

-- by every schedule each writer makes the calls of the taking of its lock, then those of the append of its piece with its sync,
-- then one removal of the lock, and they bring it to where it stands
abbrev pub EachDelivers : Type 0
EachDelivers = (lock name : List ℕ) (o : Opening) (events : List Event) (w : ℕ) (writer : Writer) (d : Delivery)
    → slice_get o.writers w ≡ Some writer → slice_get (run events (opened o)).writers w ≡ Some d
    → BringTo lock name (rule_of writer) writer.piece d.place (calls_of lock name w events (opened o))

-- in a tree of files with this mailbox and this lock the calls of a schedule are answered as a host may answer them, and
-- leave the mailbox and the lock of the schedule's end
abbrev pub StandsInTree : Type 0
StandsInTree = (lock name : List ℕ) → (lock ≡ name → ⊥) → (s : Turning) (events : List Event) (w : World)
    → Has lock name s.mailbox s.locked w → AllMayAnswer (all_calls lock name events s) w
    × Has lock name (run events s).mailbox (run events s).locked (after_calls (all_calls lock name events s) w)
