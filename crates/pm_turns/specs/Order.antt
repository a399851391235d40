-- What the writers have added, in which order.
use Rattle.std.specs.Prelude.{◌≡◌, ◌⊎◌, ℕ, Bool, true, false, ◌||◌, nat_eq, List, [], ◌∷◌, ◌++◌, take, Option, Some, None, slice_get}
use Rattle.pm_journal.specs.declared.appending.AppendEnd.{AppendEnd}
use Rattle.pm_journal.specs.declared.appending.AppendEnd.TheVariants.{Done, Undone, Torn, IsFolder, Raced}
use Rattle.pm_host.specs.declared.answers.Removed.{Removed}
use Rattle.pm_host.specs.declared.answers.Removed.TheVariants.{Failed as RemoveFailed}
use Rattle.pm_append.specs.Machine.{Machine as Append}
use Rattle.pm_turns.specs.declared.writers.Delivery.{Delivery}
use Rattle.pm_turns.specs.declared.writers.Place.{Place}
use Rattle.pm_turns.specs.declared.writers.Place.TheVariants.{Locking, Appending, Giving, Gone, Away}
use Rattle.pm_turns.specs.Turning.{Turning, text, delivery}

-- what an append of the piece that ended so has added
abbrev pub by_end : List ℕ → AppendEnd → List ℕ
by_end piece Done = piece
by_end piece Undone = []
by_end piece (Torn n) = take n piece
by_end piece IsFolder = []
by_end piece Raced = []

-- what a writer that stands here has added, once its append has ended
abbrev pub by_place : List ℕ → Place → List ℕ
by_place piece (Giving end) = by_end piece end
by_place piece (Gone end answer) = by_end piece end
by_place piece other = []

-- the same of a writer that is there
abbrev pub by_writer : Option Delivery → List ℕ
by_writer None = []
by_writer (Some d) = by_place d.piece d.place

-- what these writers added whose appends have ended, one after another
abbrev pub added : List Delivery → List ℕ → List ℕ
added writers [] = []
added writers (w ∷ ws) = by_writer (slice_get writers w) ++ added writers ws

-- it has got the lock, and its own removal isn't answered
abbrev pub IsBetween : Place → Type 0
IsBetween (Appending a) = Unit {0}
IsBetween (Giving end) = Unit {0}
IsBetween other = ⊥

-- it has given the lock back, or tried to
abbrev pub IsGone : Place → Type 0
IsGone (Gone end answer) = Unit {0}
IsGone other = ⊥

-- the same of a writer that is there
abbrev pub HasGone : Option Delivery → Type 0
HasGone None = ⊥
HasGone (Some d) = IsGone d.place

-- each of these has
abbrev pub AllGone : List Delivery → List ℕ → Type 0
AllGone writers [] = Unit {0}
AllGone writers (w ∷ ws) = HasGone (slice_get writers w) × AllGone writers ws

-- neither a folder was found, nor a file that another made in between
abbrev pub IsCleanEnd : AppendEnd → Type 0
IsCleanEnd IsFolder = ⊥
IsCleanEnd Raced = ⊥
IsCleanEnd other = Unit {0}

-- the same of a writer, wherever it stands
abbrev pub IsClean : Place → Type 0
IsClean (Giving end) = IsCleanEnd end
IsClean (Gone end answer) = IsCleanEnd end
IsClean other = Unit {0}

-- one text begins the other
abbrev pub IsPrefixOf : List ℕ → List ℕ → Type 0
IsPrefixOf xs ys = (rest : List ℕ) × (xs ++ rest ≡ ys)

-- the writer that appends, and what it has added so far
pub record UnderWay (s : Turning) (more : List ℕ) : Type 0 where
  pub writer : ℕ
  pub piece : List ℕ
  pub append : Append
  pub stands : slice_get s.writers writer ≡ Some (delivery piece (Appending append))
  pub prefix : IsPrefixOf more piece

-- the mailbox is its opening content, what those added that have ended, and a beginning of the piece of the one that hasn't
pub record InOrder (opening : List ℕ) (s : Turning) : Type 0 where
  pub more : List ℕ
  pub is : text s.mailbox ≡ opening ++ (added s.writers s.order ++ more)
  pub whose : (more ≡ []) ⊎ UnderWay s more

-- nobody is at it: each that got the lock has ended, and the mailbox has just what they added
pub record AtRest (opening : List ℕ) (s : Turning) : Type 0 where
  pub gone : AllGone s.writers s.order
  pub is : text s.mailbox ≡ opening ++ added s.writers s.order

-- the removal failed
abbrev pub is_failed : Removed → Bool
is_failed RemoveFailed = true
is_failed other = false

-- it has the lock, or its own removal failed
abbrev pub keeps_lock : Place → Bool
keeps_lock (Appending a) = true
keeps_lock (Giving end) = true
keeps_lock (Gone end answer) = is_failed answer
keeps_lock other = false

-- one of these does
abbrev pub some_keeps : List Delivery → Bool
some_keeps [] = false
some_keeps (d ∷ ds) = keeps_lock d.place || some_keeps ds

-- it got the lock
abbrev pub got_lock : Place → Bool
got_lock (Locking t) = false
got_lock (Away end) = false
got_lock other = true

-- the writer is among these
abbrev pub is_among : List ℕ → ℕ → Bool
is_among [] w = false
is_among (v ∷ vs) w = nat_eq v w || is_among vs w

-- nobody is there twice
abbrev pub IsOnce : List ℕ → Type 0
IsOnce [] = Unit {0}
IsOnce (v ∷ vs) = (is_among vs v ≡ false) × IsOnce vs
